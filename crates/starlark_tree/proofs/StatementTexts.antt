-- The displayed text of each form of statement, by the texts of its parts.
use Rattle.std.proofs.Common.{◌≡◌, ℕ, ◌+◌, ◌*◌, arith, replicate, List, [], ◌∷◌, ◌++◌, map, codes, Option, Some, None, Box, Vec, Global, string_bytes, refl}
use Rattle.std.proofs.Common.{ap, ◌∙◌, append_assoc}
use Rattle.std.specs.List.{flat_map, join_by}
use Rattle.std.proofs.lemmas.List.Folds.{flat_map-map}
use Rattle.std.proofs.lemmas.Grind.{common_steps, replicate_next}
use Rattle.starlark_lexer.specs.Tokens.{span_of}
use Rattle.starlark_lexer.specs.declared.span.Spanned.{Spanned}
use Rattle.starlark_tree.specs.declared.ast.operator.AssignOp.{AssignOp}
use Rattle.starlark_tree.specs.declared.ast.AssignP.{AssignP}
use Rattle.starlark_tree.specs.declared.ast.AssignTargetP.{AssignTargetP}
use Rattle.starlark_tree.specs.declared.ast.DefP.{DefP}
use Rattle.starlark_tree.specs.declared.ast.ExprP.{ExprP}
use Rattle.starlark_tree.specs.declared.ast.ForP.{ForP}
use Rattle.starlark_tree.specs.declared.ast.LoadP.{LoadP}
use Rattle.starlark_tree.specs.declared.ast.ParameterP.{ParameterP}
use Rattle.starlark_tree.specs.declared.ast.StmtP
use Rattle.starlark_tree.specs.declared.ast.TypeExprP.{TypeExprP}
use Rattle.starlark_tree.specs.Operators.{assign_operator_text}
use Rattle.starlark_tree.specs.Literals.{quoted}
use Rattle.starlark_tree.specs.Joined.{comma_separated, listed}
use Rattle.starlark_tree.specs.Printing.{indent, line, load_arg_text, maybe_type_text, shape_text, signature_text, statements_text, form_text}
use Rattle.starlark_tree.specs.Printed.{printed_expr, printed_load, printed_parameter, printed_signature, printed_stmt, printed_target, printed_target_type}
use Rattle.starlark_tree.specs.Views.{all_parameters, all_statements, boxed_type_of, form_seen, maybe_type_of, load_arg_of, shape_seen}
use Rattle.starlark_tree.proofs.PrintedLemmas.{listed_map, maybe_type_printed, parameter_texts_of, target_anywhere}
use Rattle.starlark_tree.proofs.Rows.{statements_seen_of}

twice_more : (n : ℕ) → 2 * (n + 1) ≡ (2 * n + 1) + 1
twice_more n = omega arith

pub indent_more : (n : ℕ) → indent (n + 1) ≡ indent n ++ 32 ∷ 32 ∷ []
indent_more n =
    ap (λ k. replicate {A = ℕ} k 32) (twice_more n) ∙ replicate_next (2 * n + 1) 32 ∙ ap (λ l. l ++ 32 ∷ []) (replicate_next (2 * n) 32)
    ∙ append_assoc (replicate (2 * n) 32) (32 ∷ []) (32 ∷ [])

pub ruleset indenting = (common_steps, indent_more)

joined : {X Y : Type 0} (f : X → Y) (text : Y → List ℕ) (between : List ℕ) (xs : List X) → join_by text between (map f xs)
    ≡ join_by (λ x. text (f x)) between xs
joined f text between [] = refl
joined f text between (x ∷ xs) = ap (λ l. text (f x) ++ l) (flat_map-map (λ y. between ++ text y) f xs)

module _ {P A B C D E : Type 0} where
  target_type : (ty : Option (Spanned (TypeExprP P A B C D E))) → maybe_type_text (codes " : ") (maybe_type_of ty) ≡ printed_target_type ty
  unfolding printed_target_type printed_expr
  target_type None = refl
  target_type (Some ty) = refl

  pub printed_break : (depth : ℕ) (s : StmtP.StmtP P A B C D E) → s ≡ StmtP.Break → printed_stmt depth s ≡ line depth (codes "break")
  unfolding printed_stmt
  printed_break depth s is = ap (printed_stmt depth) is

  pub printed_continue : (depth : ℕ) (s : StmtP.StmtP P A B C D E) → s ≡ StmtP.Continue → printed_stmt depth s ≡ line depth (codes "continue")
  unfolding printed_stmt
  printed_continue depth s is = ap (printed_stmt depth) is

  pub printed_pass : (depth : ℕ) (s : StmtP.StmtP P A B C D E) → s ≡ StmtP.Pass → printed_stmt depth s ≡ line depth (codes "pass")
  unfolding printed_stmt
  printed_pass depth s is = ap (printed_stmt depth) is

  pub printed_return_none : (depth : ℕ) (v : Option (Spanned (ExprP P A B C D E))) → v ≡ None → printed_stmt depth (StmtP.Return v)
      ≡ line depth (codes "return")
  unfolding printed_stmt
  printed_return_none depth v is = ap (λ v. printed_stmt depth (StmtP.Return v)) is

  pub printed_return : (depth : ℕ) (e : Spanned (ExprP P A B C D E)) → printed_stmt depth (StmtP.Return (Some e))
      ≡ line depth (codes "return " ++ printed_expr e.node)
  unfolding printed_stmt printed_expr
  printed_return depth e = refl

  pub printed_expression : (depth : ℕ) (e : Spanned (ExprP P A B C D E)) → printed_stmt depth (StmtP.Expression e) ≡ line depth (printed_expr e.node)
  unfolding printed_stmt printed_expr
  printed_expression depth e = refl

  pub printed_assign : (depth : ℕ) (a : AssignP P A B C D E)
      → printed_stmt depth (StmtP.Assign a) ≡ line depth (printed_target a.lhs.node ++ printed_target_type a.ty ++ codes " = " ++ printed_expr a.rhs.node)
  unfolding printed_stmt printed_expr
  printed_assign depth a =
      ap (λ x. line depth (x ++ maybe_type_text (codes " : ") (maybe_type_of a.ty) ++ codes " = " ++ shape_text (shape_seen a.rhs.node)))
      (target_anywhere (span_of a.lhs.span) a.lhs.node)
      ∙ ap (λ ty. line depth (printed_target a.lhs.node ++ ty ++ codes " = " ++ shape_text (shape_seen a.rhs.node))) (target_type a.ty)

  pub printed_assign_modify : (depth : ℕ) (x : Spanned (AssignTargetP P A B C D E)) (op : AssignOp) (e : Box (Spanned (ExprP P A B C D E)) Global)
      → printed_stmt depth (StmtP.AssignModify x op e) ≡ line depth (printed_target x.node ++ assign_operator_text op ++ printed_expr e.value.node)
  unfolding printed_stmt printed_expr
  printed_assign_modify depth x op e = ap (λ l. line depth (l ++ assign_operator_text op ++ shape_text (shape_seen e.value.node)))
      (target_anywhere (span_of x.span) x.node)

  pub printed_if : (depth : ℕ) (e : Spanned (ExprP P A B C D E)) (body : Box (Spanned (StmtP.StmtP P A B C D E)) Global)
      → printed_stmt depth (StmtP.If e body) ≡ line depth (codes "if " ++ printed_expr e.node ++ codes ":") ++ printed_stmt (depth + 1) body.value.node
  unfolding printed_stmt printed_expr
  printed_if depth e body = refl

  pub printed_if_else : (depth : ℕ) (e : Spanned (ExprP P A B C D E)) (blocks : Box (Spanned (StmtP.StmtP P A B C D E) × Spanned (StmtP.StmtP P A B C D E))
      Global)
      → printed_stmt depth (StmtP.IfElse e blocks)
      ≡ line depth (codes "if " ++ printed_expr e.node ++ codes ":") ++ printed_stmt (depth + 1) blocks.value.0.node
      ++ line depth (codes "else:") ++ printed_stmt (depth + 1) blocks.value.1.node
  unfolding printed_stmt printed_expr
  printed_if_else depth e blocks = refl

  pub printed_for : (depth : ℕ) (each : ForP P A B C D E)
      → printed_stmt depth (StmtP.For each)
      ≡ line depth (codes "for " ++ printed_target each.var.node ++ codes " in " ++ printed_expr each.over.node ++ codes ":")
      ++ printed_stmt (depth + 1) each.body.value.node
  unfolding printed_stmt printed_expr
  printed_for depth each =
      ap (λ l. line depth (codes "for " ++ l ++ codes " in " ++ shape_text (shape_seen each.over.node) ++ codes ":") ++ form_text (depth + 1)
      (form_seen each.body.value.node))
      (target_anywhere (span_of each.var.span) each.var.node)

  signature : (ps : List (Spanned (ParameterP P A B C D E))) (ty : Option (Box (Spanned (TypeExprP P A B C D E)) Global))
      → signature_text (all_parameters ps) (boxed_type_of ty) ≡ printed_signature ps ty
  unfolding printed_signature
  signature ps ty =
      ap (λ texts. codes "(" ++ listed texts ++ codes ")" ++ maybe_type_text (codes " -> ") (boxed_type_of ty)) (parameter_texts_of ps)
      ∙ ap (λ text. codes "(" ++ text ++ codes ")" ++ maybe_type_text (codes " -> ") (boxed_type_of ty))
      (listed_map (λ (p : Spanned (ParameterP P A B C D E)). printed_parameter p.node) ps)
      ∙ ap (λ l. codes "(" ++ comma_separated (λ (p : Spanned (ParameterP P A B C D E)). printed_parameter p.node) ps ++ codes ")" ++ l)
      (maybe_type_printed (codes " -> ") ty)

  pub printed_def : (depth : ℕ) (def : DefP P A B C D E)
      → printed_stmt depth (StmtP.Def def)
      ≡ line depth (codes "def " ++ string_bytes def.name.node.ident ++ printed_signature def.params.items def.return_type ++ codes ":")
      ++ printed_stmt (depth + 1) def.body.value.node
  unfolding printed_stmt
  printed_def depth def =
      ap (λ l. line depth (codes "def " ++ string_bytes def.name.node.ident ++ l ++ codes ":") ++ form_text (depth + 1) (form_seen def.body.value.node))
      (signature def.params.items def.return_type)

  all_statements_text : (depth : ℕ) (xs : List (Spanned (StmtP.StmtP P A B C D E)))
      → statements_text depth (all_statements xs) ≡ flat_map (λ (s : Spanned (StmtP.StmtP P A B C D E)). printed_stmt depth s.node) xs
  unfolding printed_stmt
  all_statements_text depth [] = refl
  all_statements_text depth (x ∷ xs) = ap (λ l. form_text depth (form_seen x.node) ++ l) (all_statements_text depth xs)

  pub printed_statements : (depth : ℕ) (v : Vec (Spanned (StmtP.StmtP P A B C D E)) Global)
      → printed_stmt depth (StmtP.Statements v) ≡ flat_map (λ (s : Spanned (StmtP.StmtP P A B C D E)). printed_stmt depth s.node) v.items
  unfolding printed_stmt
  printed_statements depth v = ap (statements_text depth) (statements_seen_of v) ∙ all_statements_text depth v.items

  pub printed_load_line : (depth : ℕ) (l : LoadP P A B C D E) → printed_stmt depth (StmtP.Load l) ≡ line depth (printed_load l)
  unfolding printed_stmt printed_load
  printed_load_line depth l =
      ap (λ text. line depth (codes "load(" ++ quoted (string_bytes l.module.node) ++ codes ", " ++ text ++ codes ")"))
      (joined load_arg_of load_arg_text (codes ", ") l.args.items)

pub ruleset returning = (common_steps, printed_return, printed_return_none)

pub ruleset evaluating = (common_steps, printed_expression)

pub ruleset assigning = (common_steps, printed_assign)

pub ruleset modifying = (common_steps, printed_assign_modify)

pub ruleset loading = (common_steps, printed_load_line)

pub ruleset showing = (common_steps, printed_break, printed_continue, printed_pass, printed_if, printed_if_else, printed_for, printed_def, printed_statements)
