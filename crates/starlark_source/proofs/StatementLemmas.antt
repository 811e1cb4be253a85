-- The drafts of each form of statement, by those of its parts.
use Rattle.std.proofs.Common.{◌≡◌, ℕ, zero, suc, ◌==◌, Bool, true, false, if◌then◌else◌, ◌+◌, ◌*◌, ◌<◌, ◌≤◌, List, [], ◌∷◌, ◌++◌, codes, map, length}
use Rattle.std.proofs.Common.{replicate, Option, Some, None, Box, Vec, Global, string_bytes, refl, sym, ap, ◌∙◌, append_assoc, append-nil, arith}
use Rattle.std.specs.List.{flat_map}
use Rattle.std.proofs.lemmas.Bool.{eqb-true}
use Rattle.std.proofs.lemmas.Grind.{replicate_next}
use Rattle.std.specs.Str.{bytes_eq}
use Rattle.starlark_lexer.specs.Tokens.{Text, Span, span_of, Newline, Dedent, nowhere}
use Rattle.starlark_lexer.specs.Tokens as tokens
use Rattle.starlark_lexer.specs.declared.span.Span.{Span as CodeSpan}
use Rattle.starlark_lexer.specs.declared.span.Spanned.{Spanned}
use Rattle.starlark_tree.specs.Ast as t
use Rattle.starlark_tree.specs.Ast.{Word}
use Rattle.starlark_tree.specs.Operators.{assign_operator_text}
use Rattle.starlark_tree.specs.declared.ast.operator.AssignOp.{AssignOp}
use Rattle.starlark_tree.specs.declared.ast.operator.AssignOp.TheVariants as assign
use Rattle.starlark_tree.specs.declared.ast.AssignP.{AssignP}
use Rattle.starlark_tree.specs.declared.ast.AssignTargetP as target
use Rattle.starlark_tree.specs.declared.ast.AssignTargetP.{AssignTargetP}
use Rattle.starlark_tree.specs.declared.ast.AssignTargetP.TheVariants as target_variant
use Rattle.starlark_tree.specs.declared.ast.DefP.{DefP}
use Rattle.starlark_tree.specs.declared.ast.ExprP.{ExprP}
use Rattle.starlark_tree.specs.declared.ast.ForP.{ForP}
use Rattle.starlark_tree.specs.declared.ast.LoadArgP.{LoadArgP}
use Rattle.starlark_tree.specs.declared.ast.LoadP.{LoadP}
use Rattle.starlark_tree.specs.declared.ast.ParameterP.{ParameterP}
use Rattle.starlark_tree.specs.declared.ast.StmtP as stmt
use Rattle.starlark_tree.specs.declared.ast.StmtP.TheVariants as variant
use Rattle.starlark_tree.specs.declared.ast.TypeExprP.{TypeExprP}
use Rattle.starlark_tree.specs.Views.{all_parameters, all_statements, assign_word, boxed_type_of, expression_of, form_seen, load_arg_of, maybe_type_of}
use Rattle.starlark_tree.specs.Views.{parameter_seen, payloads, shape_seen, statement_of, target_of, target_seen, word}
use Rattle.starlark_tree.proofs.Rows.{statements_seen_of}
use Rattle.starlark_source.specs.Pieces.{Pieces, token, blank, comma, in_round, listed, separated, between, quoted}
use Rattle.starlark_source.specs.Literals.{name}
use Rattle.starlark_source.specs.Pages.{byte, Draft, say, fault}
use Rattle.starlark_source.specs.Drafts.{draft, drafts}
use Rattle.starlark_source.specs.Source.{maybe_type_source, parameter_source, parameter_sources, shape_list, shape_source, target_source}
use Rattle.starlark_source.specs.Lines.{Place, as_line, as_block, as_rest, all_lines, assign_operator, block, defined, form_lines, line, lines, load}
use Rattle.starlark_source.specs.Lines.{load_arg, load_args, looped, margin, modified, module_form, module_source, semicolon, small, small_line}
use Rattle.starlark_source.specs.Lines.{small_sources, suite, target_type, tested}
use Rattle.starlark_source.specs.Drafted.{drafted_expr, drafted_list, drafted_parameter, drafted_targets, drafted_type_if_there}
use Rattle.starlark_source.specs.DraftedLines.{drafted_assign, drafted_block, drafted_def, drafted_lines, drafted_load, drafted_load_arg, drafted_loop}
use Rattle.starlark_source.specs.DraftedLines.{drafted_margin, drafted_modified, drafted_return, drafted_small, drafted_small_line, drafted_suite}
use Rattle.starlark_source.specs.DraftedLines.{drafted_target_type, drafted_top}
use Rattle.starlark_source.proofs.DraftLemmas.{draft_two, draft_three, draft_four, round_draft, listed_draft}
use Rattle.starlark_source.proofs.ExpressionLemmas.{maybe_type_drafted, parameter_anywhere, parameters_are, targets_anywhere}

suite_draft : (ps : Pieces) → draft (suite ps) ≡ say (codes ":\n") ++ draft ps
suite_draft ps = ap (λ l. byte 58 ∷ byte 10 ∷ l) (draft_two ps (token Dedent ∷ []) ∙ append-nil (draft ps))

line_draft : (depth : ℕ) (ps : Pieces) → draft (line depth ps) ≡ drafted_margin depth ++ (draft ps ++ say (codes "\n"))
line_draft depth ps = ap (λ l. drafted_margin depth ++ l) (draft_two ps (token Newline ∷ []))

else_draft : (depth : ℕ) (ps : Pieces) → draft (margin depth ++ (token tokens.Else ∷ suite ps)) ≡ drafted_margin depth
    ++ (say (codes "else") ++ (say (codes ":\n") ++ draft ps))
else_draft depth ps = ap (λ l. drafted_margin depth ++ (say (codes "else") ++ l)) (suite_draft ps)

assign_operator_draft : (o : AssignOp) → draft (assign_operator o) ≡ say (assign_operator_text o)
assign_operator_draft assign.Add = refl
assign_operator_draft assign.Subtract = refl
assign_operator_draft assign.Multiply = refl
assign_operator_draft assign.Divide = refl
assign_operator_draft assign.FloorDivide = refl
assign_operator_draft assign.Percent = refl
assign_operator_draft assign.BitAnd = refl
assign_operator_draft assign.BitOr = refl
assign_operator_draft assign.BitXor = refl
assign_operator_draft assign.LeftShift = refl
assign_operator_draft assign.RightShift = refl

-- a number that is compared with 0
pub is_none : (n : ℕ) → (n == 0) ≡ true → n ≡ 0
is_none n is = eqb-true n 0 is

pub is_some_number : (n : ℕ) → (n == 0) ≡ false → 0 < n
is_some_number zero is = cc
is_some_number (suc n) is = omega arith

four_more : (n : ℕ) → 4 * (n + 1) ≡ (((4 * n + 1) + 1) + 1) + 1
four_more n = omega arith

pub margin_more : (n : ℕ) → replicate (4 * (n + 1)) 32 ≡ replicate (4 * n) 32 ++ codes "    "
margin_more n =
    ap (λ k. replicate {A = ℕ} k 32) (four_more n) ∙ replicate_next (((4 * n + 1) + 1) + 1) 32
    ∙ ap (λ l. l ++ 32 ∷ []) (replicate_next ((4 * n + 1) + 1) 32 ∙ ap (λ l. l ++ 32 ∷ []) (replicate_next (4 * n + 1) 32
    ∙ ap (λ l. l ++ 32 ∷ []) (replicate_next (4 * n) 32)))
    ∙ simp append_assoc

module _ {P A B C D E : Type 0} where
  tested_draft : (e : Spanned (ExprP P A B C D E)) (ps : Pieces) → draft (shape_source (shape_seen e.node) ++ suite ps) ≡ drafted_expr e.node
      ++ (say (codes ":\n") ++ draft ps)
  unfolding drafted_expr
  tested_draft e ps = draft_two (shape_source (shape_seen e.node)) (suite ps) ∙ ap (λ l. draft (shape_source (shape_seen e.node)) ++ l) (suite_draft ps)

  pub if_lines : (depth : ℕ) (at : CodeSpan) (e : Spanned (ExprP P A B C D E)) (body : Box (Spanned (stmt.StmtP P A B C D E)) Global)
      → drafted_lines as_line depth at (stmt.If e body) ≡ drafted_margin depth ++ (say (codes "if ") ++ (drafted_expr e.node ++ drafted_suite depth body.value))
  unfolding drafted_lines
  if_lines depth at e body = ap (λ l. drafted_margin depth ++ (say (codes "if ") ++ l)) (tested_draft e (lines as_block (depth + 1) (statement_of body.value)))

  pub elif_lines : (depth : ℕ) (at : CodeSpan) (e : Spanned (ExprP P A B C D E)) (body : Box (Spanned (stmt.StmtP P A B C D E)) Global)
      → drafted_lines as_rest depth at (stmt.If e body) ≡ drafted_margin depth
      ++ (say (codes "elif ") ++ (drafted_expr e.node ++ drafted_suite depth body.value))
  unfolding drafted_lines
  elif_lines depth at e body = ap (λ l. drafted_margin depth ++ (say (codes "elif ") ++ l))
      (tested_draft e (lines as_block (depth + 1) (statement_of body.value)))

  pub if_else_lines : (depth : ℕ) (at : CodeSpan) (e : Spanned (ExprP P A B C D E))
      (blocks : Box (Spanned (stmt.StmtP P A B C D E) × Spanned (stmt.StmtP P A B C D E)) Global)
      → drafted_lines as_line depth at (stmt.IfElse e blocks)
      ≡ (drafted_margin depth ++ (say (codes "if ") ++ (drafted_expr e.node ++ drafted_suite depth blocks.value.0)))
      ++ drafted_lines as_rest depth blocks.value.1.span blocks.value.1.node
  unfolding drafted_lines
  if_else_lines depth at e blocks =
      let first = margin depth ++ (tested tokens.If (expression_of e) ++ suite (lines as_block (depth + 1) (statement_of blocks.value.0))) in
      draft_two first (lines as_rest depth (statement_of blocks.value.1))
      ∙ ap (λ l. (drafted_margin depth ++ (say (codes "if ") ++ l)) ++ draft (lines as_rest depth (statement_of blocks.value.1)))
      (tested_draft e (lines as_block (depth + 1) (statement_of blocks.value.0)))

  pub elif_else_lines : (depth : ℕ) (at : CodeSpan) (e : Spanned (ExprP P A B C D E))
      (blocks : Box (Spanned (stmt.StmtP P A B C D E) × Spanned (stmt.StmtP P A B C D E)) Global)
      → drafted_lines as_rest depth at (stmt.IfElse e blocks)
      ≡ (drafted_margin depth ++ (say (codes "elif ") ++ (drafted_expr e.node ++ drafted_suite depth blocks.value.0)))
      ++ drafted_lines as_rest depth blocks.value.1.span blocks.value.1.node
  unfolding drafted_lines
  elif_else_lines depth at e blocks =
      let first = margin depth ++ (tested tokens.Elif (expression_of e) ++ suite (lines as_block (depth + 1) (statement_of blocks.value.0))) in
      draft_two first (lines as_rest depth (statement_of blocks.value.1))
      ∙ ap (λ l. (drafted_margin depth ++ (say (codes "elif ") ++ l)) ++ draft (lines as_rest depth (statement_of blocks.value.1)))
      (tested_draft e (lines as_block (depth + 1) (statement_of blocks.value.0)))

  loop_draft : (x : Spanned (AssignTargetP P A B C D E)) (e : Spanned (ExprP P A B C D E)) → draft (looped (target_of x) (expression_of e))
      ≡ drafted_loop x.node e.node
  unfolding drafted_expr
  loop_draft x e =
      ap (λ l. say (codes "for ") ++ l) (draft_three (target_source true (target_of x)) (between tokens.In) (shape_source (shape_seen e.node))
      ∙ ap (λ l. l ++ (say (codes " in ") ++ draft (shape_source (shape_seen e.node)))) (targets_anywhere (span_of x.span) x.node))

  pub for_lines : (depth : ℕ) (at : CodeSpan) (each : ForP P A B C D E)
      → drafted_lines as_line depth at (stmt.For each) ≡ drafted_margin depth
      ++ (drafted_loop each.var.node each.over.node ++ drafted_suite depth each.body.value)
  unfolding drafted_lines
  for_lines depth at each =
      let body = lines as_block (depth + 1) (statement_of each.body.value) in
      ap (λ l. drafted_margin depth ++ l) (draft_two (looped (target_of each.var) (expression_of each.over)) (suite body)
      ∙ ap (λ l. l ++ draft (suite body)) (loop_draft each.var each.over) ∙ ap (λ l. drafted_loop each.var.node each.over.node ++ l) (suite_draft body))

  def_draft : (n : Pieces) (ps : List (Spanned (ParameterP P A B C D E))) (ty : Option (Box (Spanned (TypeExprP P A B C D E)) Global))
      → draft (token tokens.Def ∷ blank 1 ∷ (n ++ (in_round (listed (parameter_sources (all_parameters ps)))
      ++ maybe_type_source (between tokens.MinusGreater) (boxed_type_of ty))))
      ≡ drafted_def (draft n) ps ty
  def_draft n ps ty =
      let source = λ (p : Spanned (ParameterP P A B C D E)). parameter_source (parameter_seen (span_of p.span) p.node) in
      let arrow = maybe_type_source (between tokens.MinusGreater) (boxed_type_of ty) in
      ap (λ qs. say (codes "def ") ++ draft (n ++ (in_round (listed qs) ++ arrow))) (parameters_are ps)
      ∙ ap (λ l. say (codes "def ") ++ l) (draft_three n (in_round (listed (map source ps))) arrow
      ∙ ap (λ l. draft n ++ (l ++ draft arrow)) (round_draft (listed (map source ps))
      ∙ ap (λ l. say (codes "(") ++ (l ++ say (codes ")")))
      (listed_draft source (λ (p : Spanned (ParameterP P A B C D E)). drafted_parameter p.node) (λ (p : Spanned (ParameterP P A B C D E)). parameter_anywhere
      (span_of p.span) p.node) ps))
      ∙ ap (λ l. draft n ++ ((say (codes "(") ++ (drafts (λ (p : Spanned (ParameterP P A B C D E)). drafted_parameter p.node) (codes ", ") ps
      ++ say (codes ")"))) ++ l))
      (maybe_type_drafted (between tokens.MinusGreater) (codes " -> ") refl ty))

  pub def_lines : (depth : ℕ) (at : CodeSpan) (def : DefP P A B C D E)
      → drafted_lines as_line depth at (stmt.Def def)
      ≡ drafted_margin depth ++ (drafted_def (draft (name (assign_word def.name))) def.params.items def.return_type ++ drafted_suite depth def.body.value)
  unfolding drafted_lines
  def_lines depth at def =
      let body = lines as_block (depth + 1) (statement_of def.body.value) in
      let head = defined (assign_word def.name) (all_parameters def.params.items) (boxed_type_of def.return_type) in
      ap (λ l. drafted_margin depth ++ l) (draft_two head (suite body)
      ∙ ap (λ l. l ++ draft (suite body)) (def_draft (name (assign_word def.name)) def.params.items def.return_type)
      ∙ ap (λ l. drafted_def (draft (name (assign_word def.name))) def.params.items def.return_type ++ l) (suite_draft body))

  pub several_lines_of : (depth : ℕ) (at : CodeSpan) (v : Vec (Spanned (stmt.StmtP P A B C D E)) Global)
      → drafted_lines as_line depth at (stmt.Statements v) ≡ drafted_margin depth ++ (drafted_small_line at v.items ++ say (codes "\n"))
  unfolding drafted_lines drafted_small_line
  several_lines_of depth at v =
      ap (λ ss. draft (line depth (small_line (span_of at) ss))) (statements_seen_of v) ∙ line_draft depth (small_line (span_of at) (all_statements v.items))

  pub block_lines_of : (depth : ℕ) (at : CodeSpan) (v : Vec (Spanned (stmt.StmtP P A B C D E)) Global)
      → drafted_lines as_block depth at (stmt.Statements v) ≡ drafted_block depth at v.items
  unfolding drafted_lines drafted_block
  block_lines_of depth at v = ap (λ ss. draft (block depth (span_of at) ss)) (statements_seen_of v)

  -- the remaining arms
  pub small_line_of : (depth : ℕ) (at : CodeSpan) (s : stmt.StmtP P A B C D E)
      → ((v : Vec (Spanned (stmt.StmtP P A B C D E)) Global) → s ≡ stmt.Statements v → ⊥)
      → ((e : Spanned (ExprP P A B C D E)) (b : Box (Spanned (stmt.StmtP P A B C D E)) Global) → s ≡ stmt.If e b → ⊥)
      → ((e : Spanned (ExprP P A B C D E)) (b : Box (Spanned (stmt.StmtP P A B C D E) × Spanned (stmt.StmtP P A B C D E)) Global) → s ≡ stmt.IfElse e b → ⊥)
      → ((f : ForP P A B C D E) → s ≡ stmt.For f → ⊥)
      → ((f : DefP P A B C D E) → s ≡ stmt.Def f → ⊥)
      → drafted_margin depth ++ (drafted_small at s ++ say (codes "\n")) ≡ drafted_lines as_line depth at s
  unfolding drafted_lines drafted_small
  small_line_of depth at stmt.Break no_block no_if no_if_else no_for no_def = refl
  small_line_of depth at stmt.Continue no_block no_if no_if_else no_for no_def = refl
  small_line_of depth at stmt.Pass no_block no_if no_if_else no_for no_def = refl
  small_line_of depth at (stmt.Return e) no_block no_if no_if_else no_for no_def = sym (line_draft depth (small (span_of at) (form_seen (stmt.Return e))))
  small_line_of depth at (stmt.Expression e) no_block no_if no_if_else no_for no_def =
      sym (line_draft depth (small (span_of at) (form_seen (stmt.Expression e))))
  small_line_of depth at (stmt.Assign a) no_block no_if no_if_else no_for no_def = sym (line_draft depth (small (span_of at) (form_seen (stmt.Assign a))))
  small_line_of depth at (stmt.AssignModify x op e) no_block no_if no_if_else no_for no_def =
      sym (line_draft depth (small (span_of at) (form_seen (stmt.AssignModify x op e))))
  small_line_of depth at (stmt.Statements' shape row) no_block no_if no_if_else no_for no_def =
      absurd (no_block _ (sym (stmt.roll-out-StmtP P A B C D E (stmt.Statements' shape row))
      ∙ ap (stmt.roll-StmtP P A B C D E) (variant.outs-Statements' shape row) ∙ variant.rolls-Statements _))
  small_line_of depth at (stmt.If' e p s r) no_block no_if no_if_else no_for no_def =
      absurd (no_if _ _ (sym (stmt.roll-out-StmtP P A B C D E (stmt.If' e p s r)) ∙ ap (stmt.roll-StmtP P A B C D E) (variant.outs-If' e p s r)
      ∙ variant.rolls-If _ _))
  small_line_of depth at (stmt.IfElse' e p a s b r) no_block no_if no_if_else no_for no_def =
      absurd (no_if_else _ _ (sym (stmt.roll-out-StmtP P A B C D E (stmt.IfElse' e p a s b r))
      ∙ ap (stmt.roll-StmtP P A B C D E) (variant.outs-IfElse' e p a s b r) ∙ variant.rolls-IfElse _ _))
  small_line_of depth at (stmt.For' var over p body s) no_block no_if no_if_else no_for no_def =
      absurd (no_for _ (sym (stmt.roll-out-StmtP P A B C D E (stmt.For' var over p body s))
      ∙ ap (stmt.roll-StmtP P A B C D E) (variant.outs-For' var over p body s) ∙ variant.rolls-For _))
  small_line_of depth at (stmt.Def' n params ty p body s payload) no_block no_if no_if_else no_for no_def =
      absurd (no_def _ (sym (stmt.roll-out-StmtP P A B C D E (stmt.Def' n params ty p body s payload))
      ∙ ap (stmt.roll-StmtP P A B C D E) (variant.outs-Def' n params ty p body s payload) ∙ variant.rolls-Def _))
  small_line_of depth at (stmt.Load l) no_block no_if no_if_else no_for no_def = sym (line_draft depth (small (span_of at) (form_seen (stmt.Load l))))

  -- any form except several statements is a block as it is a line
  pub block_alone : (depth : ℕ) (at : CodeSpan) (s : stmt.StmtP P A B C D E) → ((v : Vec (Spanned (stmt.StmtP P A B C D E)) Global) → s ≡ stmt.Statements v → ⊥)
      → drafted_lines as_line depth at s ≡ drafted_lines as_block depth at s
  unfolding drafted_lines
  block_alone depth at (stmt.Statements' shape row) no_block =
      absurd (no_block _ (sym (stmt.roll-out-StmtP P A B C D E (stmt.Statements' shape row))
      ∙ ap (stmt.roll-StmtP P A B C D E) (variant.outs-Statements' shape row) ∙ variant.rolls-Statements _))
  block_alone depth at _ no_block = refl

  -- any form except an `if` is the block of an `else`
  pub else_alone : (depth : ℕ) (at : CodeSpan) (s : stmt.StmtP P A B C D E)
      → ((e : Spanned (ExprP P A B C D E)) (b : Box (Spanned (stmt.StmtP P A B C D E)) Global) → s ≡ stmt.If e b → ⊥)
      → ((e : Spanned (ExprP P A B C D E)) (b : Box (Spanned (stmt.StmtP P A B C D E) × Spanned (stmt.StmtP P A B C D E)) Global) → s ≡ stmt.IfElse e b → ⊥)
      → drafted_margin depth ++ (say (codes "else") ++ (say (codes ":\n") ++ drafted_lines as_block (depth + 1) at s)) ≡ drafted_lines as_rest depth at s
  unfolding drafted_lines
  else_alone depth at (stmt.If' e p s r) no_if no_if_else =
      absurd (no_if _ _ (sym (stmt.roll-out-StmtP P A B C D E (stmt.If' e p s r)) ∙ ap (stmt.roll-StmtP P A B C D E) (variant.outs-If' e p s r)
      ∙ variant.rolls-If _ _))
  else_alone depth at (stmt.IfElse' e p a s b r) no_if no_if_else =
      absurd (no_if_else _ _ (sym (stmt.roll-out-StmtP P A B C D E (stmt.IfElse' e p a s b r))
      ∙ ap (stmt.roll-StmtP P A B C D E) (variant.outs-IfElse' e p a s b r) ∙ variant.rolls-IfElse _ _))
  else_alone depth at stmt.Break no_if no_if_else =
      sym (else_draft depth (form_lines as_block (depth + 1) (span_of at) (form_seen {P = P} {A = A} {B = B} {C = C} {D = D} {E = E} stmt.Break)))
  else_alone depth at stmt.Continue no_if no_if_else =
      sym (else_draft depth (form_lines as_block (depth + 1) (span_of at) (form_seen {P = P} {A = A} {B = B} {C = C} {D = D} {E = E} stmt.Continue)))
  else_alone depth at stmt.Pass no_if no_if_else =
      sym (else_draft depth (form_lines as_block (depth + 1) (span_of at) (form_seen {P = P} {A = A} {B = B} {C = C} {D = D} {E = E} stmt.Pass)))
  else_alone depth at (stmt.Return e) no_if no_if_else = sym (else_draft depth (form_lines as_block (depth + 1) (span_of at) (form_seen (stmt.Return e))))
  else_alone depth at (stmt.Expression e) no_if no_if_else =
      sym (else_draft depth (form_lines as_block (depth + 1) (span_of at) (form_seen (stmt.Expression e))))
  else_alone depth at (stmt.Assign a) no_if no_if_else = sym (else_draft depth (form_lines as_block (depth + 1) (span_of at) (form_seen (stmt.Assign a))))
  else_alone depth at (stmt.AssignModify x op e) no_if no_if_else =
      sym (else_draft depth (form_lines as_block (depth + 1) (span_of at) (form_seen (stmt.AssignModify x op e))))
  else_alone depth at (stmt.Statements' shape row) no_if no_if_else =
      sym (else_draft depth (form_lines as_block (depth + 1) (span_of at) (form_seen (stmt.Statements' shape row))))
  else_alone depth at (stmt.For' var over p body s) no_if no_if_else =
      sym (else_draft depth (form_lines as_block (depth + 1) (span_of at) (form_seen (stmt.For' var over p body s))))
  else_alone depth at (stmt.Def' n params ty p body s payload) no_if no_if_else =
      sym (else_draft depth (form_lines as_block (depth + 1) (span_of at) (form_seen (stmt.Def' n params ty p body s payload))))
  else_alone depth at (stmt.Load l) no_if no_if_else = sym (else_draft depth (form_lines as_block (depth + 1) (span_of at) (form_seen (stmt.Load l))))

  all_lines_draft : (depth : ℕ) (xs : List (Spanned (stmt.StmtP P A B C D E)))
      → draft (flat_map (λ (ps : Pieces). ps) (all_lines depth (all_statements xs)))
      ≡ flat_map (λ (s : Spanned (stmt.StmtP P A B C D E)). drafted_lines as_line depth s.span s.node) xs
  unfolding drafted_lines
  all_lines_draft depth [] = refl
  all_lines_draft depth (x ∷ xs) =
      draft_two (lines as_line depth (statement_of x)) (flat_map (λ (ps : Pieces). ps) (all_lines depth (all_statements xs)))
      ∙ ap (λ l. draft (lines as_line depth (statement_of x)) ++ l) (all_lines_draft depth xs)

  pub no_lines : (depth : ℕ) (at : CodeSpan) (xs : List (Spanned (stmt.StmtP P A B C D E))) → length xs < 1 → drafted_margin depth ++ say (codes "pass\n")
      ≡ drafted_block depth at xs
  unfolding drafted_block
  no_lines depth at [] none = refl
  no_lines depth at (x ∷ xs) none = absurd (omega arith)

  pub one_line : (depth : ℕ) (at : CodeSpan) (xs : List (Spanned (stmt.StmtP P A B C D E))) → 1 ≤ length xs → length xs < 2 → fault (span_of at) ∷ []
      ≡ drafted_block depth at xs
  unfolding drafted_block
  one_line depth at [] some few = absurd (omega arith)
  one_line depth at (x ∷ []) some few = refl
  one_line depth at (x ∷ y ∷ xs) some few = absurd (omega arith)

  pub many_lines : (depth : ℕ) (at : CodeSpan) (xs : List (Spanned (stmt.StmtP P A B C D E))) → 2 ≤ length xs
      → flat_map (λ (s : Spanned (stmt.StmtP P A B C D E)). drafted_lines as_line depth s.span s.node) xs ≡ drafted_block depth at xs
  unfolding drafted_block
  many_lines depth at [] many = absurd (omega arith)
  many_lines depth at (x ∷ []) many = absurd (omega arith)
  many_lines depth at (x ∷ y ∷ xs) many = sym (all_lines_draft depth (x ∷ y ∷ xs))

  -- small statements in a line
  smalls_more : (xs : List (Spanned (stmt.StmtP P A B C D E)))
      → draft (flat_map (λ (ps : Pieces). semicolon ++ ps) (small_sources (all_statements xs)))
      ≡ flat_map (λ (s : Spanned (stmt.StmtP P A B C D E)). say (codes "; ") ++ drafted_small s.span s.node) xs
  unfolding drafted_small
  smalls_more [] = refl
  smalls_more (x ∷ xs) =
      draft_two (semicolon ++ small (span_of x.span) (form_seen x.node)) (flat_map (λ (ps : Pieces). semicolon ++ ps) (small_sources (all_statements xs)))
      ∙ ap (λ l. (say (codes "; ") ++ draft (small (span_of x.span) (form_seen x.node))) ++ l) (smalls_more xs)

  smalls_all : (x : Spanned (stmt.StmtP P A B C D E)) (xs : List (Spanned (stmt.StmtP P A B C D E)))
      → draft (separated semicolon (small (span_of x.span) (form_seen x.node) ∷ small_sources (all_statements xs)))
      ≡ drafts (λ (s : Spanned (stmt.StmtP P A B C D E)). drafted_small s.span s.node) (codes "; ") (x ∷ xs)
  unfolding drafted_small
  smalls_all x xs =
      draft_two (small (span_of x.span) (form_seen x.node)) (flat_map (λ (ps : Pieces). semicolon ++ ps) (small_sources (all_statements xs)))
      ∙ ap (λ l. draft (small (span_of x.span) (form_seen x.node)) ++ l) (smalls_more xs)

  pub no_smalls : (at : CodeSpan) (xs : List (Spanned (stmt.StmtP P A B C D E))) → length xs < 1 → fault (span_of at) ∷ [] ≡ drafted_small_line at xs
  unfolding drafted_small_line
  no_smalls at [] none = refl
  no_smalls at (x ∷ xs) none = absurd (omega arith)

  pub one_small : (at : CodeSpan) (xs : List (Spanned (stmt.StmtP P A B C D E))) → 1 ≤ length xs → length xs < 2 → fault (span_of at) ∷ []
      ≡ drafted_small_line at xs
  unfolding drafted_small_line
  one_small at [] some few = absurd (omega arith)
  one_small at (x ∷ []) some few = refl
  one_small at (x ∷ y ∷ xs) some few = absurd (omega arith)

  pub many_smalls : (at : CodeSpan) (xs : List (Spanned (stmt.StmtP P A B C D E))) → 2 ≤ length xs
      → drafts (λ (s : Spanned (stmt.StmtP P A B C D E)). drafted_small s.span s.node) (codes "; ") xs ≡ drafted_small_line at xs
  unfolding drafted_small_line
  many_smalls at [] many = absurd (omega arith)
  many_smalls at (x ∷ []) many = absurd (omega arith)
  many_smalls at (x ∷ y ∷ xs) many = sym (smalls_all x (y ∷ xs))

  -- the small statements
  pub break_small : (at : CodeSpan) (s : stmt.StmtP P A B C D E) → s ≡ stmt.Break → say (codes "break") ≡ drafted_small at s
  unfolding drafted_small
  break_small at s is = sym (ap (drafted_small at) is)

  pub continue_small : (at : CodeSpan) (s : stmt.StmtP P A B C D E) → s ≡ stmt.Continue → say (codes "continue") ≡ drafted_small at s
  unfolding drafted_small
  continue_small at s is = sym (ap (drafted_small at) is)

  pub pass_small : (at : CodeSpan) (s : stmt.StmtP P A B C D E) → s ≡ stmt.Pass → say (codes "pass") ≡ drafted_small at s
  unfolding drafted_small
  pass_small at s is = sym (ap (drafted_small at) is)

  returned : (at : CodeSpan) (e : Option (Spanned (ExprP P A B C D E))) → drafted_return e ≡ drafted_small at (stmt.Return e)
  unfolding drafted_small drafted_list
  returned at None = refl
  returned at (Some e) = refl

  pub return_small : (at : CodeSpan) (s : stmt.StmtP P A B C D E) (e : Option (Spanned (ExprP P A B C D E))) → s ≡ stmt.Return e
      → drafted_return e ≡ drafted_small at s
  return_small at s e is = returned at e ∙ sym (ap (drafted_small at) is)

  pub expression_small : (at : CodeSpan) (s : stmt.StmtP P A B C D E) (e : Spanned (ExprP P A B C D E)) → s ≡ stmt.Expression e
      → drafted_expr e.node ≡ drafted_small at s
  unfolding drafted_small drafted_expr
  expression_small at s e is = sym (ap (drafted_small at) is)

  type_anywhere : (at : Span) (x : AssignTargetP P A B C D E) (ty : t.MaybeType (payloads A B C D E)) → target_type (target_seen at x) ty
      ≡ target_type (target_seen nowhere x) ty
  type_anywhere at (target.Tuple' shape row) t.no_type = refl
  type_anywhere at (target.Tuple' shape row) (t.typed s e p) = refl
  type_anywhere at (target.Index' p a s i r) t.no_type = refl
  type_anywhere at (target.Index' p a s i r) (t.typed r' e q) = refl
  type_anywhere at (target.Dot' p e s n) t.no_type = refl
  type_anywhere at (target.Dot' p e s n) (t.typed r e' q) = refl
  type_anywhere at (target.Identifier n) t.no_type = refl
  type_anywhere at (target.Identifier n) (t.typed r e q) = refl

  assigned : (at : CodeSpan) (a : AssignP P A B C D E) → drafted_assign a ≡ drafted_small at (stmt.Assign a)
  unfolding drafted_small drafted_target_type drafted_list
  assigned at a =
      let x = target_source true (target_of a.lhs) in
      let ty = target_type (target_of a.lhs) (maybe_type_of a.ty) in
      let e = shape_list (shape_seen a.rhs.node) in
      sym (draft_four x ty (between tokens.Equal) e
      ∙ ap (λ l. l ++ (draft ty ++ (say (codes " = ") ++ draft e))) (targets_anywhere (span_of a.lhs.span) a.lhs.node)
      ∙ ap (λ ps. drafted_targets a.lhs.node ++ (draft ps ++ (say (codes " = ") ++ draft e)))
      (type_anywhere (span_of a.lhs.span) a.lhs.node (maybe_type_of a.ty)))

  pub assign_small : (at : CodeSpan) (s : stmt.StmtP P A B C D E) (a : AssignP P A B C D E) → s ≡ stmt.Assign a → drafted_assign a ≡ drafted_small at s
  assign_small at s a is = assigned at a ∙ sym (ap (drafted_small at) is)

  pub modify_small : (at : CodeSpan) (s : stmt.StmtP P A B C D E) (x : Spanned (AssignTargetP P A B C D E)) (o : AssignOp)
      (e : Box (Spanned (ExprP P A B C D E)) Global)
      → s ≡ stmt.AssignModify x o e → drafted_modified x ++ (say (assign_operator_text o) ++ drafted_list e.value.node) ≡ drafted_small at s
  unfolding drafted_small drafted_modified drafted_list
  modify_small at s x o e is =
      sym (ap (drafted_small at) is ∙ draft_three (modified (target_of x)) (assign_operator o) (shape_list (shape_seen e.value.node))
      ∙ ap (λ l. draft (modified (target_of x)) ++ (l ++ draft (shape_list (shape_seen e.value.node)))) (assign_operator_draft o))

  pub load_small : (at : CodeSpan) (s : stmt.StmtP P A B C D E) (l : LoadP P A B C D E) → s ≡ stmt.Load l → drafted_load at l ≡ drafted_small at s
  unfolding drafted_small drafted_load
  load_small at s l is = sym (ap (drafted_small at) is)

  -- what has lines of its own is not small
  pub none_small : (at : CodeSpan) (s : stmt.StmtP P A B C D E) → (s ≡ stmt.Break → ⊥) → (s ≡ stmt.Continue → ⊥) → (s ≡ stmt.Pass → ⊥)
      → ((e : Option (Spanned (ExprP P A B C D E))) → s ≡ stmt.Return e → ⊥) → ((e : Spanned (ExprP P A B C D E)) → s ≡ stmt.Expression e → ⊥)
      → ((a : AssignP P A B C D E) → s ≡ stmt.Assign a → ⊥)
      → ((x : Spanned (AssignTargetP P A B C D E)) (o : AssignOp) (e : Box (Spanned (ExprP P A B C D E)) Global) → s ≡ stmt.AssignModify x o e → ⊥)
      → ((l : LoadP P A B C D E) → s ≡ stmt.Load l → ⊥) → fault (span_of at) ∷ [] ≡ drafted_small at s
  unfolding drafted_small
  none_small at stmt.Break no_break no_continue no_pass no_return no_expression no_assign no_modify no_load = absurd (no_break refl)
  none_small at stmt.Continue no_break no_continue no_pass no_return no_expression no_assign no_modify no_load = absurd (no_continue refl)
  none_small at stmt.Pass no_break no_continue no_pass no_return no_expression no_assign no_modify no_load = absurd (no_pass refl)
  none_small at (stmt.Return e) no_break no_continue no_pass no_return no_expression no_assign no_modify no_load = absurd (no_return e refl)
  none_small at (stmt.Expression e) no_break no_continue no_pass no_return no_expression no_assign no_modify no_load = absurd (no_expression e refl)
  none_small at (stmt.Assign a) no_break no_continue no_pass no_return no_expression no_assign no_modify no_load = absurd (no_assign a refl)
  none_small at (stmt.AssignModify x o e) no_break no_continue no_pass no_return no_expression no_assign no_modify no_load = absurd (no_modify x o e refl)
  none_small at (stmt.Load l) no_break no_continue no_pass no_return no_expression no_assign no_modify no_load = absurd (no_load l refl)
  none_small at _ no_break no_continue no_pass no_return no_expression no_assign no_modify no_load = refl

  -- a target, and its type
  untyped : (x : AssignTargetP P A B C D E) → [] ≡ drafted_target_type x None
  unfolding drafted_target_type
  untyped (target.Tuple' shape row) = refl
  untyped (target.Index' p a s i r) = refl
  untyped (target.Dot' p e s n) = refl
  untyped (target.Identifier n) = refl

  pub no_type_of : (x : AssignTargetP P A B C D E) (ty : Option (Spanned (TypeExprP P A B C D E))) → ty ≡ None → [] ≡ drafted_target_type x ty
  no_type_of x ty is = untyped x ∙ sym (ap (drafted_target_type x) is)

  pub tuple_type_of : (x : AssignTargetP P A B C D E) (v : Vec (Spanned (AssignTargetP P A B C D E)) Global) (ty : Spanned (TypeExprP P A B C D E))
      → x ≡ target.Tuple v
      → fault (span_of ty.span) ∷ [] ≡ drafted_target_type x (Some ty)
  unfolding drafted_target_type
  tuple_type_of x v ty is = sym (ap (λ y. drafted_target_type y (Some ty)) is)

  pub other_type_of : (x : AssignTargetP P A B C D E) (ty : Spanned (TypeExprP P A B C D E)) → ((v : Vec (Spanned (AssignTargetP P A B C D E)) Global)
      → x ≡ target.Tuple v → ⊥)
      → say (codes ": ") ++ drafted_expr ty.node.expr.node ≡ drafted_target_type x (Some ty)
  unfolding drafted_target_type drafted_expr
  other_type_of (target.Tuple' shape row) ty other =
      absurd (other _ (sym (target.roll-out-AssignTargetP P A B C D E (target.Tuple' shape row))
      ∙ ap (target.roll-AssignTargetP P A B C D E) (target_variant.outs-Tuple' shape row) ∙ target_variant.rolls-Tuple _))
  other_type_of _ ty other = refl

  pub tuple_modified : (x : Spanned (AssignTargetP P A B C D E)) (v : Vec (Spanned (AssignTargetP P A B C D E)) Global) → x.node ≡ target.Tuple v
      → fault (span_of x.span) ∷ [] ≡ drafted_modified x
  unfolding drafted_modified
  tuple_modified x v is = sym (ap (λ y. draft (modified (target_seen (span_of x.span) y))) is)

  pub other_modified : (x : Spanned (AssignTargetP P A B C D E)) → ((v : Vec (Spanned (AssignTargetP P A B C D E)) Global) → x.node ≡ target.Tuple v → ⊥)
      → drafted_targets x.node ≡ drafted_modified x
  unfolding drafted_modified
  other_modified x other = sym (targets_anywhere (span_of x.span) x.node) ∙ alone (span_of x.span) x.node other
    where
      alone : (at : Span) (y : AssignTargetP P A B C D E) → ((v : Vec (Spanned (AssignTargetP P A B C D E)) Global) → y ≡ target.Tuple v → ⊥)
          → draft (target_source true (target_seen at y)) ≡ draft (modified (target_seen at y))
      alone at (target.Tuple' shape row) other =
          absurd (other _ (sym (target.roll-out-AssignTargetP P A B C D E (target.Tuple' shape row))
          ∙ ap (target.roll-AssignTargetP P A B C D E) (target_variant.outs-Tuple' shape row) ∙ target_variant.rolls-Tuple _))
      alone at _ other = refl

  -- loads
  load_args_draft : (xs : List (LoadArgP P A B C D E)) → draft (load_args (map load_arg_of xs)) ≡ flat_map (λ (a : LoadArgP P A B C D E). say (codes ", ")
      ++ drafted_load_arg a) xs
  unfolding drafted_load_arg
  load_args_draft [] = refl
  load_args_draft (x ∷ xs) =
      draft_two (comma ++ load_arg (load_arg_of x)) (load_args (map load_arg_of xs))
      ∙ ap (λ l. (say (codes ", ") ++ draft (load_arg (load_arg_of x))) ++ l) (load_args_draft xs)

  pub load_of_none : (at : CodeSpan) (l : LoadP P A B C D E) → length l.args.items ≡ 0 → fault (span_of at) ∷ [] ≡ drafted_load at l
  unfolding drafted_load
  load_of_none at l none = of_none (word l.module) l.args.items none
    where
      of_none : (file : Word) (xs : List (LoadArgP P A B C D E)) → length xs ≡ 0 → fault (span_of at) ∷ [] ≡ draft (load (span_of at) file (map load_arg_of xs))
      of_none file [] none = refl
      of_none file (x ∷ xs) none = absurd (omega arith)

  pub load_of_some : (at : CodeSpan) (l : LoadP P A B C D E) → 0 < length l.args.items
      → say (codes "load(") ++ (say (quoted (string_bytes l.module.node))
      ++ (flat_map (λ (a : LoadArgP P A B C D E). say (codes ", ") ++ drafted_load_arg a) l.args.items ++ say (codes ")")))
      ≡ drafted_load at l
  unfolding drafted_load
  load_of_some at l some = of_some (word l.module) l.args.items some
    where
      of_some : (file : Word) (xs : List (LoadArgP P A B C D E)) → 0 < length xs
          → say (codes "load(") ++ (say (quoted file.text) ++ (flat_map (λ (a : LoadArgP P A B C D E). say (codes ", ") ++ drafted_load_arg a) xs
          ++ say (codes ")")))
          ≡ draft (load (span_of at) file (map load_arg_of xs))
      of_some file [] some = absurd (omega arith)
      of_some file (x ∷ xs) some =
          ap (λ l. say (codes "load(") ++ (say (quoted file.text) ++ (l ++ say (codes ")")))) (sym (load_args_draft (x ∷ xs)))
          ∙ ap (λ l. say (codes "load(") ++ (say (quoted file.text) ++ l))
          (sym (draft_two (load_args (map load_arg_of (x ∷ xs))) (token tokens.ClosingRound ∷ [])))

  pub same_load_arg : (a : LoadArgP P A B C D E) → bytes_eq (string_bytes a.local.node.ident) (string_bytes a.their.node) ≡ true
      → say (quoted (string_bytes a.their.node)) ≡ drafted_load_arg a
  unfolding drafted_load_arg
  same_load_arg a is =
      let theirs = token (tokens.String (string_bytes a.their.node)) ∷ [] in
      sym (ap (λ b. draft (if b then theirs else name (assign_word a.local) ++ (between tokens.Equal ++ theirs))) is
      ∙ append-nil (say (quoted (string_bytes a.their.node))))

  pub other_load_arg : (a : LoadArgP P A B C D E) → bytes_eq (string_bytes a.local.node.ident) (string_bytes a.their.node) ≡ false
      → draft (name (assign_word a.local)) ++ (say (codes " = ") ++ say (quoted (string_bytes a.their.node))) ≡ drafted_load_arg a
  unfolding drafted_load_arg
  other_load_arg a is =
      let theirs = token (tokens.String (string_bytes a.their.node)) ∷ [] in
      sym (ap (λ b. draft (if b then theirs else name (assign_word a.local) ++ (between tokens.Equal ++ theirs))) is
      ∙ draft_three (name (assign_word a.local)) (between tokens.Equal) theirs
      ∙ ap (λ l. draft (name (assign_word a.local)) ++ (say (codes " = ") ++ l)) (append-nil (say (quoted (string_bytes a.their.node)))))

  -- a module
  pub top_none : (at : CodeSpan) (xs : List (Spanned (stmt.StmtP P A B C D E))) → length xs < 1 → [] ≡ drafted_top at xs
  unfolding drafted_top
  top_none at [] none = refl
  top_none at (x ∷ xs) none = absurd (omega arith)

  pub top_some : (at : CodeSpan) (xs : List (Spanned (stmt.StmtP P A B C D E))) → 1 ≤ length xs → drafted_block 0 at xs ≡ drafted_top at xs
  unfolding drafted_top drafted_block
  top_some at [] some = absurd (omega arith)
  top_some at (x ∷ xs) some = refl

  pub top_module : (s : Spanned (stmt.StmtP P A B C D E)) (v : Vec (Spanned (stmt.StmtP P A B C D E)) Global) → s.node ≡ stmt.Statements v
      → drafted_top s.span v.items ≡ draft (module_source (statement_of s))
  unfolding drafted_top
  top_module s v is =
      sym (ap (λ n. draft (module_form (span_of s.span) (form_seen n))) is ∙ ap (λ ss. draft (module_form (span_of s.span) (t.Block ss)))
      (statements_seen_of v))

  pub other_module : (s : Spanned (stmt.StmtP P A B C D E)) → ((v : Vec (Spanned (stmt.StmtP P A B C D E)) Global) → s.node ≡ stmt.Statements v → ⊥)
      → drafted_lines as_line 0 s.span s.node ≡ draft (module_source (statement_of s))
  unfolding drafted_lines
  other_module s other = alone (span_of s.span) s.node other
    where
      alone : (at : Span) (n : stmt.StmtP P A B C D E) → ((v : Vec (Spanned (stmt.StmtP P A B C D E)) Global) → n ≡ stmt.Statements v → ⊥)
          → draft (form_lines as_line 0 at (form_seen n)) ≡ draft (module_form at (form_seen n))
      alone at (stmt.Statements' shape row) other =
          absurd (other _ (sym (stmt.roll-out-StmtP P A B C D E (stmt.Statements' shape row))
          ∙ ap (stmt.roll-StmtP P A B C D E) (variant.outs-Statements' shape row) ∙ variant.rolls-Statements _))
      alone at _ other = refl
