-- The faults of a statement: those of the expressions in it, and then those of the rest.
use Rattle.std.proofs.Common.{◌≡◌, ◌<◌, ◌≤◌, ◌+◌, ℕ, arith, max, List as Seq, [], ◌∷◌, ◌++◌, length, get_or, map, Some, None, Result, Ok, Box, Vec, Global}
use Rattle.std.proofs.Common.{append_assoc, refl, sym, ◌∙◌, ap}
use Rattle.std.specs.List.{flat_map}
use denote.Param.Weighed.{most, at_most}
use Rattle.starlark_lexer.specs.Places.{File}
use Rattle.starlark_lexer.specs.declared.dialect.Dialect.{Dialect}
use Rattle.starlark_lexer.specs.declared.span.Spanned.{Spanned}
use Rattle.starlark_tree.specs.declared.ast.DefP.{DefP}
use Rattle.starlark_tree.specs.declared.ast.ExprP.{ExprP}
use Rattle.starlark_tree.specs.declared.ast.ForP.{ForP}
use Rattle.starlark_tree.specs.declared.ast.LoadP.{LoadP}
use Rattle.starlark_tree.specs.declared.ast.StmtP as stmt
use Rattle.starlark_tree.specs.declared.ast.StmtP.TheVariants as variant
use Rattle.starlark_tree.specs.declared.ast.StmtP.TheViews.{sized-Statements}
use Rattle.starlark_tree.specs.Ast as t
use Rattle.starlark_tree.specs.Ast.{Payloads}
use Rattle.starlark_tree.specs.Places.{parameters_exprs, target_exprs, type_exprs}
use Rattle.starlark_tree.specs.Views.{all_statements, form_seen, statement_of}
use Rattle.starlark_tree.proofs.Rows.{statements_seen_of}
use Rattle.starlark_spec.specs.Faults.{Fault}
use Rattle.starlark_checks.specs.Refusals.{Refusal}
use Rattle.starlark_validate.specs.KeptTreeFaults.{in_expression, in_form, in_parameters, in_statement, in_statements, in_target, in_type, load_faults}
use Rattle.starlark_validate.specs.Walks.InText.{form_exprs}
use Rattle.starlark_validate.specs.TestResults.{Tested}
use Rattle.starlark_validate.proofs.KeptChildren.{join, one, none, pair, parameters_kept, target_kept, type_kept}
use Rattle.starlark_validate.proofs.TestSequences.{of_faults, then}

-- those of the statements in it, or of a load
abbrev pub rest_kept : {P : Payloads} → Dialect → t.Form P → Seq Fault
rest_kept d (t.Block ss) = in_statements d ss
rest_kept d (t.IfThen e s) = in_statement d s
rest_kept d (t.IfElse e s other) = in_statement d s ++ in_statement d other
rest_kept d (t.For x e s) = in_statement d s
rest_kept d (t.Def w p ps ty s q) = in_statement d s
rest_kept d (t.Load path names p) = load_faults path names
rest_kept d form = []

module _ {P : Payloads} (d : Dialect) where
  pub form_kept : (form : t.Form P) → in_form d form ≡ flat_map (in_expression d) (form_exprs form) ++ rest_kept d form
  form_kept t.Break = refl
  form_kept t.Continue = refl
  form_kept t.Pass = refl
  form_kept (t.Return None) = refl
  form_kept (t.Return (Some e)) = none d (e ∷ []) (one d e)
  form_kept (t.Evaluate e) = none d (e ∷ []) (one d e)
  form_kept (t.Assign x ty e) =
      none d (target_exprs x ++ (type_exprs ty ++ e ∷ [])) (join d (target_exprs x) (type_exprs ty ++ e ∷ []) (target_kept d x)
      (join d (type_exprs ty) (e ∷ []) (type_kept d ty) (one d e)))
  form_kept (t.AssignModify x op e) = none d (target_exprs x ++ e ∷ []) (join d (target_exprs x) (e ∷ []) (target_kept d x) (one d e))
  form_kept (t.Block ss) = refl
  form_kept (t.IfThen e s) = pair (one d e) refl
  form_kept (t.IfElse e s other) = pair (one d e) refl
  form_kept (t.For x e s) =
      sym (append_assoc (in_target d x) (in_expression d e) (in_statement d s)) ∙ pair (join d (target_exprs x) (e ∷ []) (target_kept d x) (one d e)) refl
  form_kept (t.Def w p ps ty s q) =
      sym (append_assoc (in_parameters d ps) (in_type d ty) (in_statement d s))
      ∙ pair (join d (parameters_exprs ps) (type_exprs ty) (parameters_kept d ps) (type_kept d ty)) refl
  form_kept (t.Load path names p) = refl

  -- the expressions of a statement were tested, and then the rest of it
  pub with_rest : {file : File} (form : t.Form P) {ys : Seq Fault} {r : Result (Unit {0}) Refusal}
      → Tested file (flat_map (in_expression d) (form_exprs form)) (Ok tt) → ys ≡ rest_kept d form → Tested file ys r → Tested file (in_form d form) r
  with_rest form before e h = of_faults (ap (λ ys. flat_map (in_expression d) (form_exprs form) ++ ys) e ∙ sym (form_kept form)) (then before h)

-- the largest measure in a list, as in the size of a value that contains it
below_most : {X : Type 0} (μ : X → ℕ) (xs : Seq X) (i : ℕ) (x : X) (a : ℕ) → i < length xs → a ≤ μ (get_or xs i x) → a < max (most μ xs) 0 + 1
below_most μ xs i x a p q = let h = at_most μ xs i x p in omega arith

module _ {P A B C D E : Type 0} where
  part_smaller : (v : Vec (Spanned (stmt.StmtP P A B C D E)) Global) (i : ℕ) (s : Spanned (stmt.StmtP P A B C D E))
      → i < length v.items → stmt.size-StmtP P A B C D E (get_or v.items i s).node < stmt.size-StmtP P A B C D E (stmt.Statements v)
  part_smaller v i s p = rw (sized-Statements P A B C D E v) (below_most _ v.items i s _ p (omega arith))

  -- a statement of a list is smaller than the list's
  pub part_falls : (v : Vec (Spanned (stmt.StmtP P A B C D E)) Global) (xs : Seq (Spanned (stmt.StmtP P A B C D E))) (i : ℕ)
      (s : Spanned (stmt.StmtP P A B C D E)) (whole : stmt.StmtP P A B C D E) (t : ℕ)
      → i < length xs → s ≡ get_or xs i s → xs ≡ v.items → whole ≡ stmt.Statements v → stmt.size-StmtP P A B C D E whole ≡ t
      → stmt.size-StmtP P A B C D E s.node < t
  part_falls v xs i s whole t p e f w q =
      let h = rw (← w, q) at (part_smaller v i s (rw f at p)) in
      rw (← f, ← e) at h

module _ {P A B C D E : Type 0} (d : Dialect) where
  each_kept : (xs : Seq (Spanned (stmt.StmtP P A B C D E))) → in_statements d (all_statements xs) ≡ flat_map (in_statement d) (map statement_of xs)
  each_kept [] = refl
  each_kept (x ∷ xs) = ap (λ ys. in_form d (form_seen x.node) ++ ys) (each_kept xs)

  pub block_kept : (v : Vec (Spanned (stmt.StmtP P A B C D E)) Global) → flat_map (in_statement d) (map statement_of v.items)
      ≡ rest_kept d (form_seen (stmt.Statements v))
  block_kept v = sym (ap (in_statements d) (statements_seen_of v) ∙ each_kept v.items)

  pub nothing_left : (s : stmt.StmtP P A B C D E)
      → ((v : Vec (Spanned (stmt.StmtP P A B C D E)) Global) → s ≡ stmt.Statements v → ⊥)
      → ((e : Spanned (ExprP P A B C D E)) (b : Box (Spanned (stmt.StmtP P A B C D E)) Global) → s ≡ stmt.If e b → ⊥)
      → ((e : Spanned (ExprP P A B C D E)) (b : Box (Spanned (stmt.StmtP P A B C D E) × Spanned (stmt.StmtP P A B C D E)) Global) → s ≡ stmt.IfElse e b → ⊥)
      → ((f : ForP P A B C D E) → s ≡ stmt.For f → ⊥)
      → ((f : DefP P A B C D E) → s ≡ stmt.Def f → ⊥)
      → ((l : LoadP P A B C D E) → s ≡ stmt.Load l → ⊥)
      → [] ≡ rest_kept d (form_seen s)
  nothing_left stmt.Break no_block no_if no_if_else no_for no_def no_load = refl
  nothing_left stmt.Continue no_block no_if no_if_else no_for no_def no_load = refl
  nothing_left stmt.Pass no_block no_if no_if_else no_for no_def no_load = refl
  nothing_left (stmt.Return e) no_block no_if no_if_else no_for no_def no_load = refl
  nothing_left (stmt.Expression e) no_block no_if no_if_else no_for no_def no_load = refl
  nothing_left (stmt.Assign a) no_block no_if no_if_else no_for no_def no_load = refl
  nothing_left (stmt.AssignModify x op e) no_block no_if no_if_else no_for no_def no_load = refl
  nothing_left (stmt.Statements' shape row) no_block no_if no_if_else no_for no_def no_load =
      absurd (no_block _ (sym (stmt.roll-out-StmtP P A B C D E (stmt.Statements' shape row))
      ∙ ap (stmt.roll-StmtP P A B C D E) (variant.outs-Statements' shape row) ∙ variant.rolls-Statements _))
  nothing_left (stmt.If' e p s r) no_block no_if no_if_else no_for no_def no_load =
      absurd (no_if _ _ (sym (stmt.roll-out-StmtP P A B C D E (stmt.If' e p s r)) ∙ ap (stmt.roll-StmtP P A B C D E) (variant.outs-If' e p s r)
      ∙ variant.rolls-If _ _))
  nothing_left (stmt.IfElse' e p a s b r) no_block no_if no_if_else no_for no_def no_load =
      absurd (no_if_else _ _ (sym (stmt.roll-out-StmtP P A B C D E (stmt.IfElse' e p a s b r))
      ∙ ap (stmt.roll-StmtP P A B C D E) (variant.outs-IfElse' e p a s b r) ∙ variant.rolls-IfElse _ _))
  nothing_left (stmt.For' var over p body s) no_block no_if no_if_else no_for no_def no_load =
      absurd (no_for _ (sym (stmt.roll-out-StmtP P A B C D E (stmt.For' var over p body s))
      ∙ ap (stmt.roll-StmtP P A B C D E) (variant.outs-For' var over p body s) ∙ variant.rolls-For _))
  nothing_left (stmt.Def' name params ty p body s payload) no_block no_if no_if_else no_for no_def no_load =
      absurd (no_def _ (sym (stmt.roll-out-StmtP P A B C D E (stmt.Def' name params ty p body s payload))
      ∙ ap (stmt.roll-StmtP P A B C D E) (variant.outs-Def' name params ty p body s payload) ∙ variant.rolls-Def _))
  nothing_left (stmt.Load l) no_block no_if no_if_else no_for no_def no_load = absurd (no_load l refl)
