-- A part of a module has no fault if it has none itself and its parts have none.
use Rattle.std.proofs.Common.{◌≡◌, List, [], ◌∷◌, ◌++◌, refl, sym, ◌∙◌}
use Rattle.std.specs.List.{flat_map}
use Rattle.std.proofs.lemmas.Grind.{flat_map-append}
use Rattle.std.proofs.lemmas.List.Folds.{flat_map-map}
use Rattle.starlark_lexer.specs.Tokens.{Span}
use Rattle.starlark_lexer.specs.declared.dialect.Dialect.{Dialect}
use Rattle.starlark_tree.specs.Ast as t
use Rattle.starlark_tree.specs.Ast.{Payloads, statement_list}
use Rattle.starlark_tree.specs.Places.{clauses_exprs, expr_children, for_exprs}
use Rattle.starlark_spec.specs.Faults.{Fault}
use Rattle.starlark_validate.specs.KeptTreeFaults.{in_expression, in_statement, in_statements}
use Rattle.starlark_validate.specs.Validity.{Around, expression_faults, own_faults, statement_faults}
use Rattle.starlark_validate.specs.Clean.{all_in, all_in_placed, form_parts, own_load, placed_at}
use Rattle.starlark_validate.specs.Walks.InText.{children_in_text, form_exprs, own_kept}
use Rattle.starlark_tree.specs.Children.{own_stmts}
use Rattle.starlark_validate.specs.Walks.Statements.{around_in, own_form_faults}
use Rattle.starlark_validate.proofs.KeptChildren.{shape_kept}
use Rattle.starlark_validate.proofs.NodeParts.{expression_parted, expressions_parted, inner_faults, statement_parted}
use Rattle.starlark_validate.proofs.StatementForms.{form_kept, rest_kept}

module _ {A : Type 0} where
  pub left : (xs ys : List A) → xs ++ ys ≡ [] → xs ≡ []
  left [] ys h = refl
  left (x ∷ xs) ys h = absurd (cc)

  pub right : (xs ys : List A) → xs ++ ys ≡ [] → ys ≡ []
  right [] ys h = h
  right (x ∷ xs) ys h = absurd (cc)

  pub both : {xs ys : List A} → xs ≡ [] → ys ≡ [] → xs ++ ys ≡ []
  both p q = rw (p, q) refl

-- a list has none, if it has none of two kinds
module _ {A B : Type 0} (f g : A → List B) where
  firsts : (xs : List A) → flat_map (λ x. f x ++ g x) xs ≡ [] → flat_map f xs ≡ []
  firsts [] h = refl
  firsts (x ∷ xs) h = both (left (f x) (g x) (left (f x ++ g x) (flat_map (λ x. f x ++ g x) xs) h))
      (firsts xs (right (f x ++ g x) (flat_map (λ x. f x ++ g x) xs) h))

  seconds : (xs : List A) → flat_map (λ x. f x ++ g x) xs ≡ [] → flat_map g xs ≡ []
  seconds [] h = refl
  seconds (x ∷ xs) h = both (right (f x) (g x) (left (f x ++ g x) (flat_map (λ x. f x ++ g x) xs) h))
      (seconds xs (right (f x ++ g x) (flat_map (λ x. f x ++ g x) xs) h))

-- a part of a list has none
module _ {A B : Type 0} (f : A → List B) where
  pub in_left : (xs ys : List A) → flat_map f (xs ++ ys) ≡ [] → flat_map f xs ≡ []
  in_left xs ys h = left (flat_map f xs) (flat_map f ys) (sym (flat_map-append f xs ys) ∙ h)

  pub in_right : (xs ys : List A) → flat_map f (xs ++ ys) ≡ [] → flat_map f ys ≡ []
  in_right xs ys h = right (flat_map f xs) (flat_map f ys) (sym (flat_map-append f xs ys) ∙ h)

  pub in_both : (xs ys : List A) → flat_map f xs ≡ [] → flat_map f ys ≡ [] → flat_map f (xs ++ ys) ≡ []
  in_both xs ys p q = flat_map-append f xs ys ∙ both p q

  pub last_none : (xs : List A) (y : A) → flat_map f xs ≡ [] → f y ≡ [] → flat_map f (xs ++ y ∷ []) ≡ []
  last_none xs y p q = in_both xs (y ∷ []) p (both q refl)

module _ {P : Payloads} (d : Dialect) where
  -- the children in the order of the text
  in_text : (f : t.Expression P → List Fault) (shape : t.Shape P) → flat_map f (expr_children shape) ≡ [] → flat_map f (children_in_text shape) ≡ []
  in_text f (t.Tuple es) h = h
  in_text f (t.Dot e w) h = h
  in_text f (t.Call e xs) h = h
  in_text f (t.Index a i) h = h
  in_text f (t.Index2 a i j) h = h
  in_text f (t.Slice a start stop step) h = h
  in_text f (t.Identifier w p) h = h
  in_text f (t.Lambda ps e p) h = h
  in_text f (t.Constant l) h = h
  in_text f (t.Not e) h = h
  in_text f (t.Minus e) h = h
  in_text f (t.Plus e) h = h
  in_text f (t.BitNot e) h = h
  in_text f (t.Op l op r) h = h
  in_text f (t.If c v w) h =
      let rest = right (f c) (f v ++ (f w ++ [])) h in
      both (left (f v) (f w ++ []) rest) (both (left (f c) (f v ++ (f w ++ [])) h) (right (f v) (f w ++ []) rest))
  in_text f (t.List es) h = h
  in_text f (t.Dict ps) h = h
  in_text f (t.ListComprehension e for cs) h =
      let clauses = for_exprs for ++ clauses_exprs cs in
      in_both f (e ∷ []) clauses (in_right f clauses (e ∷ []) h) (in_left f clauses (e ∷ []) h)
  in_text f (t.DictComprehension k v for cs) h =
      let clauses = for_exprs for ++ clauses_exprs cs in
      in_both f (k ∷ v ∷ []) clauses (in_right f clauses (k ∷ v ∷ []) h) (in_left f clauses (k ∷ v ∷ []) h)
  in_text f (t.FString s w es) h = h

  pub expression_clean : (s : Span) (shape : t.Shape P) → own_kept d shape ≡ [] → own_faults d (t.expression s shape) ≡ []
      → flat_map (all_in d) (expr_children shape) ≡ [] → all_in d (t.expression s shape) ≡ []
  expression_clean s shape kept own children =
      both (shape_kept d shape ∙ both (in_text (in_expression d) shape (firsts (in_expression d) (inner_faults d) (expr_children shape) children)) kept)
      (expression_parted d s shape ∙ both own (seconds (in_expression d) (inner_faults d) (expr_children shape) children))

  -- what is kept in the statements of a statement
  block_clean : (ss : t.Statements P) → flat_map (in_statement d) (statement_list ss) ≡ [] → in_statements d ss ≡ []
  block_clean t.no_statements h = refl
  block_clean (t.statements s ss) h =
      let rest = flat_map (in_statement d) (statement_list ss) in
      both (left (in_statement d s) rest h) (block_clean ss (right (in_statement d s) rest h))

  rest_clean : (form : t.Form P) → own_load form ≡ [] → flat_map (in_statement d) (own_stmts form) ≡ [] → rest_kept d form ≡ []
  rest_clean t.Break load h = refl
  rest_clean t.Continue load h = refl
  rest_clean t.Pass load h = refl
  rest_clean (t.Return e) load h = refl
  rest_clean (t.Evaluate e) load h = refl
  rest_clean (t.Assign x ty e) load h = refl
  rest_clean (t.AssignModify x op e) load h = refl
  rest_clean (t.Block ss) load h = block_clean ss h
  rest_clean (t.IfThen e s) load h = left (in_statement d s) [] h
  rest_clean (t.IfElse e s other) load h =
      let rest = in_statement d other ++ [] in
      both (left (in_statement d s) rest h) (left (in_statement d other) [] (right (in_statement d s) rest h))
  rest_clean (t.For x e s) load h = left (in_statement d s) [] h
  rest_clean (t.Def w p ps ty s q) load h = left (in_statement d s) [] h
  rest_clean (t.Load path names p) load h = load

  pub statement_clean : (a : Around) (s : Span) (form : t.Form P) → own_form_faults d a s form ≡ [] → own_load form ≡ []
      → flat_map (all_in d) (form_exprs form) ≡ [] → flat_map (all_in_placed d) (form_parts a form) ≡ []
      → all_in_placed d (placed_at a (t.statement s form)) ≡ []
  statement_clean a s form own load exprs parts =
      let here = around_in a form in
      let inner = own_stmts form in
      let all = sym (flat_map-map (all_in_placed d) (placed_at here) inner) ∙ parts in
      let tree = seconds (in_statement d) (λ x. statement_faults d here x ++ expression_faults d x) inner all in
      both (form_kept d form ∙ both (firsts (in_expression d) (inner_faults d) (form_exprs form) exprs)
      (rest_clean form load (firsts (in_statement d) (λ x. statement_faults d here x ++ expression_faults d x) inner all)))
      (both (statement_parted d a s form ∙ both own (firsts (statement_faults d here) (expression_faults d) inner tree))
      (expressions_parted d s form ∙ both (seconds (in_expression d) (inner_faults d) (form_exprs form) exprs)
      (seconds (statement_faults d here) (expression_faults d) inner tree)))
