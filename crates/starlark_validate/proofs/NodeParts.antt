-- A statement and an expression by their parts: their faults, and the measures of the walks over them.
use Rattle.std.proofs.Common.{◌≡◌, ℕ, ◌<◌, List, [], ◌∷◌, ◌++◌, length, append_assoc, map, refl, sym, ap, ◌∙◌, arith, not, get_or, subst, Vec, Global, Result}
use Rattle.std.proofs.Common.{Ok, Err}
use Rattle.std.specs.Prelude.{IfOk}
use Rattle.std.specs.List.{flat_map}
use denote.Ref.{Bor}
use Rattle.std.proofs.lemmas.Grind.{flat_map-append}
use Rattle.std.proofs.lemmas.List.{append-nil}
use Rattle.starlark_lexer.specs.Tokens.{Span}
use Rattle.starlark_lexer.specs.declared.dialect.Dialect.{Dialect}
use Rattle.starlark_lexer.specs.declared.span.Spanned.{Spanned}
use Rattle.starlark_tree.specs.declared.ast.AstLiteral.{AstLiteral}
use Rattle.starlark_tree.specs.declared.ast.ExprP as expr
use Rattle.starlark_tree.specs.declared.ast.ExprP.{ExprP}
use Rattle.starlark_tree.specs.declared.ast.ExprP.TheVariants as variant
use Rattle.starlark_tree.specs.declared.ast.LambdaP.{LambdaP}
use Rattle.starlark_tree.specs.declared.ast.StmtP as stmt
use Rattle.starlark_tree.specs.declared.ast.StmtP.{StmtP}
use Rattle.starlark_tree.specs.Views.{form_seen, parameter_of, payloads, shape_seen, statement_of}
use Rattle.starlark_tree.proofs.Rows.{parameters_seen_of, statements_seen_of}
use Rattle.starlark_tree.proofs.InsideLemmas.{below_children, in_target, in_type, in_parameters, one, join}
use Rattle.starlark_tree.specs.Ast as t
use Rattle.starlark_tree.specs.Ast.{Payloads, statement_list}
use Rattle.starlark_tree.specs.Inside.{inside, below, inside_form, inside_statement, inside_statements, target_inside, type_inside, parameters_inside}
use Rattle.starlark_tree.specs.Places.{behind, expr_children, target_exprs, type_exprs, parameters_exprs}
use Rattle.starlark_lexer.specs.Places.{File}
use Rattle.starlark_spec.specs.Faults.{Fault, rule_fault as fault, Dialect as of_dialect}
use Rattle.starlark_checks.specs.Refusals.{Refusal}
use Rattle.starlark_spec.specs.declared.error.DialectError.TheVariants as dialects
use Rattle.starlark_spec.specs.declared.error.PlaceError.TheVariants as places
use Rattle.starlark_validate.specs.KeptTreeFaults.{listed_if}
use Rattle.starlark_validate.specs.Validity.{Around, expression_faults, own_faults, statement_faults, statements_faults, in_branch, in_body_of_for}
use Rattle.starlark_validate.specs.Validity.{in_body_of_def, params_faults}
use Rattle.starlark_validate.specs.Walks.InText.{form_exprs}
use Rattle.starlark_tree.specs.Children.{own_stmts}
use Rattle.starlark_validate.specs.Walks.Statements.{around_in, own_form_faults, top_faults}
use Rattle.starlark_validate.specs.TestResults.{Tested}
use Rattle.starlark_validate.proofs.ItemTests.{item_shorter}
use Rattle.starlark_validate.proofs.TestSequences.{then, stops}

pair : {A : Type 0} {a b c d : List A} → a ≡ b → c ≡ d → a ++ c ≡ b ++ d
pair e f = rw (e, f) refl

module _ {A : Type 0} (xs ys : List A) where
  -- nothing comes after the last part
  ended : xs ++ ys ≡ xs ++ (ys ++ [])
  ended = ap (λ (zs : List A). xs ++ zs) (sym (append-nil ys))

  both_ended : (zs : List A) → xs ++ (ys ++ zs) ≡ xs ++ (ys ++ (zs ++ []))
  both_ended zs = ap (λ (ws : List A). xs ++ (ys ++ ws)) (sym (append-nil zs))

  regrouped : (zs : List A) → xs ++ (ys ++ zs) ≡ (xs ++ ys) ++ (zs ++ [])
  regrouped zs = sym (append_assoc xs ys zs) ∙ ap (λ (ws : List A). (xs ++ ys) ++ ws) (sym (append-nil zs))

nested : {A B C : Type 0} (f : A → List B) (g : B → List C) (xs : List A) → flat_map g (flat_map f xs) ≡ flat_map (λ x. flat_map g (f x)) xs
nested f g [] = refl
nested {C = C} f g (x ∷ xs) = flat_map-append g (f x) (flat_map f xs) ∙ ap (λ (ys : List C). flat_map g (f x) ++ ys) (nested f g xs)

pub list_of_parameters : {P : Payloads} (ps : List (t.Parameter P)) → t.parameter_list (t.parameters_of ps) ≡ ps
list_of_parameters [] = refl
list_of_parameters {P} (p ∷ ps) = ap (λ (qs : List (t.Parameter P)). p ∷ qs) (list_of_parameters ps)

list_of_statements : {P : Payloads} (ss : List (t.Statement P)) → statement_list (t.statements_of ss) ≡ ss
list_of_statements [] = refl
list_of_statements {P} (s ∷ ss) = ap (λ (rest : List (t.Statement P)). s ∷ rest) (list_of_statements ss)

module _ {P A B C D E : Type 0} where
  -- the statements in a block
  pub block_statements : (v : Vec (Spanned (StmtP P A B C D E)) Global) → own_stmts (form_seen (stmt.Statements v)) ≡ map statement_of v.items
  block_statements v = ap statement_list (statements_seen_of v) ∙ list_of_statements (map statement_of v.items)

  -- the faults of a lambda alone
  pub lambda_own : (d : Dialect) (s : Span) (l : LambdaP P A B C D E)
      → own_faults d (t.expression s (shape_seen (expr.Lambda l))) ≡ listed_if (not d.enable_lambda) (fault (of_dialect dialects.Lambda) s)
      ++ params_faults d (map parameter_of l.params.items)
  lambda_own d s l =
      ap (λ ps. listed_if (not d.enable_lambda) (fault (of_dialect dialects.Lambda) s) ++ params_faults d (t.parameter_list ps)) (parameters_seen_of l.params)
      ∙ ap (λ ps. listed_if (not d.enable_lambda) (fault (of_dialect dialects.Lambda) s) ++ params_faults d ps)
      (list_of_parameters (map parameter_of l.params.items))

module _ {P : Payloads} where
  -- the faults of a statement: its own, and those of the statements directly in it
  each_faults : (d : Dialect) (a : Around) (ss : t.Statements P) → statements_faults d a ss ≡ flat_map (statement_faults d a) (statement_list ss)
  each_faults d a t.no_statements = refl
  each_faults d a (t.statements s ss) = ap (λ (ys : List Fault). statement_faults d a s ++ ys) (each_faults d a ss)

  pub statement_parted : (d : Dialect) (a : Around) (s : Span) (form : t.Form P)
      → statement_faults d a (t.statement s form) ≡ own_form_faults d a s form ++ flat_map (statement_faults d (around_in a form)) (own_stmts form)
  statement_parted d a s t.Break = sym (append-nil _)
  statement_parted d a s t.Continue = sym (append-nil _)
  statement_parted d a s t.Pass = refl
  statement_parted d a s (t.Return e) = sym (append-nil _)
  statement_parted d a s (t.Evaluate e) = refl
  statement_parted d a s (t.Assign x ty e) = refl
  statement_parted d a s (t.AssignModify x op e) = refl
  statement_parted d a s (t.Block ss) = each_faults d a ss
  statement_parted d a s (t.IfThen e body) = ended (top_faults d a places.IfAtTop s) (statement_faults d (in_branch a) body)
  statement_parted d a s (t.IfElse e body other) = both_ended (top_faults d a places.IfAtTop s) (statement_faults d (in_branch a) body)
      (statement_faults d (in_branch a) other)
  statement_parted d a s (t.For x e body) = ended (top_faults d a places.ForAtTop s) (statement_faults d (in_body_of_for a) body)
  statement_parted d a s (t.Def w p ps ty body q) =
      regrouped (listed_if (not d.enable_def) (fault (of_dialect dialects.Def) s)) (params_faults d (t.parameter_list ps))
      (statement_faults d in_body_of_def body)
  statement_parted d a s (t.Load path names p) = sym (append-nil _)

  -- what is inside a statement: what is inside the expressions directly in it, and inside the statements directly in it
  each_inside : (ss : t.Statements P) → inside_statements ss ≡ flat_map inside_statement (statement_list ss)
  each_inside t.no_statements = refl
  each_inside (t.statements s ss) = ap (λ (ys : List (t.Expression P)). inside_statement s ++ ys) (each_inside ss)

  inside_parted : (form : t.Form P) → inside_form form ≡ flat_map inside (form_exprs form) ++ flat_map inside_statement (own_stmts form)
  inside_parted t.Break = refl
  inside_parted t.Continue = refl
  inside_parted t.Pass = refl
  inside_parted (t.Return e) = sym (append-nil _)
  inside_parted (t.Evaluate e) = one e ∙ sym (append-nil _)
  inside_parted (t.Assign x ty e) = join (target_exprs x) (type_exprs ty ++ e ∷ []) (in_target x) (join (type_exprs ty) (e ∷ []) (in_type ty) (one e))
      ∙ sym (append-nil _)
  inside_parted (t.AssignModify x op e) = join (target_exprs x) (e ∷ []) (in_target x) (one e) ∙ sym (append-nil _)
  inside_parted (t.Block ss) = each_inside ss
  inside_parted (t.IfThen e s) = pair (one e) (sym (append-nil (inside_statement s)))
  inside_parted (t.IfElse e s other) = pair (one e) (ended (inside_statement s) (inside_statement other))
  inside_parted (t.For x e s) =
      regrouped (target_inside x) (inside e) (inside_statement s) ∙ ap (λ (ys : List (t.Expression P)). ys ++ (inside_statement s ++ []))
      (join (target_exprs x) (e ∷ []) (in_target x) (one e))
  inside_parted (t.Def w p ps ty s q) =
      regrouped (parameters_inside ps) (type_inside ty) (inside_statement s)
      ∙ ap (λ (ys : List (t.Expression P)). ys ++ (inside_statement s ++ [])) (join (parameters_exprs ps) (type_exprs ty) (in_parameters ps) (in_type ty))
  inside_parted (t.Load path names p) = refl

  -- the faults of an expression and of those in it
  abbrev pub inner_faults : Dialect → t.Expression P → List Fault
  inner_faults d e = flat_map (own_faults d) (inside e)

  pub expression_parted : (d : Dialect) (s : Span) (shape : t.Shape P)
      → inner_faults d (t.expression s shape) ≡ own_faults d (t.expression s shape) ++ flat_map (inner_faults d) (expr_children shape)
  expression_parted d s shape =
      ap (λ (ys : List Fault). own_faults d (t.expression s shape) ++ ys) (ap (flat_map (own_faults d)) (below_children shape)
      ∙ nested inside (own_faults d) (expr_children shape))

  pub expressions_parted : (d : Dialect) (s : Span) (form : t.Form P)
      → expression_faults d (t.statement s form) ≡ flat_map (inner_faults d) (form_exprs form) ++ flat_map (expression_faults d) (own_stmts form)
  expressions_parted d s form =
      ap (flat_map (own_faults d)) (inside_parted form)
      ∙ flat_map-append (own_faults d) (flat_map inside (form_exprs form)) (flat_map inside_statement (own_stmts form))
      ∙ pair (nested inside (own_faults d) (form_exprs form)) (nested inside_statement (own_faults d) (own_stmts form))

-- a statement, and all in it: the measure of the walks over statements
abbrev mutual
  pub statements_inside : {P : Payloads} → t.Statement P → List (t.Statement P)
  statements_inside (t.statement s form) = t.statement s form ∷ statements_below form

  statements_below : {P : Payloads} → t.Form P → List (t.Statement P)
  statements_below (t.Block ss) = all_statements_inside ss
  statements_below (t.IfThen e s) = statements_inside s
  statements_below (t.IfElse e s other) = statements_inside s ++ statements_inside other
  statements_below (t.For x e s) = statements_inside s
  statements_below (t.Def w p ps ty s q) = statements_inside s
  statements_below _ = []

  all_statements_inside : {P : Payloads} → t.Statements P → List (t.Statement P)
  all_statements_inside t.no_statements = []
  all_statements_inside (t.statements s ss) = statements_inside s ++ all_statements_inside ss

module _ {P : Payloads} where
  all_below : (ss : t.Statements P) → all_statements_inside ss ≡ flat_map statements_inside (statement_list ss)
  all_below t.no_statements = refl
  all_below (t.statements s ss) = ap (λ (ys : List (t.Statement P)). statements_inside s ++ ys) (all_below ss)

  pub statements_parted : (form : t.Form P) → statements_below form ≡ flat_map statements_inside (own_stmts form)
  statements_parted t.Break = refl
  statements_parted t.Continue = refl
  statements_parted t.Pass = refl
  statements_parted (t.Return e) = refl
  statements_parted (t.Evaluate e) = refl
  statements_parted (t.Assign x ty e) = refl
  statements_parted (t.AssignModify x op e) = refl
  statements_parted (t.Block ss) = all_below ss
  statements_parted (t.IfThen e s) = sym (append-nil _)
  statements_parted (t.IfElse e s other) = ended (statements_inside s) (statements_inside other)
  statements_parted (t.For x e s) = sym (append-nil _)
  statements_parted (t.Def w p ps ty s q) = sym (append-nil _)
  statements_parted (t.Load path names p) = refl

-- the result of a test of a statement or of an expression, by those of its parts
module _ {P : Payloads} {file : File} (d : Dialect) where
  pub statement_stops : (a : Around) (s : Span) (form : t.Form P) {e : Refusal} → Tested file (own_form_faults d a s form) (Err e)
      → Tested file (statement_faults d a (t.statement s form)) (Err e)
  statement_stops a s form {e} own =
      subst (λ (fs : List Fault). Tested file fs (Err e)) (sym (statement_parted d a s form))
      (stops (flat_map (statement_faults d (around_in a form)) (own_stmts form)) own)

  pub statement_goes_on : (a : Around) (s : Span) (form : t.Form P) {r : Result (Unit {0}) Refusal} → Tested file (own_form_faults d a s form) (Ok tt)
      → Tested file (flat_map (statement_faults d (around_in a form)) (own_stmts form)) r → Tested file (statement_faults d a (t.statement s form)) r
  statement_goes_on a s form {r} own rest = subst (λ (fs : List Fault). Tested file fs r) (sym (statement_parted d a s form)) (then own rest)

  pub expression_stops : (s : Span) (shape : t.Shape P) {e : Refusal} → Tested file (own_faults d (t.expression s shape)) (Err e)
      → Tested file (inner_faults d (t.expression s shape)) (Err e)
  expression_stops s shape {e} own =
      subst (λ (fs : List Fault). Tested file fs (Err e)) (sym (expression_parted d s shape)) (stops (flat_map (inner_faults d) (expr_children shape)) own)

  pub expression_goes_on : (s : Span) (shape : t.Shape P) {r : Result (Unit {0}) Refusal} → Tested file (own_faults d (t.expression s shape)) (Ok tt)
      → Tested file (flat_map (inner_faults d) (expr_children shape)) r → Tested file (inner_faults d (t.expression s shape)) r
  expression_goes_on s shape {r} own rest = subst (λ (fs : List Fault). Tested file fs r) (sym (expression_parted d s shape)) (then own rest)

  pub expressions_stop : (s : Span) (form : t.Form P) {e : Refusal} → Tested file (flat_map (inner_faults d) (form_exprs form)) (Err e)
      → Tested file (expression_faults d (t.statement s form)) (Err e)
  expressions_stop s form {e} own =
      subst (λ (fs : List Fault). Tested file fs (Err e)) (sym (expressions_parted d s form))
      (stops (flat_map (expression_faults d) (own_stmts form)) own)

  pub expressions_go_on : (s : Span) (form : t.Form P) {r : Result (Unit {0}) Refusal} → Tested file (flat_map (inner_faults d) (form_exprs form)) (Ok tt)
      → Tested file (flat_map (expression_faults d) (own_stmts form)) r → Tested file (expression_faults d (t.statement s form)) r
  expressions_go_on s form {r} own rest = subst (λ (fs : List Fault). Tested file fs r) (sym (expressions_parted d s form)) (then own rest)

-- the part of a node is smaller than the node
module _ {A : Type 0} {P : Payloads} where
  pub statement_smaller : (seen : A → t.Statement P) (xs : List A) (i : ℕ) (x : A) (s : Span) (form : t.Form P)
      → map seen xs ≡ own_stmts form → i < length xs → x ≡ get_or xs i x → length (statements_inside (seen x)) < length
      (statements_inside (t.statement s form))
  statement_smaller seen xs i x s form same within is =
      let least = item_shorter statements_inside seen xs (own_stmts form) i x same within is in
      let all : length (statements_below form) ≡ length (flat_map statements_inside (own_stmts form)) = ap length (statements_parted form) in
      omega (arith, least, all)

  pub expression_smaller : (seen : A → t.Expression P) (xs : List A) (i : ℕ) (x : A) (s : Span) (shape : t.Shape P)
      → map seen xs ≡ expr_children shape → i < length xs → x ≡ get_or xs i x → length (inside (seen x)) < length (inside (t.expression s shape))
  expression_smaller seen xs i x s shape same within is =
      let least = item_shorter inside seen xs (expr_children shape) i x same within is in
      let all : length (below shape) ≡ length (flat_map inside (expr_children shape)) = ap length (below_children shape) in
      omega (arith, least, all)

-- the same list of statements
pub listed_at : {P A B C D E F : Type 0} (r : Result (Vec (Bor (Spanned (StmtP P A B C D E))) Global) F) {ys zs : List (t.Statement (payloads A B C D E))}
    → ys ≡ zs → IfOk r (λ v. map (behind statement_of) v.items ≡ ys) → IfOk r (λ v. map (behind statement_of) v.items ≡ zs)
listed_at (Ok v) e h = h ∙ e
listed_at (Err x) e h = tt

module _ {P A B C D E : Type 0} (d : Dialect) (at : Span) where
  -- an expression that is neither a literal nor a lambda has no fault alone
  pub faultless_alone : (e : ExprP P A B C D E) → ((x : AstLiteral) → e ≡ expr.Literal x → ⊥) → ((l : LambdaP P A B C D E) → e ≡ expr.Lambda l → ⊥)
      → [] ≡ own_faults d (t.expression at (shape_seen e))
  faultless_alone (expr.Tuple' shape row) no_literal no_lambda = refl
  faultless_alone (expr.Dot' p e s name) no_literal no_lambda = refl
  faultless_alone (expr.Call' p e s shape row) no_literal no_lambda = refl
  faultless_alone (expr.Index' p a s i r) no_literal no_lambda = refl
  faultless_alone (expr.Index2' p a s i r j q) no_literal no_lambda = refl
  faultless_alone (expr.Slice' p a s start stop step) no_literal no_lambda = refl
  faultless_alone (expr.Identifier name) no_literal no_lambda = refl
  faultless_alone (expr.Lambda' shape row p body s payload) no_literal no_lambda =
      absurd (no_lambda _ (sym (expr.roll-out-ExprP P A B C D E (expr.Lambda' shape row p body s payload))
      ∙ ap (expr.roll-ExprP P A B C D E) (variant.outs-Lambda' shape row p body s payload) ∙ variant.rolls-Lambda _))
  faultless_alone (expr.Literal x) no_literal no_lambda = absurd (no_literal x refl)
  faultless_alone (expr.Not' p e s) no_literal no_lambda = refl
  faultless_alone (expr.Minus' p e s) no_literal no_lambda = refl
  faultless_alone (expr.Plus' p e s) no_literal no_lambda = refl
  faultless_alone (expr.BitNot' p e s) no_literal no_lambda = refl
  faultless_alone (expr.Op' p l s op q r u) no_literal no_lambda = refl
  faultless_alone (expr.If' p c s v r w u) no_literal no_lambda = refl
  faultless_alone (expr.List' shape row) no_literal no_lambda = refl
  faultless_alone (expr.Dict' shape row) no_literal no_lambda = refl
  faultless_alone (expr.ListComprehension' p e s q var r over u shape row) no_literal no_lambda = refl
  faultless_alone (expr.DictComprehension' p k s v r q var u over w shape row) no_literal no_lambda = refl
  faultless_alone (expr.FString' format shape row s) no_literal no_lambda = refl
