-- What the calls of a walk that enters nodes require: each conclusion begins with the fact that it is drawn from.
use Rattle.std.proofs.Common.{◌≡◌, ℕ, ◌+◌, List, [], ◌∷◌, ◌++◌, ap, arith, length, Result, Ok}
use Rattle.std.specs.Fn.{Mut}
use Rattle.std.specs.List.{flat_map}
use Rattle.starlark_lexer.specs.Tokens.{Span}
use Rattle.starlark_tree.specs.Ast as t
use Rattle.starlark_tree.specs.Ast.{Payloads, Word}
use Rattle.starlark_tree.specs.Children.{form_exprs, own_exprs, own_stmts}
use Rattle.starlark_tree.specs.Inside.{below, inside, inside_form}
use Rattle.starlark_tree.specs.Places.{expr_children}
use Rattle.starlark_tree.specs.Walks.{Calls, CallsSeen, MayVisitUntilErr, MayWalkBy, VisitsUntilErr, WalkBy, may_walk}
use Rattle.starlark_tree.proofs.InsideLemmas.{below_children}
use Rattle.starlark_tree.proofs.WalkConversions.{may_at}
use Rattle.starlark_tree.proofs.Steps.{may_left, may_right}
use Rattle.starlark_uniplate.specs.Entering.{EntersInside, calls_at}
use Rattle.starlark_uniplate.specs.Idents.{all_idents, own_ident}
use Rattle.starlark_uniplate.specs.Statements.{exprs_of_statement, statement_inside, statements_below}
use Rattle.starlark_uniplate.specs.Types.{TypeExpression, expr_types, form_types, own_types}
use Rattle.starlark_uniplate.proofs.Identifiers.{idents_among}
use Rattle.starlark_uniplate.proofs.Inside.{below_own, exprs_parted, in_form}
use Rattle.starlark_uniplate.proofs.NestedWalks.{may_through}
use Rattle.starlark_uniplate.proofs.TypesOf.{may_parts}

-- a closure that may fail, at all that is inside each node
module _ {F A X Y E : Type 0} (seen : A → Y) (g : Mut F (A × Unit {0}) (Result (Unit {0}) E)) (inside : X → List Y) (f : F) where
  each_inside : (xs : List X) → MayVisitUntilErr seen g f (flat_map inside xs)
      → may_walk (λ s x. MayVisitUntilErr seen g s (inside x)) (λ s x t. VisitsUntilErr seen g s (inside x) (Ok tt) t) f xs
  each_inside xs p =
      (may_through {call = CallsSeen seen g} inside (length (flat_map inside xs) + 1) p (omega arith) (λ s x small may. may) (λ s x u h. h)).each

module _ {P : Payloads} {F A E : Type 0} (g : Mut F (A × Unit {0}) (Result (Unit {0}) E)) (f : F) where
  pub in_children : (seen : A → t.Expression P) (shape : t.Shape P) → MayVisitUntilErr seen g f (below shape)
      → MayVisitUntilErr seen g f (below shape)
      × may_walk (λ s x. MayVisitUntilErr seen g s (inside x)) (λ s x t. VisitsUntilErr seen g s (inside x) (Ok tt) t) f (expr_children shape)
  in_children seen shape p = (p, each_inside seen g inside f (expr_children shape) (may_at (below_children shape) p))

  pub in_stmts : (seen : A → t.Statement P) (form : t.Form P) → MayVisitUntilErr seen g f (statements_below form)
      → MayVisitUntilErr seen g f (statements_below form)
      × may_walk (λ s x. MayVisitUntilErr seen g s (statement_inside x)) (λ s x t. VisitsUntilErr seen g s (statement_inside x) (Ok tt) t) f (own_stmts form)
  in_stmts seen form p = (p, each_inside seen g statement_inside f (own_stmts form) (may_at (below_own form) p))

  pub in_idents : (seen : A → Word × P.ident) (form : t.Form P) → MayVisitUntilErr seen g f (all_idents form)
      → MayVisitUntilErr seen g f (all_idents form)
      × may_walk (λ s x. MayVisitUntilErr seen g s (own_ident x)) (λ s x t. VisitsUntilErr seen g s (own_ident x) (Ok tt) t) f (inside_form form)
  in_idents seen form p = (p, each_inside seen g own_ident f (inside_form form) (may_at (idents_among form) p))

-- a walk whose calls are walks over all inside each node
module _ {S X Y E : Type 0} (calls : Calls S Y E) (inside : X → List Y) (s : S) (xs : List X) where
  pub entered : MayWalkBy calls s (flat_map inside xs)
      → MayWalkBy calls s (flat_map inside xs) × may_walk (λ s x. MayWalkBy calls s (inside x)) (λ s x t. WalkBy calls s (inside x) (Ok tt) t) s xs
  entered p =
      (p, (may_through {call = calls.call} inside (length (flat_map inside xs) + 1) p (omega arith) (λ s x small may. may) (λ s x u h. h)).each)

-- all expressions of a statement
pub ruleset forms = (in_form, entered)

-- the types of a statement itself, then those in its expressions
module _ {P : Payloads} {S E : Type 0} (by : Calls S (TypeExpression P) E) (s : S) (form : t.Form P) where
  pub first_types : MayWalkBy by s (own_types form) → MayWalkBy by s (own_types form) × may_walk by.may (λ s x t. by.call s x (Ok tt) t) s (form_types form)
  first_types p = (p, (may_left (form_types form) (flat_map expr_types (flat_map inside (own_exprs form))) p).each)

module _ {P : Payloads} {S E : Type 0} {by : Calls S (TypeExpression P) E} {s u : S} (form : t.Form P) where
  pub then_exprs : {r : Result (Unit {0}) E} → r ≡ Ok tt → WalkBy by s (form_types form) r u
      → WalkBy by s (form_types form) r u
      × (MayWalkBy by s (own_types form)
      → may_walk (λ s x. MayWalkBy (calls_at expr_types by) s (inside x)) (λ s x t. WalkBy (calls_at expr_types by) s (inside x) (Ok tt) t) u (own_exprs form))
  then_exprs ok q = (
    q,
    λ p.
        let w : WalkBy by s (form_types form) (Ok tt) u = rw ok at q in
        (may_parts expr_types inside by (own_exprs form) (may_right w (flat_map expr_types (flat_map inside (own_exprs form))) p)).each,
  )

pub ruleset types = (first_types, then_exprs)

-- what is walked first, then nodes of the statements in a statement
module _ {P : Payloads} {S Y E : Type 0} (by : Calls S Y E) {s : S} (xs : List Y) (places : t.Statement P → List Y) (form : t.Form P) where
  pub then_stmts : MayWalkBy by s (xs ++ flat_map places (statements_below form))
      → MayWalkBy by s (xs ++ flat_map places (statements_below form))
      × may_walk by.may (λ s x t. by.call s x (Ok tt) t) s xs
      × ((r : Result (Unit {0}) E) (u : S) → r ≡ Ok tt → WalkBy by s xs r u
      → may_walk (λ s x. MayWalkBy (calls_at places by) s (statement_inside x)) (λ s x t. WalkBy (calls_at places by) s (statement_inside x) (Ok tt) t) u
      (own_stmts form))
  then_stmts p = (
    p,
    (may_left xs (flat_map places (statements_below form)) p).each,
    λ r u ok q.
        let w : WalkBy by s xs (Ok tt) u = rw ok at q in
        let rest = may_at (ap (flat_map places) (below_own form)) (may_right w (flat_map places (statements_below form)) p) in
        (may_parts places statement_inside by (own_stmts form) rest).each,
  )

-- the expressions of a statement itself, then those of the statements in it
module _ {P : Payloads} {S E : Type 0} (by : Calls S (t.Expression P) E) {s : S} (form : t.Form P) where
  pub exprs_then_stmts : MayWalkBy by s (form_exprs form) → MayWalkBy by s (form_exprs form)
      × may_walk by.may (λ s x t. by.call s x (Ok tt) t) s (own_exprs form)
      × ((r : Result (Unit {0}) E) (u : S) → r ≡ Ok tt → WalkBy by s (own_exprs form) r u
      → may_walk (λ s x. MayWalkBy (calls_at exprs_of_statement by) s (statement_inside x))
      (λ s x t. WalkBy (calls_at exprs_of_statement by) s (statement_inside x) (Ok tt) t) u (own_stmts form))
  exprs_then_stmts p = let also = then_stmts by (own_exprs form) exprs_of_statement form (may_at (exprs_parted form) p) in (p, also.1, also.2)

-- a node, then what is inside its children, by calls that enter these
module _ {P : Payloads} {S E : Type 0} {calls other : Calls S (t.Expression P) E} {n : ℕ} where
  pub enter_children : EntersInside inside calls other n
      → EntersInside inside calls other n
      × ((s : S) (at : Span) (shape : t.Shape P) (r : Result (Unit {0}) E) (u : S) → MayWalkBy calls s (t.expression at shape ∷ below shape)
      → WalkBy calls s (t.expression at shape ∷ []) r u → r ≡ Ok tt → length (t.expression at shape ∷ below shape) ≡ n
      → may_walk other.may (λ s x t. other.call s x (Ok tt) t) u (expr_children shape))
  enter_children enters = (
    enters,
    λ s at shape r u p q ok size.
        let w : WalkBy calls s (t.expression at shape ∷ []) (Ok tt) u = rw ok at q in
        let same = below_children shape in
        let parts = may_at (ap (λ (ys : List (t.Expression P)). t.expression at shape ∷ ys) same) p in
        let less = ap (λ (ys : List (t.Expression P)). length ys) same in
        (may_through {call = calls.call} inside n (may_right w (flat_map inside (expr_children shape)) parts) (omega (arith, less, size)) enters.callable
        (λ s x u h. enters.promises s x _ u h)).each,
  )

module _ {P : Payloads} {S E : Type 0} {calls other : Calls S (t.Statement P) E} {n : ℕ} where
  pub enter_stmts : EntersInside statement_inside calls other n
      → EntersInside statement_inside calls other n
      × ((s : S) (at : Span) (form : t.Form P) (r : Result (Unit {0}) E) (u : S) → MayWalkBy calls s (t.statement at form ∷ statements_below form)
      → WalkBy calls s (t.statement at form ∷ []) r u → r ≡ Ok tt → length (t.statement at form ∷ statements_below form) ≡ n
      → may_walk other.may (λ s x t. other.call s x (Ok tt) t) u (own_stmts form))
  enter_stmts enters = (
    enters,
    λ s at form r u p q ok size.
        let w : WalkBy calls s (t.statement at form ∷ []) (Ok tt) u = rw ok at q in
        let same = below_own form in
        let parts = may_at (ap (λ (ys : List (t.Statement P)). t.statement at form ∷ ys) same) p in
        let less = ap (λ (ys : List (t.Statement P)). length ys) same in
        (may_through {call = calls.call} statement_inside n (may_right w (flat_map statement_inside (own_stmts form)) parts) (omega (arith, less, size))
        enters.callable (λ s x u h. enters.promises s x _ u h)).each,
  )

pub ruleset enters = (enter_children, enter_stmts)
