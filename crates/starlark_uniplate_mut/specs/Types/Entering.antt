-- Entering expressions by a function that is passed by name, and entering type expressions by it.
use Rattle.std.specs.Prelude.{◌≡◌, ◌+◌, ◌<◌, ℕ, length, Result}
use Rattle.std.specs.Borrow.{MutBor}
use Rattle.std.specs.Fn.{Shared}
use Rattle.starlark_tree.specs.Ast as t
use Rattle.starlark_tree.specs.Inside.{inside}
use Rattle.starlark_tree.specs.Walks.{Writing}
use Rattle.starlark_uniplate.specs.Types.{TypeExpression, expr_types}
use Rattle.starlark_uniplate_mut.specs.Types.Types.{After, IntoExpr, types_in}

-- the function has a mark as its last argument
module _ {G A X S M E : Type 0} (seen : A → X) (g : Shared G (MutBor A × (MutBor S × (M × Unit {0})))
    (Result (Unit {0}) E × (MutBor A × (MutBor S × Unit {0})))) where
  -- the function may be called in that state, at whatever is seen as x
  abbrev pub MayEnterMut : S → X → Type 0
  MayEnterMut s x = (function : G) (a : MutBor A) (old : MutBor S) (mark : M) → seen a.now ≡ x → old.now ≡ s → g.pre function (a, (old, (mark, tt)))

  pub record EntersMut (s : S) (x y : X) (r : Result (Unit {0}) E) (u : S) : Type 0 where
    pub function : G
    pub shown : MutBor A
    pub shows : seen shown.now ≡ x
    pub old : MutBor S
    pub begins : old.now ≡ s
    pub mark : M
    pub left : MutBor A
    pub new : MutBor S
    pub returned : g.post function (shown, (old, (mark, tt))) (r, (left, (new, tt)))
    pub leaves : seen left.now ≡ y
    pub ends : new.now ≡ u

module _ {P : t.Payloads} {F E : Type 0} (types : Writing F (TypeExpression P) E) (calls : Writing F (t.Expression P) E) where
  -- what is done at an expression that has types of its own, fewer in all than a bound, is to walk into it, in each state that calls from f leave
  pub record EntersTyped (f : F) (bound : ℕ) : Type 0 where
    pub callable : (h : F) (e : t.Expression P) → After types f h → 0 < length (expr_types e) → types_in e < bound → calls.may h e
    pub promises : (h : F) (e d : t.Expression P) (r : Result (Unit {0}) E) (k : F) → calls.call h e d r k → IntoExpr types h e d r k

  -- the same at any expression with fewer types in it than a bound, and fewer expressions than `size`
  pub record EntersSmaller (f : F) (bound size : ℕ) : Type 0 where
    pub callable : (h : F) (e : t.Expression P) → After types f h → types_in e < bound → length (inside e) < size → calls.may h e
    pub promises : (h : F) (e d : t.Expression P) (r : Result (Unit {0}) E) (k : F) → calls.call h e d r k → IntoExpr types h e d r k

  -- what walks into each expression by them
  abbrev pub inside_calls : Writing F (t.Expression P) E
  inside_calls = record { may = λ f e. EntersTyped f (types_in e + 1); call = IntoExpr types }
