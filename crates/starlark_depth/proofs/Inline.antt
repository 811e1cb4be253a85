-- What the tokens of a part do within one level: they leave it deeper, and its deepest no less than the height of the part's tree.
use Rattle.std.proofs.Common.{◌≡◌, ℕ, ◌+◌, ◌-◌, ◌≤◌, ◌<◌, List, ◌∷◌, refl, ap, ◌∙◌, arith, false}
use Rattle.std.specs.Bool.{⊤}
use Rattle.starlark_lexer.specs.Tokens.{Span, Terminal}
use Rattle.starlark_spec.specs.Grammar.{RightSide}
use Rattle.starlark_spec.specs.Grammar.RightSide.{nothing, word, ◌⨾◌}
use Rattle.starlark_tree.specs.Ast as t
use Rattle.starlark_tree.specs.Ast.{no_payload}
use Rattle.starlark_depth.specs.Depths.{State, effect, step}
use Rattle.starlark_depth.specs.Heights.{ShapeWithin}
use Rattle.starlark_depth.specs.declared.effect.Effect.{Effect}
use Rattle.starlark_depth.specs.declared.effect.Effect.TheVariants as effects
use Rattle.starlark_depth.specs.declared.levels.Level.{Level}
use Rattle.starlark_depth.specs.declared.levels.LevelKind.{LevelKind}
use Rattle.starlark_depth.specs.declared.levels.LevelKind.TheVariants.{Ordinary, Variables}
use Rattle.starlark_depth.specs.declared.nesting.StatementDepth.{StatementDepth}
use Rattle.starlark_depth.proofs.Free.{run}

abbrev pub lvl : LevelKind → ℕ → ℕ → Level
lvl kind depth deepest = record { kind = kind; depth = depth; deepest = deepest }

-- what is outside the innermost level of a line
pub record Outside : Type 0 where
  pub levels : List Level
  pub statement : StatementDepth
  pub around : List StatementDepth

abbrev pub inside : Level → Outside → Outside
inside l o = record o { levels = l ∷ o.levels }

-- in a line
abbrev pub st : LevelKind → ℕ → ℕ → Outside → State
st k p q o = record {
  line = record { innermost = lvl k p q; outer = o.levels };
  statement = o.statement;
  around = o.around;
  line_starts = false;
}

-- the kinds of levels in which a part may be
abbrev pub Fits : Type 1
Fits = LevelKind → Type 0

abbrev pub any : Fits
any k = ⊤

abbrev pub not_variables : Fits
not_variables Variables = ⊥
not_variables _ = ⊤

abbrev pub ordinary : Fits
ordinary Ordinary = ⊤
ordinary _ = ⊥

-- ---- the state after a part, in the level that it began in

pub record After (k : LevelKind) (p q : ℕ) (o : Outside) (t : State) (Low : ℕ → Type 0) : Type 0 where
  pub at : ℕ
  pub top : ℕ
  pub is : t ≡ st k at top o
  pub later : p ≤ at
  pub more : q ≤ top
  pub order : at ≤ top
  pub low : (h : ℕ) → top < p + h → Low h

pub record Deepened (k : LevelKind) (p q : ℕ) (o : Outside) (t : State) (Low : ℕ → Type 0) : Type 0 where
  pub at : ℕ
  pub top : ℕ
  pub is : t ≡ st k at top o
  pub later : p < at
  pub more : q < top
  pub order : at ≤ top
  pub low : (h : ℕ) → top ≤ p + h → Low h

-- a part whose tree is low
pub record Inline (F : Fits) (a : RightSide) (Low : ℕ → Type 0) : Type 0 where
  pub of : (k : LevelKind) (p q : ℕ) (o : Outside) → F k → p ≤ q → After k p q o (run a (st k p q o)) Low

-- the same, and one lower
pub record Deep (F : Fits) (a : RightSide) (Low : ℕ → Type 0) : Type 0 where
  pub of : (k : LevelKind) (p q : ℕ) (o : Outside) → F k → p ≤ q → Deepened k p q o (run a (st k p q o)) Low

abbrev pub Anything : ℕ → Type 0
Anything h = ⊤

-- ---- tokens

pub empty : {F : Fits} → Inline F nothing Anything
empty = record { of = λ k p q o f le. record { at = p; top = q; is = refl; later = omega arith; more = omega arith; order = le; low = λ h g. tt } }

step_unchanged : (e : Effect) (k : LevelKind) (p q : ℕ) (o : Outside) → e ≡ effects.Unchanged → step e (st k p q o) ≡ st k p q o
step_unchanged e k p q o is = ap (λ e. step e (st k p q o)) is

step_deepen : (e : Effect) (k : LevelKind) (p q : ℕ) (o : Outside) → e ≡ effects.Deepen → step e (st k p q o) ≡ st k (p + 1) (q + 1) o
step_deepen e k p q o is = ap (λ e. step e (st k p q o)) is

pub plain : {F : Fits} (x : Terminal) (s : Span) → effect x ≡ effects.Unchanged → Inline F (word x s) Anything
plain x s is = record {
  of = λ k p q o f le. record {
    at = p;
    top = q;
    is = step_unchanged
        (effect x) k p q o is;
    later = omega arith;
    more = omega arith;
    order = le;
    low = λ h g. tt;
  };
}

pub deepens : {F : Fits} (x : Terminal) (s : Span) → effect x ≡ effects.Deepen → Deep F (word x s) Anything
deepens x s is = record {
  of = λ k p q o f le.
      record { at = p + 1; top = q + 1; is = step_deepen (effect x) k p q o is; later = omega arith; more = omega arith; order = omega arith; low = λ h g. tt };
}

-- ---- one after another

pub seq : {F : Fits} {a b : RightSide} {A B : ℕ → Type 0} → Inline F a A → Inline F b B → Inline F (a ⨾ b) (λ h. A h × B h)
seq {b = b} x y = record {
  of = λ k p q o f le.
      let i = x.of k p q o f le in
      let j = y.of k i.at i.top o f i.order in
      record {
        at = j.at;
        top = j.top;
        is = ap (run b) i.is ∙ j.is;
        later = omega (arith, i.later, j.later);
        more = omega (arith, i.more, j.more);
        order = j.order;
        low = λ h g. (i.low h (omega (arith, g, j.more)), j.low h (omega (arith, g, i.later)));
      };
}

pub seq_deep : {F : Fits} {a b : RightSide} {A B : ℕ → Type 0} → Inline F a A → Deep F b B → Deep F (a ⨾ b) (λ h. A h × B h)
seq_deep {b = b} x y = record {
  of = λ k p q o f le.
      let i = x.of k p q o f le in
      let j = y.of k i.at i.top o f i.order in
      record {
        at = j.at;
        top = j.top;
        is = ap (run b) i.is ∙ j.is;
        later = omega (arith, i.later, j.later);
        more = omega (arith, i.more, j.more);
        order = j.order;
        low = λ h g. (i.low h (omega (arith, g, j.more)), j.low h (omega (arith, g, i.later)));
      };
}

pub deep_seq : {F : Fits} {a b : RightSide} {A B : ℕ → Type 0} → Deep F a A → Inline F b B → Deep F (a ⨾ b) (λ h. A h × B h)
deep_seq {b = b} x y = record {
  of = λ k p q o f le.
      let i = x.of k p q o f le in
      let j = y.of k i.at i.top o f i.order in
      record {
        at = j.at;
        top = j.top;
        is = ap (run b) i.is ∙ j.is;
        later = omega (arith, i.later, j.later);
        more = omega (arith, i.more, j.more);
        order = j.order;
        low = λ h g. (i.low h (omega (arith, g, j.more)), j.low h (omega (arith, g, i.later)));
      };
}

-- two in a row that deepen
pub deep_deep : {F : Fits} {a b : RightSide} {A B : ℕ → Type 0} → Deep F a A → Deep F b B → Deep F (a ⨾ b) (λ h. A h × B h)
deep_deep {b = b} x y = record {
  of = λ k p q o f le.
      let i = x.of k p q o f le in
      let j = y.of k i.at i.top o f i.order in
      record {
        at = j.at;
        top = j.top;
        is = ap (run b) i.is ∙ j.is;
        later = omega (arith, i.later, j.later);
        more = omega (arith, i.more, j.more);
        order = j.order;
        low = λ h g. (i.low h (omega (arith, g, j.more)), j.low h (omega (arith, g, i.later)));
      };
}

-- the height of what deepens counts as one more
pub flat : {F : Fits} {a : RightSide} {A : ℕ → Type 0} → Deep F a A → Inline F a A
flat x = record {
  of = λ k p q o f le.
      let i = x.of k p q o f le in
      record {
        at = i.at;
        top = i.top;
        is = i.is;
        later = omega (arith, i.later);
        more = omega (arith, i.more);
        order = i.order;
        low = λ h g. i.low h
            (omega (arith, g));
      };
}

pub map : {F : Fits} {a : RightSide} {A B : ℕ → Type 0} → ((h : ℕ) → A h → B h) → Inline F a A → Inline F a B
map m x = record {
  of = λ k p q o f le.
      let i = x.of k p q o f le in
      record { at = i.at; top = i.top; is = i.is; later = i.later; more = i.more; order = i.order; low = λ h g. m h (i.low h g) };
}

pub map_deep : {F : Fits} {a : RightSide} {A B : ℕ → Type 0} → ((h : ℕ) → A h → B h) → Deep F a A → Deep F a B
map_deep m x = record {
  of = λ k p q o f le.
      let i = x.of k p q o f le in
      record { at = i.at; top = i.top; is = i.is; later = i.later; more = i.more; order = i.order; low = λ h g. m h (i.low h g) };
}

pub fit : {F G : Fits} {a : RightSide} {A : ℕ → Type 0} → ((k : LevelKind) → G k → F k) → Inline F a A → Inline G a A
fit m x = record { of = λ k p q o f le. x.of k p q o (m k f) le }

-- a node of an expression is one higher than its parts
pub node : {F : Fits} {a : RightSide} (shape : t.Shape no_payload) → Deep F a (λ h. ShapeWithin h shape) → Inline F a (λ h. (0 < h) × ShapeWithin (h - 1) shape)
node shape x = record {
  of = λ k p q o f le.
      let i = x.of k p q o f le in
      record {
        at = i.at;
        top = i.top;
        is = i.is;
        later = omega (arith, i.later);
        more = omega (arith, i.more);
        order = i.order;
        low = λ h g. (omega (arith, g, i.more, le), i.low (h - 1) (omega (arith, g, i.more, le)));
      };
}

-- and a leaf is one high
pub leaf : {F : Fits} {a : RightSide} (shape : t.Shape no_payload) → ((h : ℕ) → ShapeWithin h shape) → Inline F a Anything
    → Inline F a (λ h. (0 < h) × ShapeWithin (h - 1) shape)
leaf shape all x = record {
  of = λ k p q o f le.
      let i = x.of k p q o f le in
      record {
        at = i.at;
        top = i.top;
        is = i.is;
        later = i.later;
        more = i.more;
        order = i.order;
        low = λ h g. (omega (arith, g, i.more, le), all (h - 1));
      };
}
