-- What the tokens of a list do: each comma ends a part of the level that the list is in.
use Rattle.std.proofs.Common.{◌≡◌, ℕ, ◌+◌, ◌≤◌, max, refl, sym, ap, subst, ◌∙◌, arith}
use Rattle.starlark_lexer.specs.Tokens.{Span, Terminal}
use Rattle.starlark_lexer.specs.Tokens as tokens
use Rattle.starlark_spec.specs.Grammar.{RightSide}
use Rattle.starlark_spec.specs.Grammar.RightSide.{word, ◌⨾◌}
use Rattle.starlark_depth.specs.Depths.{State, effect, step}
use Rattle.starlark_depth.specs.declared.effect.Effect.{Effect}
use Rattle.starlark_depth.specs.declared.effect.Effect.TheVariants as effects
use Rattle.starlark_depth.specs.declared.levels.LevelKind.{LevelKind}
use Rattle.starlark_depth.specs.declared.levels.LevelKind.TheVariants.{Ordinary, Parameters, Variables}
use Rattle.starlark_depth.proofs.Free.{run}
use Rattle.starlark_depth.proofs.Inline.{lvl, Outside, inside, st, Fits, any, not_variables, ordinary, Inline, Deep, Anything}

-- The state after a list in a level inside one of depth r: what it is made of is low, if c are left.
pub record Ends (c : ℕ) (k : LevelKind) (q : ℕ) (m : LevelKind) (r x : ℕ) (o : Outside) (t : State) (Low : ℕ → Type 0) : Type 0 where
  pub at : ℕ
  pub top : ℕ
  pub out : ℕ
  pub is : t ≡ st k at top (inside (lvl m r out) o)
  pub later : r ≤ at
  pub order : at ≤ top
  pub keeps : (y : ℕ) → top ≤ y → out ≤ y → (q ≤ y) × (x ≤ y)
  pub low : (y h : ℕ) → top ≤ y → out ≤ y → y + c ≤ r + h → Low h

pub record Listed (c : ℕ) (F : Fits) (a : RightSide) (Low : ℕ → Type 0) : Type 0 where
  pub of : (k : LevelKind) (p q : ℕ) (m : LevelKind) (r x : ℕ) (o : Outside) → F k → r ≤ p → p ≤ q
      → Ends c k q m r x o (run a (st k p q (inside (lvl m r x) o))) Low

pub listed : {F : Fits} {a : RightSide} {A : ℕ → Type 0} → Inline F a A → Listed 1 F a A
listed i = record {
  of = λ k p q m r x o f l g.
      let j = i.of k p q (inside (lvl m r x) o) f g in
      record {
        at = j.at;
        top = j.top;
        out = x;
        is = j.is;
        later = omega (arith, l, j.later);
        order = j.order;
        keeps = λ y a b. (omega (arith, a, j.more), b);
        low = λ y h a b c. j.low h (omega (arith, a, c, l));
      };
}

pub map_listed : {c : ℕ} {F : Fits} {a : RightSide} {A B : ℕ → Type 0} → ((h : ℕ) → A h → B h) → Listed c F a A → Listed c F a B
map_listed v i = record {
  of = λ k p q m r x o f l g.
      let j = i.of k p q m r x o f l g in
      record { at = j.at; top = j.top; out = j.out; is = j.is; later = j.later; order = j.order; keeps = j.keeps; low = λ y h a b c. v h (j.low y h a b c) };
}

pub fit_listed : {c : ℕ} {F G : Fits} {a : RightSide} {A : ℕ → Type 0} → ((k : LevelKind) → G k → F k) → Listed c F a A → Listed c G a A
fit_listed v i = record { of = λ k p q m r x o f l g. i.of k p q m r x o (v k f) l g }

-- if more are left
pub looser : {c d : ℕ} {F : Fits} {a : RightSide} {A : ℕ → Type 0} → c ≤ d → Listed c F a A → Listed d F a A
looser {c = c} {d = d} n i = record {
  of = λ k p q m r x o f l g.
      let j = i.of k p q m r x o f l g in
      record {
        at = j.at;
        top = j.top;
        out = j.out;
        is = j.is;
        later = j.later;
        order = j.order;
        keeps = j.keeps;
        low = λ y h a b e. j.low y h a b (omega
            (arith, n, e));
      };
}

pub same_listed : {c : ℕ} {F : Fits} {a b : RightSide} {A : ℕ → Type 0} → ((s : State) → run a s ≡ run b s) → Listed c F a A → Listed c F b A
same_listed v i = record {
  of = λ k p q m r x o f l g.
      let j = i.of k p q m r x o f l g in
      record {
        at = j.at;
        top = j.top;
        out = j.out;
        is = sym (v (st k p q (inside (lvl m r x) o)))
            ∙ j.is;
        later = j.later;
        order = j.order;
        keeps = j.keeps;
        low = j.low;
      };
}

pub lists : {c : ℕ} {F : Fits} {a b : RightSide} {A B : ℕ → Type 0} → Listed c F a A → Listed c F b B → Listed c F (a ⨾ b) (λ h. A h × B h)
lists {b = b} v w = record {
  of = λ k p q m r x o f l g.
      let i = v.of k p q m r x o f l g in
      let j = w.of k i.at i.top m r i.out o f i.later i.order in
      record {
        at = j.at;
        top = j.top;
        out = j.out;
        is = ap (run b) i.is ∙ j.is;
        later = j.later;
        order = j.order;
        keeps = λ y a b. let e = j.keeps y a b in i.keeps y e.0 e.1;
        low = λ y h a b c. let e = j.keeps y a b in (i.low y h e.0 e.1 c, j.low y h a b c);
      };
}

step_separate : (e : Effect) (k m : LevelKind) (p q r x : ℕ) (o : Outside) → e ≡ effects.Separate
    → step e (st k p q (inside (lvl m r x) o)) ≡ st k r r (inside (lvl m r (max x q)) o)
step_separate e k m p q r x o is = ap (λ e. step e (st k p q (inside (lvl m r x) o))) is

-- a list and a comma
pub comma : {c : ℕ} {F : Fits} {a : RightSide} {A : ℕ → Type 0} (w : Terminal) (s : Span) → effect w ≡ effects.Separate → Listed c F a A
    → Listed c F (a ⨾ word w s) A
comma w s e v = record {
  of = λ k p q m r x o f l g.
      let i = v.of k p q m r x o f l g in
      record {
        at = r;
        top = r;
        out = max i.out i.top;
        is = ap (step (effect w)) i.is ∙ step_separate (effect w) k m i.at i.top r i.out o e;
        later = omega arith;
        order = omega arith;
        keeps = λ y a b. i.keeps y (omega (arith, b)) (omega (arith, b));
        low = λ y h a b c. i.low y h (omega (arith, b)) (omega (arith, b)) c;
      };
}

-- ---- what is inside a level of its own

-- a token that opens a level of a kind, and one that closes it
abbrev pub Opens : Effect → LevelKind → Type 0
Opens e n = (k : LevelKind) (p q : ℕ) (o : Outside) → step e (st k p q o) ≡ st n (p + 1) (p + 1) (inside (lvl k (p + 1) (q + 1)) o)

abbrev pub Closes : Effect → LevelKind → Type 0
Closes e n = (k : LevelKind) (p q r x : ℕ) (o : Outside) → step e (st n p q (inside (lvl k r x) o)) ≡ st k r (max x q) o

pub enclosed : {F G : Fits} {a : RightSide} {A : ℕ → Type 0} (n : LevelKind) (b : Terminal) (s : Span) (e : Terminal) (t : Span) → G n
    → Opens (effect b) n → Closes (effect e) n
    → Listed 1 G a A → Deep F (word b s ⨾ (a ⨾ word e t)) A
enclosed {a = a} n b s e t fit opens closes v = record {
  of = λ k p q o f g.
      let i = v.of n (p + 1) (p + 1) k (p + 1) (q + 1) o fit (omega arith) (omega arith) in
      let both = i.keeps (max i.out i.top) (omega arith) (omega arith) in
      record {
        at = p + 1;
        top = max i.out i.top;
        is = ap (λ s. step (effect e) (run a s)) (opens k p q o) ∙ ap (step (effect e)) i.is ∙ closes k i.at i.top (p + 1) i.out o;
        later = omega arith;
        more = omega (arith, both.1);
        order = omega (arith, both.1, g);
        low = λ h c. i.low (max i.out i.top) h (omega arith) (omega arith) (omega (arith, c));
      };
}

opens_as : (e d : Effect) (n : LevelKind) → e ≡ d → Opens d n → Opens e n
opens_as e d n is h = subst (λ x. Opens x n) (sym is) h

closes_as : (e d : Effect) (n : LevelKind) → e ≡ d → Closes d n → Closes e n
closes_as e d n is h = subst (λ x. Closes x n) (sym is) h

-- delimiters
pub between : {F : Fits} {a : RightSide} {A : ℕ → Type 0} (b : Terminal) (s : Span) (e : Terminal) (t : Span) → effect b ≡ effects.Open
    → effect e ≡ effects.Close
    → Listed 1 ordinary a A → Deep F (word b s ⨾ (a ⨾ word e t)) A
between b s e t opens closes v =
    enclosed Ordinary b s e t tt (opens_as (effect b) effects.Open Ordinary opens (λ k p q o. refl))
    (closes_as (effect e) effects.Close Ordinary closes (λ k p q r x o. refl)) v

-- `lambda`, its parameters and `:`
pub lambda_head : {F : Fits} {a : RightSide} {A : ℕ → Type 0} (s t : Span) → Listed 1 not_variables a A
    → Deep F (word tokens.Lambda s ⨾ (a ⨾ word tokens.Colon t)) A
lambda_head s t v = enclosed Parameters tokens.Lambda s tokens.Colon t tt (λ k p q o. refl) (λ k p q r x o. refl) v

-- `for`, its variables and `in`
pub for_head : {F : Fits} {a : RightSide} {A : ℕ → Type 0} (s t : Span) → Listed 2 any a A
    → Deep F (word tokens.For s ⨾ (a ⨾ word tokens.In t)) A
for_head {a = a} s t v = record {
  of = λ k p q o f g.
      let i = v.of Variables (p + 1) (p + 1) k (p + 1) (q + 1) o tt (omega arith) (omega arith) in
      let both = i.keeps (max i.out i.top) (omega arith) (omega arith) in
      record {
        at = p + 1 + 1;
        top = max i.out i.top + 1;
        is = ap (step effects.In) i.is;
        later = omega arith;
        more = omega (arith, both.1);
        order = omega (arith, both.1, g);
        low = λ h c. i.low (max i.out i.top) h (omega arith) (omega arith) (omega (arith, c));
      };
}

-- ---- further tokens

pub same : {F : Fits} {a b : RightSide} {A : ℕ → Type 0} → ((s : State) → run a s ≡ run b s) → Inline F a A → Inline F b A
same v i = record {
  of = λ k p q o f g.
      let j = i.of k p q o f g in
      record { at = j.at; top = j.top; is = sym (v (st k p q o)) ∙ j.is; later = j.later; more = j.more; order = j.order; low = j.low };
}

pub same_deep : {F : Fits} {a b : RightSide} {A : ℕ → Type 0} → ((s : State) → run a s ≡ run b s) → Deep F a A → Deep F b A
same_deep v i = record {
  of = λ k p q o f g.
      let j = i.of k p q o f g in
      record { at = j.at; top = j.top; is = sym (v (st k p q o)) ∙ j.is; later = j.later; more = j.more; order = j.order; low = j.low };
}

-- `:` in an ordinary level
pub colon : (s : Span) → Inline ordinary (word tokens.Colon s) Anything
colon s = record { of = λ k p q o f g. record { at = p; top = q; is = stays k p q o f; later = omega arith; more = omega arith; order = g; low = λ h c. tt } }
  where
    stays : (k : LevelKind) (p q : ℕ) (o : Outside) → ordinary k → step effects.Colon (st k p q o) ≡ st k p q o
    stays Ordinary p q o f = refl
    stays Parameters p q o f = absurd f
    stays Variables p q o f = absurd f

-- `in` as an operator
pub membership_in : (s : Span) → Deep not_variables (word tokens.In s) Anything
membership_in s = record {
  of = λ k p q o f g.
      record { at = p + 1; top = q + 1; is = one k p q o f; later = omega arith; more = omega arith; order = omega (arith, g); low = λ h c. tt };
}
  where
    one : (k : LevelKind) (p q : ℕ) (o : Outside) → not_variables k → step effects.In (st k p q o) ≡ st k (p + 1) (q + 1) o
    one Ordinary p q o f = refl
    one Parameters p q o f = refl
    one Variables p q o f = absurd f

-- `else` of a conditional expression
pub else_in : {F : Fits} (s : Span) → Deep F (word tokens.Else s) Anything
else_in s = record {
  of = λ k p q o f g.
      record { at = p + 1; top = q + 1; is = refl; later = omega arith; more = omega arith; order = omega (arith, g); low = λ h c. tt };
}
