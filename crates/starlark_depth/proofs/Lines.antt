-- What the tokens of statements do, line by line.
use Rattle.std.proofs.Common.{◌≡◌, ℕ, ◌+◌, ◌-◌, ◌≤◌, ◌<◌, List, [], ◌∷◌, Some, Bool, true, false, refl, subst, arith}
use Rattle.starlark_lexer.specs.Tokens.{Span, Terminal}
use Rattle.starlark_lexer.specs.Tokens as tokens
use Rattle.starlark_spec.specs.Grammar.{RightSide}
use Rattle.starlark_spec.specs.Grammar.RightSide.{nothing, word, ◌⨾◌, marked}
use Rattle.starlark_depth.specs.Depths.{State, effect, step, line_of}
use Rattle.starlark_depth.specs.declared.effect.Effect.{Effect}
use Rattle.starlark_depth.specs.declared.effect.Effect.TheVariants as effects
use Rattle.starlark_depth.specs.declared.levels.LevelKind.TheVariants.{Ordinary}
use Rattle.starlark_depth.specs.declared.nesting.StatementDepth.{StatementDepth}
use Rattle.starlark_depth.proofs.Free.{Moves, moves, Below, after}
use Rattle.starlark_depth.proofs.Inline.{lvl, Outside, inside, st, ordinary}
use Rattle.starlark_depth.proofs.Listing.{Listed}

-- where a line starts in a statement of depth r of a block of depth R
abbrev pub ls : ℕ → ℕ → List StatementDepth → State
ls R r o = line_of (record { block = R; own = r }) o true

-- outside such a line, and outside a part of it
abbrev outside_line : ℕ → ℕ → List StatementDepth → Outside
outside_line R r o = record { levels = []; statement = record { block = R; own = r }; around = o }

abbrev pub in_statement : ℕ → ℕ → List StatementDepth → Outside
in_statement R r o = inside (lvl Ordinary r r) (outside_line R r o)

-- If nothing is deeper than n before each token of what these are about and of `more`, which follows it, then the same holds of `more`, and
-- the trees are low.

-- ---- what comes after a colon, to the end of its last line

pub record SuiteEnds (n q R r : ℕ) (o : List StatementDepth) (more : Moves) (Low : ℕ → Type 0) : Type 0 where
  pub next : Below n (ls R r o) more
  pub began : q ≤ n
  pub low : (h : ℕ) → n + 4 ≤ r + h → Low h

pub record Suites (a : RightSide) (Low : ℕ → Type 0) : Type 0 where
  pub of : (n p q R r : ℕ) (o : List StatementDepth) (more : Moves) → r ≤ p → p ≤ q
      → Below n (st Ordinary p q (in_statement R r o)) (moves a more) → SuiteEnds n q R r o more Low

-- ---- statements of a block of depth R

pub record StatementsEnd (n R : ℕ) (o : List StatementDepth) (more : Moves) (Low : ℕ → Type 0) : Type 0 where
  pub own : ℕ
  pub later : R ≤ own
  pub next : Below n (ls R own o) more
  pub low : (h : ℕ) → n + 5 ≤ R + h → Low h

pub record Blocks (a : RightSide) (Low : ℕ → Type 0) : Type 0 where
  pub of : (n R r : ℕ) (o : List StatementDepth) (more : Moves) → R ≤ r → Below n (ls R r o) (moves a more) → StatementsEnd n R o more Low

-- ---- what continues a statement at a line's start

pub record RestEnds (n R r : ℕ) (o : List StatementDepth) (more : Moves) (Low : ℕ → Type 0) : Type 0 where
  pub own : ℕ
  pub later : r ≤ own
  pub next : Below n (ls R own o) more
  pub low : (h : ℕ) → n + 4 ≤ r + h → Low h

pub record Rests (a : RightSide) (Low : ℕ → Type 0) : Type 0 where
  pub of : (n R r : ℕ) (o : List StatementDepth) (more : Moves) → Below n (ls R r o) (moves a more) → RestEnds n R r o more Low

-- ---- empty lines

pub record Empty (a : RightSide) : Type 0 where
  pub of : (n R r : ℕ) (o : List StatementDepth) (more : Moves) → Below n (ls R r o) (moves a more) → Below n (ls R r o) more

pub no_lines : Empty nothing
no_lines = record { of = λ n R r o more w. w }

pub more_lines : {a : RightSide} (s : Span) → Empty a → Empty (a ⨾ word tokens.Newline s)
more_lines s v = record { of = λ n R r o more w. (v.of n R r o (Some effects.Newline ∷ more) w).1 }

-- ---- a part with which a line starts

-- the state at the first token of a statement
abbrev pub started : ℕ → List StatementDepth → State
started R o = st Ordinary R R (in_statement R R o)

pub record Starts (a : RightSide) : Type 0 where
  pub of : (n R r : ℕ) (o : List StatementDepth) (more : Moves) → R ≤ r → Below n (ls R r o) (moves a more)
      → Below n (started R o) (moves a more)

abbrev pub starts_statement : Effect → Bool
starts_statement effects.Newline = false
starts_statement effects.Indent = false
starts_statement effects.Dedent = false
starts_statement effects.Comment = false
starts_statement effects.Elif = false
starts_statement effects.Else = false
starts_statement _ = true

step_starts : (e : Effect) (R r : ℕ) (o : List StatementDepth) → starts_statement e ≡ true → step e (ls R r o) ≡ step e (started R o)
step_starts effects.Newline R r o is = cc
step_starts effects.Indent R r o is = cc
step_starts effects.Dedent R r o is = cc
step_starts effects.Comment R r o is = cc
step_starts effects.Elif R r o is = cc
step_starts effects.Else R r o is = cc
step_starts _ R r o is = refl

pub word_starts : (w : Terminal) (s : Span) → starts_statement (effect w) ≡ true → Starts (word w s)
word_starts w s is = record {
  of = λ n R r o more h b. (omega (arith, h, b.0), subst (λ z. Below n z more) (step_starts (effect w) R r o is) b.1);
}

pub first_starts : {a : RightSide} (b : RightSide) → Starts a → Starts (a ⨾ b)
first_starts b v = record { of = λ n R r o more h c. v.of n R r o (moves b more) h c }

pub marked_starts : {a : RightSide} (k : _) → Starts a → Starts (marked k a)
marked_starts k v = record { of = λ n R r o more h c. v.of n R r o more h c }

-- ---- lines, and blocks

-- a line of small statements, and its end
pub line : {a : RightSide} {A B : ℕ → Type 0} (s : Span) → ((h : ℕ) → A h → (0 < h) → A (h - 1) → B h) → Listed 3 ordinary a A
    → Suites (a ⨾ word tokens.Newline s) B
line {a = a} s v w = record {
  of = λ n p q R r o more f g b.
      let ended = Some effects.Newline ∷ more in
      let i = w.of Ordinary p q Ordinary r r (outside_line R r o) tt f g in
      let end = after n a (st Ordinary p q (in_statement R r o)) ended i.is b in
      let both = i.keeps n (omega (arith, end.0)) (omega (arith, end.0)) in
      let low = λ (h : ℕ) (c : n + 3 ≤ r + h). i.low n h (omega (arith, end.0)) (omega (arith, end.0)) c in
      record {
        next = end.1;
        began = both.0;
        low = λ h c. v h (low h (omega (arith, c))) (omega (arith, c, both.1)) (low (h - 1) (omega (arith, c, both.1)));
      };
}

-- a block: after its first line's end, empty lines and the start of a block, its statements, and its end
pub block : {a b e : RightSide} {A B : ℕ → Type 0} (s t : Span)
    → ((n R r : ℕ) (u : StatementDepth) (o : List StatementDepth) (more : Moves) → Below n (ls R r (u ∷ o)) (moves e more) → Below n (line_of u o true) more)
    → ((h : ℕ) → A h → (0 < h) → A (h - 1) → B h) → Empty a → Blocks b A
    → Suites (word tokens.Newline s ⨾ (a ⨾ (word tokens.Indent t ⨾ (b ⨾ e)))) B
block {b = b} {e = e} s t ends v x w = record {
  of = λ n p q R r o more f g c.
      let u : StatementDepth = record { block = R; own = r } in
      let indented = x.of n R r o (Some effects.Indent ∷ moves b (moves e more)) c.1 in
      let j = w.of n (r + 2) (r + 2) (u ∷ o) (moves e more) (omega arith) indented.1 in
      record {
        next = ends n (r + 2) j.own u o more j.next;
        began = omega (arith, c.0);
        low = λ h d. v h (j.low h (omega (arith, d))) (omega (arith, d, c.0)) (j.low (h - 1) (omega (arith, d, c.0)));
      };
}
