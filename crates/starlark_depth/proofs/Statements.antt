-- What the tokens of compound statements do, and those of statements after one another.
use Rattle.std.proofs.Common.{◌≡◌, ℕ, ◌+◌, ◌-◌, ◌≤◌, ◌<◌, ◌∷◌, Some, subst, arith}
use Rattle.starlark_lexer.specs.Tokens.{Span}
use Rattle.starlark_lexer.specs.Tokens as tokens
use Rattle.starlark_spec.specs.Grammar.{RightSide}
use Rattle.starlark_spec.specs.Grammar.RightSide.{nothing, word, ◌⨾◌}
use Rattle.starlark_depth.specs.Depths.{step}
use Rattle.starlark_depth.specs.declared.effect.Effect.TheVariants as effects
use Rattle.starlark_depth.specs.declared.levels.LevelKind.TheVariants.{Ordinary}
use Rattle.starlark_depth.proofs.Free.{Moves, moves, Below, after}
use Rattle.starlark_depth.proofs.Inline.{st, ordinary, Inline, Anything}
use Rattle.starlark_depth.proofs.Lines.{ls, in_statement, started, Suites, Blocks, Rests, Empty, Starts}

-- the same tokens
abbrev pub Same : RightSide → RightSide → Type 0
Same a b = (more : Moves) → moves b more ≡ moves a more

pub same_suites : {a b : RightSide} {A : ℕ → Type 0} → Same a b → Suites a A → Suites b A
same_suites v w = record {
  of = λ n p q R r o more f g c. w.of n p q R r o more f g (subst (Below n (st Ordinary p q (in_statement R r o))) (v more) c);
}

pub map_blocks : {a : RightSide} {A B : ℕ → Type 0} → ((h : ℕ) → A h → B h) → Blocks a A → Blocks a B
map_blocks v w = record {
  of = λ n R r o more f c.
      let i = w.of n R r o more f c in
      record { own = i.own; later = i.later; next = i.next; low = λ h d. v h (i.low h d) };
}

pub same_blocks : {a b : RightSide} {A : ℕ → Type 0} → Same a b → Blocks a A → Blocks b A
same_blocks v w = record { of = λ n R r o more f c. w.of n R r o more f (subst (Below n (ls R r o)) (v more) c) }

pub map_rests : {a : RightSide} {A B : ℕ → Type 0} → ((h : ℕ) → A h → B h) → Rests a A → Rests a B
map_rests v w = record {
  of = λ n R r o more c.
      let i = w.of n R r o more c in
      record { own = i.own; later = i.later; next = i.next; low = λ h d. v h (i.low h d) };
}

pub same_rests : {a b : RightSide} {A : ℕ → Type 0} → Same a b → Rests a A → Rests b A
same_rests v w = record { of = λ n R r o more c. w.of n R r o more (subst (Below n (ls R r o)) (v more) c) }

-- ---- one statement

-- a line of small statements
pub simple : {a : RightSide} {A : ℕ → Type 0} → Starts a → Suites a A → Blocks a A
simple s w = record {
  of = λ n R r o more f c.
      let i = w.of n R R R R o more (omega arith) (omega arith) (s.of n R r o more f c) in
      record { own = R; later = omega arith; next = i.next; low = λ h d. i.low h (omega (arith, d)) };
}

-- a head and a suite
pub headed : {a b : RightSide} {A B : ℕ → Type 0} → Starts a → Inline ordinary a A → Suites b B → Blocks (a ⨾ b) (λ h. (0 < h) × A (h - 1) × B (h - 1))
headed {a = a} {b = b} s v w = record {
  of = λ n R r o more f c.
      let i = v.of Ordinary R R (in_statement R R o) tt (omega arith) in
      let rest = moves b more in
      let j = w.of n i.at i.top R R o more i.later i.order (after n a (started R o) rest i.is (s.of n R r o rest f c)) in
      record {
        own = R;
        later = omega arith;
        next = j.next;
        low = λ h d.
            let high : R ≤ n = omega (arith, j.began, i.more) in
            (omega (arith, d, high), i.low (h - 1) (omega (arith, d, high, j.began)), j.low (h - 1) (omega (arith, d, high)));
      };
}

-- a head, a suite, and what continues the statement
pub branching : {a b c : RightSide} {A B C : ℕ → Type 0} → Starts a → Inline ordinary a A → Suites b B → Rests c C
    → Blocks (a ⨾ (b ⨾ c)) (λ h. (0 < h) × A (h - 1) × B (h - 1) × C (h - 1))
branching {a = a} {b = b} {c = c} s v w z = record {
  of = λ n R r o more f d.
      let i = v.of Ordinary R R (in_statement R R o) tt (omega arith) in
      let rest = moves b (moves c more) in
      let j = w.of n i.at i.top R R o (moves c more) i.later i.order (after n a (started R o) rest i.is (s.of n R r o rest f d)) in
      let l = z.of n R R o more j.next in
      record {
        own = l.own;
        later = l.later;
        next = l.next;
        low = λ h e.
            let high : R ≤ n = omega (arith, j.began, i.more) in (
              omega (arith, e, high),
              i.low (h - 1) (omega (arith, e, high, j.began)),
              j.low (h - 1) (omega (arith, e, high)),
              l.low (h - 1) (omega (arith, e, high)),
            );
      };
}

-- ---- what continues a statement

pub no_rest : Rests nothing Anything
no_rest = record { of = λ n R r o more c. record { own = r; later = omega arith; next = c; low = λ h d. tt } }

pub elif_rest : {a b c : RightSide} {A B C : ℕ → Type 0} (s : Span) → Inline ordinary a A → Suites b B → Rests c C
    → Rests (word tokens.Elif s ⨾ (a ⨾ (b ⨾ c))) (λ h. (0 < h) × A (h - 1) × B (h - 1) × C (h - 1))
elif_rest {a = a} {b = b} {c = c} s v w z = record {
  of = λ n R r o more d.
      let i = v.of Ordinary (r + 1) (r + 1) (in_statement R (r + 1) o) tt (omega arith) in
      let rest = moves b (moves c more) in
      let j = w.of n i.at i.top R (r + 1) o (moves c more) i.later i.order (after n a (step effects.Elif (ls R r o)) rest i.is d.1) in
      let l = z.of n R (r + 1) o more j.next in
      record {
        own = l.own;
        later = omega (arith, l.later);
        next = l.next;
        low = λ h e.
            let high : r + 1 ≤ n = omega (arith, j.began, i.more) in (
              omega (arith, e, high),
              i.low (h - 1) (omega (arith, e, high, j.began)),
              j.low (h - 1) (omega (arith, e, high)),
              l.low (h - 1) (omega (arith, e, high)),
            );
      };
}

pub else_rest : {a b : RightSide} {A B : ℕ → Type 0} (s : Span) → Inline ordinary a A → Suites b B → Rests (word tokens.Else s ⨾ (a ⨾ b)) B
else_rest {a = a} {b = b} s v w = record {
  of = λ n R r o more c.
      let i = v.of Ordinary (r + 1) (r + 1) (in_statement R r o) tt (omega arith) in
      let begun = step effects.Else (ls R r o) in
      let j = w.of n i.at i.top R r o more (omega (arith, i.later)) i.order (after n a begun (moves b more) i.is c.1) in
      record { own = r; later = omega arith; next = j.next; low = j.low };
}

-- ---- statements after one another

pub no_statements : Blocks nothing Anything
no_statements = record { of = λ n R r o more f c. record { own = r; later = f; next = c; low = λ h d. tt } }

pub next_line : {a : RightSide} {A : ℕ → Type 0} (s : Span) → Blocks a A → Blocks (a ⨾ word tokens.Newline s) A
next_line s w = record {
  of = λ n R r o more f c.
      let i = w.of n R r o (Some effects.Newline ∷ more) f c in
      record { own = i.own; later = i.later; next = i.next.1; low = i.low };
}

pub one_after : {a b : RightSide} {A B : ℕ → Type 0} → Blocks a A → Blocks b B → Blocks (a ⨾ b) (λ h. A h × B h)
one_after {b = b} v w = record {
  of = λ n R r o more f c.
      let i = v.of n R r o (moves b more) f c in
      let j = w.of n R i.own o more i.later i.next in
      record { own = j.own; later = j.later; next = j.next; low = λ h d. (i.low h d, j.low h d) };
}

pub after_lines : {a b : RightSide} {B : ℕ → Type 0} → Empty a → Blocks b B → Blocks (a ⨾ b) B
after_lines {b = b} v w = record { of = λ n R r o more f c. w.of n R r o more f (v.of n R r o (moves b more) c) }
