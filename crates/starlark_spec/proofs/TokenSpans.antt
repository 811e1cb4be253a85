-- Where the tokens of a part lie.
use Rattle.std.proofs.Common.{◌≡◌, ℕ, ◌≤◌, List, [], ◌∷◌, refl, sym, ◌∙◌, arith, true, false}
use Rattle.std.specs.Bool.{⊤}
use Rattle.starlark_lexer.specs.Tokens.{Lexeme}
use Rattle.starlark_lexer.specs.declared.kind.Kind.TheVariants as kinds
use Rattle.starlark_spec.specs.Items.{at_end}
use Rattle.starlark_spec.specs.Grammar.{Nonterminal, Derivation, RightSide, side_yield, yield_of}
use Rattle.starlark_spec.specs.Grammar.RightSide.{nothing, word, ◌⨾◌, marked, tokens_end}
use Rattle.starlark_spec.specs.Trees.{begin_of, end_of_last}
use Rattle.starlark_spec.specs.Machine.Sight.{look}
use Rattle.starlark_spec.proofs.Complete.{starts, first}
use Rattle.starlark_spec.specs.Nested.{AreInOrder}

-- the tokens of a part lie one after another, from an offset on
abbrev pub Laid : RightSide → ℕ → Type 0
Laid nothing a = ⊤
Laid (word token s) a = (a ≤ s.begin) × (s.begin ≤ s.end)
Laid (p ⨾ q) a = Laid p a × Laid q (end_of_last p a)
Laid (marked x p) a = Laid p a
Laid tokens_end a = ⊤

pub grows : (p : RightSide) (a : ℕ) → Laid p a → a ≤ end_of_last p a
grows nothing a l = omega arith
grows (word token s) a l = omega (arith, l.0, l.1)
grows (p ⨾ q) a l = omega (arith, grows p a l.0, grows q (end_of_last p a) l.1)
grows (marked x p) a l = grows p a l
grows tokens_end a l = omega arith

listed : (p : RightSide) (a : ℕ) (r : List Lexeme) → Laid p a → AreInOrder (end_of_last p a) r → AreInOrder a (side_yield p r)
listed nothing a r l h = h
listed (word token s) a r l h = (l.0, l.1, h)
listed (p ⨾ q) a r l h = listed p a (side_yield q r) l.0 (listed q (end_of_last p a) r l.1 h)
listed (marked x p) a r l h = listed p a r l h
listed tokens_end a r l h = h

pub laid : (p : RightSide) (a : ℕ) (r : List Lexeme) → AreInOrder a (side_yield p r) → Laid p a × AreInOrder (end_of_last p a) r
laid nothing a r h = (tt, h)
laid (word token s) a r h = ((h.0, h.1), h.2)
laid (p ⨾ q) a r h =
    let x = laid p a (side_yield q r) h in
    let y = laid q (end_of_last p a) r x.1 in
    ((x.0, y.0), y.1)
laid (marked x p) a r h = laid p a r h
laid tokens_end a r h = (tt, h)

-- where the last token ends, or the position before
abbrev last_end : List Lexeme → ℕ → ℕ
last_end [] a = a
last_end (x ∷ xs) a = last_end xs x.span.end

ends_last : (p : RightSide) (a : ℕ) (r : List Lexeme) → last_end (side_yield p r) a ≡ last_end r (end_of_last p a)
ends_last nothing a r = refl
ends_last (word token s) a r = refl
ends_last (p ⨾ q) a r = ends_last p a (side_yield q r) ∙ ends_last q (end_of_last p a) r
ends_last (marked x p) a r = ends_last p a r
ends_last tokens_end a r = refl

last_grows : (xs : List Lexeme) (a : ℕ) → AreInOrder a xs → a ≤ last_end xs a
last_grows [] a h = omega arith
last_grows (x ∷ xs) a h = omega (arith, h.0, h.1, last_grows xs x.span.end h.2)

-- there is a token
abbrev pub Begins : List Lexeme → Type 0
Begins [] = ⊥
Begins (x ∷ xs) = ⊤

solid_list : (n : Nonterminal) (xs : List Lexeme) → starts n (look at_end xs).kind ≡ true → starts n kinds.End ≡ false → Begins xs
solid_list n [] h none = cc
solid_list n (x ∷ xs) h none = tt

-- a nonterminal that does not begin with an end has a token
pub solid : {n : Nonterminal} (d : Derivation n) → starts n kinds.End ≡ false → Begins (yield_of d [])
solid {n = n} d none = solid_list n (yield_of d []) (first at_end d []) none

-- the same with tokens after
pub begun : {n : Nonterminal} (d : Derivation n) (r : List Lexeme) → starts n kinds.End ≡ false → Begins (yield_of d r)
begun {n = n} d r none = solid_list n (yield_of d r) (first at_end d r) none

-- a part that begins at its first token
pub record Covers (p : RightSide) (a : ℕ) : Type 0 where
  pub own : Laid p (begin_of (side_yield p []))
  pub after : a ≤ begin_of (side_yield p [])
  pub runs : begin_of (side_yield p []) ≤ end_of_last p 0
  pub same : end_of_last p 0 ≡ end_of_last p a
  pub same_own : end_of_last p (begin_of (side_yield p [])) ≡ end_of_last p 0

any_end : (xs : List Lexeme) (a b : ℕ) → Begins xs → last_end xs a ≡ last_end xs b
any_end [] a b h = elim h [ ]
any_end (x ∷ xs) a b h = refl

pub any_ends : (p : RightSide) (a b : ℕ) → Begins (side_yield p []) → end_of_last p a ≡ end_of_last p b
any_ends p a b s = sym (ends_last p a []) ∙ any_end (side_yield p []) a b s ∙ ends_last p b []

own_order : (xs : List Lexeme) (a : ℕ) → Begins xs → AreInOrder a xs → AreInOrder (begin_of xs) xs
own_order [] a s h = elim s [ ]
own_order (x ∷ xs) a s h = (omega arith, h.1, h.2)

later : (xs : List Lexeme) (a : ℕ) → Begins xs → AreInOrder a xs → a ≤ begin_of xs
later [] a s h = elim s [ ]
later (x ∷ xs) a s h = h.0

pub covers : (p : RightSide) (a : ℕ) → Begins (side_yield p []) → Laid p a → Covers p a
covers p a s l =
    let h : AreInOrder a (side_yield p []) = listed p a [] l tt in
    let b = begin_of (side_yield p []) in
    let o : AreInOrder b (side_yield p []) = own_order (side_yield p []) a s h in
    let same : (x y : ℕ) → end_of_last p x ≡ end_of_last p y = λ x y. any_ends p x y s in
    let own : Laid p b = (laid p b [] o).0 in
    record {
      own = own;
      after = later (side_yield p []) a s h;
      runs = omega (arith, grows p b own, same b 0);
      same = same 0 a;
      same_own = same b 0;
    }
