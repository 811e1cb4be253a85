-- When a right side has the tokens of pieces, and when pieces are read as a value.
use Rattle.std.proofs.Common.{◌≡◌, ℕ, List as Seq, [], ◌∷◌, ◌++◌, refl, sym, ap, ◌∙◌, subst, append_assoc, append-nil, true, false, Bool, Result, is_some}
use Rattle.std.specs.Bool.{⊤}
use Rattle.std.specs.Prelude.{is_ok}
use Rattle.starlark_lexer.specs.Tokens.{Span, Terminal, Lexeme}
use Rattle.starlark_tree.specs.Ast.{no_payload, Target, Word}
use Rattle.starlark_lexer.specs.Tokens as tokens
use Rattle.starlark_spec.specs.Faults.{Fault}
use Rattle.starlark_spec.specs.Targets.{map_ok, target}
use Rattle.starlark_spec.specs.Assignments.{assigned_target}
use Rattle.starlark_spec.specs.Grammar.{Nonterminal, Derivation, Node, node, RightSide, right_side, side_yield, side_condition}
use Rattle.starlark_spec.specs.Grammar.Derivation.{for_loop, for_clause, small_assign, list_comma, vars_comma, sym_alone, conversion_absent, conversion_name}
use Rattle.starlark_spec.specs.Grammar.RightSide.{nothing, word, ◌⨾◌, marked, tokens_end}
use Rattle.starlark_spec.specs.Trees.{TreeOf, assign_operator, conversion_of, tree}
use Rattle.starlark_source.specs.Pieces.{Pieces, token, text_byte, blank, unsayable, between}
use Rattle.starlark_source.specs.Literals.{name, sayable}
use Rattle.starlark_source.specs.Readings.{is_name}
use Rattle.starlark_source.specs.SourceTokens.{tokens_of, terminals}
use Rattle.starlark_source.specs.Unspanned.{unspanned_target}

-- a text denotes each of the pieces
abbrev pub Sayable : Pieces → Type 0
Sayable [] = ⊤
Sayable (token t ∷ ps) = Sayable ps
Sayable (text_byte b ∷ ps) = Sayable ps
Sayable (blank n ∷ ps) = Sayable ps
Sayable (unsayable s ∷ ps) = ⊥

pub split : (ps qs : Pieces) → Sayable (ps ++ qs) → Sayable ps × Sayable qs
split [] qs h = (tt, h)
split (token t ∷ ps) qs h = split ps qs h
split (text_byte b ∷ ps) qs h = split ps qs h
split (blank n ∷ ps) qs h = split ps qs h
split (unsayable s ∷ ps) qs h = absurd h

-- the tokens of a right side, before these
abbrev pub side_tokens : RightSide → Seq Terminal → Seq Terminal
side_tokens nothing ts = ts
side_tokens (word t s) ts = t ∷ ts
side_tokens (a ⨾ b) ts = side_tokens a (side_tokens b ts)
side_tokens (marked x a) ts = side_tokens a ts
side_tokens tokens_end ts = ts

pub yields : (a : RightSide) (ls : Seq Lexeme) → terminals (side_yield a ls) ≡ side_tokens a (terminals ls)
yields nothing ls = refl
yields (word t s) ls = refl
yields (a ⨾ b) ls = yields a (side_yield b ls) ∙ ap (side_tokens a) (yields b ls)
yields (marked x a) ls = yields a ls
yields tokens_end ls = refl

-- a right side that never requires that the tokens end
abbrev pub IsClosed : RightSide → Type 0
IsClosed nothing = ⊤
IsClosed (word t s) = ⊤
IsClosed (a ⨾ b) = IsClosed a × IsClosed b
IsClosed (marked x a) = IsClosed a
IsClosed tokens_end = ⊥

pub open_nowhere : (a : RightSide) (ls : Seq Lexeme) (T : Type 0) → IsClosed a → T → side_condition a ls T
open_nowhere nothing ls T h x = x
open_nowhere (word t s) ls T h x = x
open_nowhere (a ⨾ b) ls T h x = open_nowhere a (side_yield b ls) (side_condition b ls T) h.0 (open_nowhere b ls T h.1 x)
open_nowhere (marked n a) ls T h x = open_nowhere a ls T h x
open_nowhere tokens_end ls T h x = absurd h

-- the target that an expression is, without spans, or the fault
abbrev pub aimed : Result (Target no_payload) Fault → Result (Target no_payload) Fault
aimed r = map_ok (λ x. unspanned_target x) r

-- whether a node keeps the rules that are tested while tokens are read, apart from those of types
abbrev pub keeps : {n : Nonterminal} → Derivation n → Bool
keeps (for_loop for_at vars in_at source colon_at suite) = is_ok (target (tree vars))
keeps (for_clause for_at vars in_at source) = is_ok (target (tree vars))
keeps (small_assign left annotation sign sign_at right) = is_ok (assigned_target (tree left) (tree annotation) (assign_operator sign))
keeps (list_comma listed comma_at) = false
keeps (vars_comma listed comma_at) = false
keeps (sym_alone name name_at) = false
keeps (conversion_absent bang_at) = false
keeps (conversion_name bang_at name name_at) = is_some (conversion_of name)
keeps d = true

abbrev pub node_keeps : Node → Bool
node_keeps (node d) = keeps d

-- a right side whose nodes all keep them, and that never requires that the tokens end
abbrev pub IsFine : RightSide → Type 0
IsFine nothing = ⊤
IsFine (word t s) = ⊤
IsFine (a ⨾ b) = IsFine a × IsFine b
IsFine (marked x a) = (node_keeps x ≡ true) × IsFine a
IsFine tokens_end = ⊥

pub fine_closed : (a : RightSide) → IsFine a → IsClosed a
fine_closed nothing h = tt
fine_closed (word t s) h = tt
fine_closed (a ⨾ b) h = (fine_closed a h.0, fine_closed b h.1)
fine_closed (marked x a) h = fine_closed a h.1
fine_closed tokens_end h = absurd h

-- a right side that keeps the rules has the tokens of pieces, whatever comes after them
pub record Writes (a : RightSide) (ps : Pieces) : Type 0 where
  pub fine : IsFine a
  pub tokens : (rest : Pieces) → side_tokens a (tokens_of rest) ≡ tokens_of (ps ++ rest)

-- a derivation has the tokens of pieces, and its tree is seen as this value
pub record Reads (n : Nonterminal) {A : Type 0} (look : TreeOf n → A) (ps : Pieces) (value : A) : Type 0 where
  pub derivation : Derivation n
  pub writes : Writes (right_side derivation) ps
  pub looks : look (tree derivation) ≡ value

-- ---- one after another

pub none_written : Writes nothing []
none_written = record { fine = tt; tokens = λ rest. refl }

pub one : {t : Terminal} {s : Span} → Writes (word t s) (token t ∷ [])
one = record { fine = tt; tokens = λ rest. refl }

pub followed : {a b : RightSide} {ps qs : Pieces} → Writes a ps → Writes b qs → Writes (a ⨾ b) (ps ++ qs)
followed {a = a} {b = b} {ps = ps} {qs = qs} w v = record {
  fine = (w.fine, v.fine);
  tokens = λ rest. ap (side_tokens a) (v.tokens rest) ∙ w.tokens (qs ++ rest) ∙ ap tokens_of (sym (append_assoc ps qs rest));
}

pub after : {t : Terminal} {s : Span} {a : RightSide} {ps : Pieces} → Writes a ps → Writes (word t s ⨾ a) (token t ∷ ps)
after {t = t} w = record { fine = (tt, w.fine); tokens = λ rest. ap (λ ts. t ∷ ts) (w.tokens rest) }

pub spaced : {a : RightSide} {ps : Pieces} (n : ℕ) → Writes a ps → Writes a (blank n ∷ ps)
spaced n w = record { fine = w.fine; tokens = λ rest. w.tokens rest }

-- a token between two spaces, before the rest
pub after_sign : {t : Terminal} {s : Span} {a : RightSide} {ps : Pieces} → Writes a ps → Writes (word t s ⨾ a) (between t ++ ps)
after_sign {t = t} w = record { fine = (tt, w.fine); tokens = λ rest. ap (λ ts. t ∷ ts) (w.tokens rest) }

pub with_mark : {x : Node} {a : RightSide} {ps : Pieces} → node_keeps x ≡ true → Writes a ps → Writes (marked x a) ps
with_mark kept w = record { fine = (kept, w.fine); tokens = λ rest. w.tokens rest }

pub as_pieces : {a : RightSide} {ps qs : Pieces} → ps ≡ qs → Writes a ps → Writes a qs
as_pieces {a = a} is w = subst (λ ps. Writes a ps) is w

pub then_none : {a : RightSide} {ps : Pieces} → Writes a ps → Writes a (ps ++ [])
then_none {ps = ps} w = as_pieces (sym (append-nil ps)) w

pub reads_as : {n : Nonterminal} {A : Type 0} {look : TreeOf n → A} {ps qs : Pieces} {x y : A} → ps ≡ qs → x ≡ y → Reads n look ps x → Reads n look qs y
reads_as is same r = record { derivation = r.derivation; writes = as_pieces is r.writes; looks = r.looks ∙ same }

-- ---- tokens that the lexer reads from a text

pub token_written : (said : Bool) (t : Terminal) (s at : Span) → Sayable (sayable said t s) → Writes (word t at) (sayable said t s)
token_written true t s at h = one
token_written false t s at h = absurd h

pub name_written : (w : Word) (at : Span) → Sayable (name w) → Writes (word (tokens.Identifier w.text) at) (name w)
name_written w at h = token_written (is_name w.text) (tokens.Identifier w.text) w.span at h
