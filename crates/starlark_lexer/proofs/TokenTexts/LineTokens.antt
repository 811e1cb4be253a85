-- One token on a line.
use Rattle.std.proofs.Common.{◌≡◌, ℕ, zero, suc, ◌+◌, ◌-◌, ◌*◌, ◌<◌, Bool, false, not, cond, ◌&&◌, ◌==◌, nat_lt, List, [], ◌∷◌, ◌++◌, length, get_or, drop}
use Rattle.std.proofs.Common.{replicate, Some, Ok, refl, sym, ap, ◌∙◌, arith, length-append, add_assoc, is_some}
use Rattle.std.specs.Bool.{⊤}
use Rattle.std.proofs.lemmas.Bool.{cond_both, cond-false, ne_eqb}
use Rattle.std.proofs.lemmas.Bool.Decides.{nat_tests}
use Rattle.std.proofs.lemmas.List.{length-replicate}
use Rattle.std.proofs.lemmas.Option.{slice_get_read}
use Rattle.std.proofs.Math.Seq.{get_or-append_seam, take-append_seam, drop-append_seam, drop-append-add}
use Rattle.starlark_lexer.specs.declared.f_string.FString.{FString}
use Rattle.starlark_lexer.specs.Newlines.{first, newline_len}
use Rattle.starlark_lexer.specs.Cuts.{is_gap}
use Rattle.starlark_lexer.specs.Lines.{skip_len, skip_turn}
use Rattle.starlark_lexer.specs.Tokens.{Text, Terminal, lexeme, from_to}
use Rattle.starlark_lexer.specs.Lexemes.{State, Step, after, gives, innermost, without_innermost, plain_step, hole_step, front_step, token_step}
use Rattle.starlark_lexer.specs.Lexemes.{line_or_token_step, text_or_line_step, step, give_last_newline, is_at_hole}
use Rattle.starlark_lexer.proofs.TokenTexts.LexerStates.{Standing, levels_of, AreOpen, state, Lexes, At, as_another}

-- ---- the innermost f-string

last_at : {A : Type 0} (xs : List A) (x : A) → length (xs ++ x ∷ []) - 1 ≡ length xs
last_at xs x = omega (arith, length-append xs (x ∷ []))

pub innermost-last : {A : Type 0} (xs : List A) (x : A) → innermost (xs ++ x ∷ []) ≡ Some x
innermost-last xs x =
    rw (last_at xs x) (slice_get_read (xs ++ x ∷ []) (suc (length xs)) (length xs) x (omega (arith, length-append xs (x ∷ []))) (omega arith)
    (sym (get_or-append_seam xs x [] x)))

pub without-last : {A : Type 0} (xs : List A) (x : A) → without_innermost (xs ++ x ∷ []) ≡ xs
without-last xs x = rw (last_at xs x) (take-append_seam xs (x ∷ []))

-- ---- where tokens are read

-- no f-string is open, or a delimiter or a hole is open in the innermost
abbrev pub IsDeeper : List ℕ → ℕ → Type 0
IsDeeper [] depth = ⊤
IsDeeper (d ∷ ds) depth = d < depth

-- tokens come next, and no text of an f-string
pub record InLine (c : Standing) : Type 0 where
  pub goes_on : c.line_begins ≡ false
  pub deeper : IsDeeper c.frames c.depth

no_text : (s : State) (ds : List ℕ) → AreOpen ds s.f_strings → IsDeeper ds s.depth → text_or_line_step s (innermost s.f_strings) ≡ line_or_token_step s
no_text s [] are deep = ap (λ fs. text_or_line_step s (innermost fs)) are
no_text s (d ∷ ds) (f, more, are, style, depth, others) deep =
    ap (λ fs. text_or_line_step s (innermost fs)) are ∙ ap (text_or_line_step s) (innermost-last more f)
    ∙ cond-false (s.depth == f.depth) _ _ (ne_eqb s.depth f.depth (λ same. omega arith))

-- a token comes next
pub token_next : (c : Standing) (at : ℕ) (rest : Text) (fs : List FString) → InLine c → AreOpen c.frames fs
    → step (state at rest c fs) ≡ Some (token_step (state at rest c fs))
unfolding step
token_next c at rest fs line are =
    ap (λ p. Some p) (no_text (state at rest c fs) c.frames are line.deeper ∙ cond-false c.line_begins _ _ line.goes_on)

-- nothing is skipped
pub nothing_skipped : (s : State) → skip_len (nat_lt 0 s.depth) false s.rest ≡ 0 → 0 < length s.rest → token_step s ≡ front_step (after 0 s)
unfolding token_step
nothing_skipped s none some = rw none (cond-false (length s.rest == 0) _ _ (ne_eqb _ _ (λ e. omega arith)))

hole_plain : (s : State) → (first s.rest == 125) ≡ false → (first s.rest == 33 && not (get_or s.rest 1 0 == 61)) ≡ false → hole_step s ≡ plain_step s
unfolding hole_step
hole_plain s closing bang = cond-false _ _ _ closing ∙ cond-false _ _ _ bang

-- a token that is not the end of a hole, and not the `!` in one
pub not_in_hole : (s : State) → (first s.rest == 125) ≡ false → (first s.rest == 33 && not (get_or s.rest 1 0 == 61)) ≡ false → front_step s ≡ plain_step s
unfolding front_step
not_in_hole s closing bang =
    cond_both (is_at_hole s.depth (innermost s.f_strings)) (hole_step s) (plain_step s) (λ p. p ≡ plain_step s) (λ _. hole_plain s closing bang) (λ _. refl)

-- ---- the first byte of a token

-- a byte that is neither whitespace nor `\`
pub record Solid (text : Text) : Type 0 where
  pub some : 0 < length text
  pub no_gap : is_gap (first text) ≡ false

pub skip_none : (quiet : Bool) (text : Text) → Solid text → skip_len quiet false text ≡ 0
unfolding skip_len
skip_none quiet [] h = refl
skip_none quiet (c ∷ cs) h =
    let gap = h.no_gap in
    let none : is_some (skip_turn quiet false (c ∷ cs)) ≡ false = grind (arith, nat_tests) in
    cond-false _ _ 0 none

pub solid_unbroken : (text : Text) → Solid text → newline_len text ≡ 0
solid_unbroken text h = let gap = h.no_gap in grind (arith, nat_tests)

-- ---- a token at the front of a text that is not a delimiter

-- these bytes are such a token, with this text after them
pub record Given (front rest : Text) (t : Terminal) : Type 0 where
  pub some : 0 < length front
  pub solid : Solid (front ++ rest)
  pub no_hole_end : (first (front ++ rest) == 125) ≡ false
  pub no_bang : (first (front ++ rest) == 33 && not (get_or (front ++ rest) 1 0 == 61)) ≡ false
  pub given : (s : State) → s.rest ≡ front ++ rest → plain_step s ≡ gives t (length front) s (after (length front) s)

left_after : (levels : ℕ) (front rest : Text) → 0 < length front → levels + (1 + 2 * length rest) < levels + (1 + 2 * length (front ++ rest))
left_after levels front rest some = omega (arith, length-append front rest)

pub on_line : {c : Standing} {front rest : Text} {t : Terminal} {ts : List Terminal} → InLine c → Given front rest t → At c rest ts
    → At c (front ++ rest) (t ∷ ts)
on_line {c = c} {front = front} {rest = rest} {t = t} {ts = ts} line g r = record { lexes = λ at fs are. go at fs are }
  where
    go : (at : ℕ) (fs : List FString) → AreOpen c.frames fs → Lexes (t ∷ ts) (state at (front ++ rest) c fs)
    go at fs are =
        let s = state at (front ++ rest) c fs in
        let n = length front in
        let is : step s ≡ Some (gives t n (after 0 s) (after n (after 0 s))) =
        token_next c at (front ++ rest) fs line are
        ∙ ap (λ p. Some p) (nothing_skipped s (skip_none (nat_lt 0 c.depth) (front ++ rest) g.solid) g.solid.some
        ∙ not_in_hole (after 0 s) g.no_hole_end g.no_bang ∙ g.given (after 0 s) refl) in
        let same : after n (after 0 s) ≡ state (at + 0 + n) rest c fs = ap (λ left_text. state (at + 0 + n) left_text c fs) (drop-append_seam front rest) in (
          from_to (at + 0) (at + 0 + n),
          state (at + 0 + n) rest c fs,
          is ∙ ap (λ u. Some (Ok (lexeme t (from_to (at + 0) (at + 0 + n))), u)) same,
          left_after (length (levels_of c.blocks)) front rest g.some,
          r.lexes (at + 0 + n) fs are,
        )

-- ---- spaces before a token

skip_spaces : (quiet : Bool) (n : ℕ) (rest : Text) → skip_len quiet false (replicate n 32 ++ rest) ≡ n + skip_len quiet false rest
unfolding skip_len
skip_spaces quiet zero rest = omega arith
skip_spaces quiet (suc n) rest = omega (arith, skip_spaces quiet n rest)

token_skipped : (s : State) (k : ℕ) → skip_len (nat_lt 0 s.depth) false s.rest ≡ k
    → token_step s ≡ cond (length (drop k s.rest) == 0) (give_last_newline (after k s)) (front_step (after k s))
unfolding token_step
token_skipped s k is = rw is refl

drop_spaces : (n k : ℕ) (rest : Text) → drop (n + k) (replicate n 32 ++ rest) ≡ drop k rest
drop_spaces n k rest = ap (λ m. drop (m + k) (replicate n 32 ++ rest)) (sym (length-replicate n 32)) ∙ drop-append-add (replicate n 32) rest k

spaces_skipped : (c : Standing) (n at : ℕ) (rest : Text) (fs : List FString)
    → token_step (state at (replicate n 32 ++ rest) c fs) ≡ token_step (state (at + n) rest c fs)
spaces_skipped c n at rest fs =
    let k = skip_len (nat_lt 0 c.depth) false rest in
    let P : ℕ → Text → Step = λ place text. cond (length text == 0) (give_last_newline (state place text c fs)) (front_step (state place text c fs)) in
    let same = drop_spaces n k rest in
    let there = add_assoc at n k in
    token_skipped (state at (replicate n 32 ++ rest) c fs) (n + k) (skip_spaces (nat_lt 0 c.depth) n rest)
    ∙ ap (λ text. P (at + (n + k)) text) same ∙ ap (λ place. P place (drop k rest)) (sym there)
    ∙ sym (token_skipped (state (at + n) rest c fs) k refl)

-- spaces before a token are skipped
pub after_spaces : {c : Standing} {rest : Text} {ts : List Terminal} (n : ℕ) → InLine c → At c rest ts → At c (replicate n 32 ++ rest) ts
after_spaces {c = c} {rest = rest} {ts = ts} n line r = record {
  lexes = λ at fs are. as_another ts (state at (replicate n 32 ++ rest) c fs) (state (at + n) rest c fs)
      (token_next c at (replicate n 32 ++ rest) fs line are ∙ ap (λ p. Some p) (spaces_skipped c n at rest fs) ∙ sym (token_next c (at + n) rest fs line are))
      (omega (arith, length-append (replicate n 32) rest)) (r.lexes (at + n) fs are);
}
