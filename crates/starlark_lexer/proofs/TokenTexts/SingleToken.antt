-- A text that is one token, as the lexer reads it.
use Rattle.std.proofs.Common.{◌≡◌, ℕ, ◌+◌, Bool, true, false, cond, ◌==◌, nat_lt, [], length, get_or, take, drop, Option, Some, None, unwrap_or, Result, Ok}
use Rattle.std.proofs.Common.{Err, refl, sym, ap, ◌∙◌, subst, arith}
use Rattle.std.proofs.lemmas.Bool.{cond_both, false≢true}
use Rattle.starlark_lexer.specs.declared.string.escape.Stop.{Stop}
use Rattle.starlark_lexer.specs.declared.string.escape.Stop.TheVariants.{Closed, Unfinished, Hole, LoneBrace, BadEscape}
use Rattle.starlark_lexer.specs.declared.string.opening.Style.{Style}
use Rattle.starlark_lexer.specs.declared.token.LexerErrorKind.{LexerErrorKind}
use Rattle.starlark_lexer.specs.Cuts.{Cut}
use Rattle.starlark_lexer.specs.Lexing.{cut, comment_cut}
use Rattle.starlark_lexer.specs.Lines.{skip_len, whitespace_len, blank_lines_len, indentation}
use Rattle.starlark_lexer.specs.Openings.{opening}
use Rattle.starlark_lexer.specs.Strings.{run, literal, cut_at, string_cut}
use Rattle.starlark_lexer.specs.Tokens.{Text, Terminal, Lexeme, LexerFault, lexeme, from_to, Identifier, Int, Float, String, Bytes, Newline}
use Rattle.starlark_lexer.specs.Lexemes.{State, Step, start, take_what, take_cut, open_f_string, literal_or, plain_step, front_step, token_step, is_level}
use Rattle.starlark_lexer.specs.Lexemes.{level, indent_step, filled_line_step, line_step, step}

-- a token whose text determines it
abbrev pub is_written : Terminal → Bool
is_written (Identifier text) = true
is_written (Int n) = true
is_written (Float text) = true
is_written _ = false

abbrev pub IsWritten : Terminal → Type 0
IsWritten t = is_written t ≡ true

-- a step that returns such a token for all of a text cuts it off at its front
pub record Tells (text : Text) (p : Step) : Type 0 where
  pub tells : (t : Terminal) (u : State) → IsWritten t → p ≡ (Ok (lexeme t (from_to 0 (length text))), u)
      → (opening text ≡ None) × ((cut text).what ≡ Ok t) × ((cut text).len ≡ length text)

-- ---- what is returned

abbrev token_of : Result Lexeme LexerFault → Terminal
token_of (Ok l) = l.token
token_of (Err e) = Newline

abbrev begin_of : Result Lexeme LexerFault → ℕ
begin_of (Ok l) = l.span.begin
begin_of (Err e) = 0

abbrev end_of : Result Lexeme LexerFault → ℕ
end_of (Ok l) = l.span.end
end_of (Err e) = 0

-- another token
other : (text : Text) (what : Terminal) (a b : ℕ) (v : State) → (IsWritten what → ⊥) → Tells text (Ok (lexeme what (from_to a b)), v)
other text what a b v not_written = record {
  tells =
      λ t u written is. absurd (not_written (subst IsWritten (sym (ap (λ (p : Step). token_of p.0) is)) written));
}

no_error : (a : LexerFault) (b : Lexeme) → ◌≡◌ {A = Result Lexeme LexerFault} (Err a) (Ok b) → ⊥
no_error a b e = cc

refused : (text : Text) (e : LexerFault) (v : State) → Tells text (Err e, v)
refused text e v = record { tells = λ t u written is. absurd (no_error e _ (ap (λ (p : Step). p.0) is)) }

either : (text : Text) (b : Bool) (p q : Step) → Tells text p → Tells text q → Tells text (cond b p q)
either text b p q h k = cond_both b p q (Tells text) (λ _. h) (λ _. k)

-- ---- literals

literal_other : (text : Text) (s : State) (style : Style) (inside : Text) (a b : ℕ) (v : State)
    → Tells text (Ok (lexeme (literal style inside) (from_to a b)), v)
unfolding literal
literal_other text s style inside a b v =
    cond_both style.bytes (Bytes (run style inside).value) (String (run style inside).value) (λ w. Tells text (Ok (lexeme w (from_to a b)), v))
    (λ _. other text _ a b v false≢true) (λ _. other text _ a b v false≢true)

cut_other : (text : Text) (s : State) (style : Style) (n : ℕ) (inside : Text) (len : ℕ) (stop : Stop)
    → Tells text (take_cut s (cut_at style n inside len stop))
cut_other text s style n inside len Closed = literal_other text s style inside _ _ _
cut_other text s style n inside len (BadEscape k) = refused text _ _
cut_other text s style n inside len Unfinished = refused text _ _
cut_other text s style n inside len Hole = refused text _ _
cut_other text s style n inside len LoneBrace = refused text _ _

string_other : (text : Text) (s : State) (style : Style) (n : ℕ) → Tells text (take_cut s (string_cut style n s.rest))
unfolding string_cut
string_other text s style n = cut_other text s style n (drop n s.rest) (run style (drop n s.rest)).len (run style (drop n s.rest)).stop

-- ---- what begins with no literal

taken : (text : Text) (s : State) (c : Cut) (what : Result Terminal LexerErrorKind) → c.what ≡ what → (s.at ≡ 0 → s.rest ≡ text) → opening s.rest ≡ None → c
    ≡ cut s.rest
    → Tells text (take_what s c what)
taken text s c (Err kind) is same none here = refused text _ _
taken text s c (Ok what) is same none here = record {
  tells = λ t u written given.
      let begin : s.at ≡ 0 = ap (λ (p : Step). begin_of p.0) given in
      let end : s.at + c.len ≡ length text = ap (λ (p : Step). end_of p.0) given in
      let rest = same begin in
      let whole : c ≡ cut text = here ∙ ap cut rest in (
        ap opening (sym rest) ∙ none,
        ap (λ (x : Cut). x.what) (sym whole) ∙ is ∙ ap (λ (p : Step). Ok (token_of p.0)) given,
        ap (λ (x : Cut). x.len) (sym whole) ∙ omega arith,
      );
}

opened : (text : Text) (s : State) (o : Option (Style × ℕ)) → opening s.rest ≡ o → (s.at ≡ 0 → s.rest ≡ text) → Tells text (literal_or s o)
opened text s None is same = taken text s (cut s.rest) (cut s.rest).what refl same is refl
opened text s (Some o) is same =
    either text o.0.format (open_f_string o.0 o.1 s) (take_cut s (string_cut o.0 o.1 s.rest)) (other text _ _ _ _ false≢true) (string_other text s o.0 o.1)

plain_tells : (text : Text) (s : State) → (s.at ≡ 0 → s.rest ≡ text) → Tells text (plain_step s)
unfolding plain_step
plain_tells text s same = opened text s (opening s.rest) refl same

-- ---- from the start of the text

abbrev alone : ℕ → Text → Bool → State
alone at rest line = record { at = at; rest = rest; depth = 0; line_begins = line; levels = []; f_strings = []; ended = false }

front_tells : (text : Text) (at : ℕ) (rest : Text) (line : Bool) → (at ≡ 0 → rest ≡ text) → Tells text (front_step (alone at rest line))
unfolding front_step
front_tells text at rest line same = plain_tells text (alone at rest line) same

drop_zero : (k : ℕ) (rest : Text) → k ≡ 0 → drop k rest ≡ rest
drop_zero k rest e = ap (λ n. drop n rest) e

token_tells : (text : Text) (at : ℕ) (rest : Text) (line : Bool) → (at ≡ 0 → rest ≡ text) → Tells text (token_step (alone at rest line))
unfolding token_step
token_tells text at rest line same =
    let k = skip_len false false rest in
    either text (length (drop k rest) == 0) _ _ (other text _ _ _ _ false≢true)
    (front_tells text (at + k) (drop k rest) line (λ e. drop_zero k rest (omega arith) ∙ same (omega arith)))

indent_tells : (text : Text) (at : ℕ) (rest : Text) (whitespace n : ℕ) → (at ≡ 0 → rest ≡ text) → Tells text (indent_step (alone at rest true) whitespace n)
unfolding indent_step
indent_tells text at rest whitespace n same =
    either text (nat_lt (level []) n) _ _ (other text _ _ _ _ false≢true)
    (either text (n == level []) _ _
    (token_tells text (at + whitespace) (drop whitespace rest) false (λ e. drop_zero whitespace rest (omega arith) ∙ same (omega arith)))
    (either text (is_level n []) _ _ (other text _ _ _ _ false≢true) (refused text _ _)))

comment_tells : (text : Text) (s : State) (rest : Text) → Tells text (take_cut s (comment_cut rest))
unfolding comment_cut
comment_tells text s rest = other text _ _ _ _ false≢true

filled_tells : (text : Text) (at : ℕ) (rest : Text) → (at ≡ 0 → rest ≡ text) → Tells text (filled_line_step (alone at rest true))
unfolding filled_line_step
filled_tells text at rest same =
    let whitespace = whitespace_len rest in
    either text (whitespace == length rest) _ _ (other text _ _ _ _ false≢true)
    (either text (get_or rest whitespace 0 == 35) _ _ (comment_tells text (alone (at + whitespace) (drop whitespace rest) true) (drop whitespace rest))
    (indent_tells text at rest whitespace (indentation (take whitespace rest)) same))

line_tells : (text : Text) → Tells text (line_step (start text))
line_tells text =
    let k = blank_lines_len text in
    filled_tells text (0 + k) (drop k text) (λ e. drop_zero k text (omega arith))

begins_so : (text : Text) → step (start text) ≡ Some (line_step (start text))
unfolding step
begins_so text = refl

-- if the first step returns a name or number for all of a text, that is cut off at its front
pub alone_tells : (text : Text) (t : Terminal) (u : State) → IsWritten t → step (start text) ≡ Some (Ok (lexeme t (from_to 0 (length text))), u)
    → (opening text ≡ None) × ((cut text).what ≡ Ok t) × ((cut text).len ≡ length text)
alone_tells text t u written is =
    let p = line_step (start text) in
    let same : p ≡ (Ok (lexeme t (from_to 0 (length text))), u) = ap (λ o. unwrap_or o p) (sym (begins_so text) ∙ is) in
    (line_tells text).tells t u written same
