-- One piece: a token, or spaces.
use Rattle.std.proofs.Common.{◌≡◌, ℕ, ◌^◌, ◌<◌, nat_lt, Bool, true, false, cond, ◌&&◌, ◌==◌, [], ◌∷◌, ◌++◌, length, codes, Option, Some, None, Ok, Err, refl}
use Rattle.std.proofs.Common.{sym, ap, ◌∙◌, subst, arith, eqb-true, ltb-true, pos}
use Rattle.std.specs.Bool.{⊤}
use Rattle.std.specs.List.{list_all}
use Rattle.std.proofs.lemmas.Bool.{and_parts, false≢true}
use Rattle.std.proofs.lemmas.Option.{none-some}
use Rattle.starlark_lexer.specs.Newlines.{first}
use Rattle.starlark_lexer.specs.Classes.{is_letter, is_name_byte}
use Rattle.starlark_lexer.specs.Numbers.{number_cut, begins_number}
use Rattle.starlark_lexer.specs.Cuts.{token as cut_token}
use Rattle.starlark_lexer.specs.Tokens.{Text, Span, Terminal, Lexeme, LexerFault, lexeme, from_to, Identifier, Int, Float, String, Bytes, small, large}
use Rattle.starlark_lexer.specs.Tokens as tokens
use Rattle.starlark_lexer.specs.Words.{keyword, is_reserved}
use Rattle.starlark_lexer.specs.Lexemes.{State, Step, start, step}
use Rattle.starlark_tree.specs.Ast.{Word}
use Rattle.starlark_source.specs.Pieces.{Pieces, token, blank, spelled, between}
use Rattle.starlark_source.specs.Literals.{name, sayable}
use Rattle.starlark_source.specs.SourceTokens.{is_dedent}
use Rattle.starlark_source.specs.Readings.{whole_of, only_token, reading_of, is_name, is_float, is_large_int, is_name_reading, is_float_reading}
use Rattle.starlark_source.specs.Readings.{is_large_reading}
use Rattle.starlark_lexer.proofs.TokenTexts.LexerStates.{Standing}
use Rattle.starlark_lexer.proofs.TokenTexts.LineTokens.{InLine, Given, on_line, after_spaces}
use Rattle.starlark_lexer.proofs.TokenTexts.Names.{EndsName, keyword_given, identifier_given}
use Rattle.starlark_lexer.proofs.TokenTexts.Numbers.{number_given, decimal_given}
use Rattle.starlark_lexer.proofs.TokenTexts.SingleToken.{IsWritten}
use Rattle.starlark_lexer.proofs.TokenTexts.WholeTexts.{Cuts, as_name, as_float, as_large, as_small, alone_cuts}
use Rattle.starlark_source.proofs.ReadBack.Writing.{Sayable}
use Rattle.starlark_source.proofs.SourceLexemes.Pieces.{one_token, Spells}
use Rattle.starlark_source.proofs.SourceLexemes.NextBytes.{StopsOr, Stops, Any, ends_name, ends_number}

-- ---- a token, or spaces

-- a token that has bytes is not a Dedent
no_dedent : (t : Terminal) → 0 < length (spelled t) → is_dedent t ≡ false
no_dedent tokens.Dedent some = absurd (omega arith)
no_dedent _ some = refl

pub given_token : {c : Standing} {F : Text → Type 0} (t : Terminal) → InLine c → ((rest : Text) → F rest → Given (spelled t) rest t)
    → Spells c (token t ∷ []) c F
given_token {c = c} t line g = record {
  spells = λ rest us f r. one_token {c = c} {d = c} {rest = rest} {text = spelled t ++ rest} {us = us} t (no_dedent t (g rest f).some)
      (λ ts h. on_line line (g rest f) h) r;
}

pub spaces : {c : Standing} (n : ℕ) → InLine c → Spells c (blank n ∷ []) c Any
spaces {c = c} n line = record {
  spells = λ rest us f r. record { lexes = after_spaces n line r.lexes };
}

pub nothing : {c : Standing} → Spells c [] c Any
nothing = record { spells = λ rest us f r. r }

-- a token between two spaces
pub spaced_token : {c : Standing} (t : Terminal) → InLine c → ((rest : Text) → Given (spelled t) (32 ∷ rest) t) → Spells c (between t) c Any
spaced_token {c = c} t line g = record {
  spells = λ rest us f r.
      (spaces 1 line).spells (spelled t ++ 32 ∷ rest) (t ∷ us) tt
      (one_token {c = c} {d = c} {rest = 32 ∷ rest} {text = spelled t ++ 32 ∷ rest} {us = us} t (no_dedent t (g rest).some) (λ ts h. on_line line (g rest) h)
      ((spaces 1 line).spells rest us tt r));
}

pub weaken : {c d : Standing} {ps : Pieces} {F G : Text → Type 0} → Spells c ps d F → ((rest : Text) → G rest → F rest) → Spells c ps d G
weaken a h = record { spells = λ rest us g r. a.spells rest us (h rest g) r }

-- ---- keywords

pub keyword_token : (t : Terminal) (rest : Text) → keyword (spelled t) ≡ Some t → list_all is_name_byte (spelled t) ≡ true → is_letter (first (spelled t))
    ≡ true
    → EndsName rest → Given (spelled t) rest t
keyword_token t rest is all letter ends = keyword_given (spelled t) rest t (record { all = all; letter = letter; ends = ends }) is

pub words : (keyword (codes "and") ≡ Some tokens.And) × (keyword (codes "break") ≡ Some tokens.Break) × (keyword (codes "continue") ≡ Some tokens.Continue)
    × (keyword (codes "def") ≡ Some tokens.Def) × (keyword (codes "elif") ≡ Some tokens.Elif) × (keyword (codes "else") ≡ Some tokens.Else)
    × (keyword (codes "for") ≡ Some tokens.For) × (keyword (codes "if") ≡ Some tokens.If) × (keyword (codes "in") ≡ Some tokens.In)
    × (keyword (codes "lambda") ≡ Some tokens.Lambda) × (keyword (codes "load") ≡ Some tokens.Load) × (keyword (codes "not") ≡ Some tokens.Not)
    × (keyword (codes "or") ≡ Some tokens.Or) × (keyword (codes "pass") ≡ Some tokens.Pass) × (keyword (codes "return") ≡ Some tokens.Return)
unfolding keyword
words = (refl, refl, refl, refl, refl, refl, refl, refl, refl, refl, refl, refl, refl, refl, refl)

pub space_ends : (rest : Text) → EndsName (32 ∷ rest)
space_ends rest = record { no_more = refl; no_quote = refl }

-- ---- names and numbers that are texts

-- the first step, if it returns a token for all of a text
abbrev Only : Text → Terminal → Type 0
Only text t = (u : State) × (step (start text) ≡ Some (Ok (lexeme t (from_to 0 (length text))), u))

some_same : (a b : Terminal) → Some a ≡ Some b → a ≡ b
some_same a b e = cc

no_some : (t : Terminal) → ◌≡◌ {A = Option Terminal} None (Some t) → ⊥
no_some t e = cc

token_whole : (n : ℕ) (l : Lexeme) (t : Terminal) (b : Bool) → (l.span.begin == 0 && l.span.end == n) ≡ b → cond b (Some l.token) None ≡ Some t → l
    ≡ lexeme t (from_to 0 n)
token_whole n l t true here is =
    let parts = and_parts (l.span.begin == 0) (l.span.end == n) here in
    let begin = eqb-true l.span.begin 0 parts.0 in
    let end = eqb-true l.span.end n parts.1 in
    let same = some_same l.token t is in
    (λ i. lexeme (same i) (from_to (begin i) (end i)))
token_whole n l t false here is = absurd (no_some t is)

step_whole : (text : Text) (t : Terminal) (o : Option Step) → step (start text) ≡ o → whole_of (length text) o ≡ Some t → Only text t
step_whole text t None here is = absurd (no_some t is)
step_whole text t (Some (Ok l, u)) here is = (
  u,
  here
      ∙ ap (λ x. Some (Ok x, u)) (token_whole (length text) l t (l.span.begin == 0 && l.span.end == length text) refl is),
)
step_whole text t (Some (Err e, u)) here is = absurd (no_some t is)

some_if : {A : Type 0} (b : Bool) (o : Option A) (x : A) → cond b o None ≡ Some x → o ≡ Some x
some_if true o x is = is
some_if false o x is = absurd (none-some x is)

only_step : (text : Text) (t : Terminal) → only_token text ≡ Some t → Only text t
unfolding only_token
only_step text t is = step_whole text t (step (start text)) refl (some_if (nat_lt (length text) (2 ^ 32)) _ t is)

only_cuts : (text : Text) (t : Terminal) → IsWritten t → only_token text ≡ Some t → Cuts text t
only_cuts text t written is = let h = only_step text t is in alone_cuts text t h.0 written h.1

-- ---- names

-- a name that is neither a keyword nor a reserved word
pub record Named (text : Text) : Type 0 where
  pub all : list_all is_name_byte text ≡ true
  pub letter : is_letter (first text) ≡ true
  pub no_keyword : keyword text ≡ None
  pub no_reserved : is_reserved text ≡ false

abbrev pub NameOf : Text → Terminal → Type 0
NameOf text (Identifier x) = Named text
NameOf text _ = ⊤

pub cuts_name : {text : Text} {t : Terminal} → Cuts text t → NameOf text t
cuts_name (as_name all letter none plain) = record { all = all; letter = letter; no_keyword = none; no_reserved = plain }
cuts_name (as_float begins is) = tt
cuts_name (as_large begins is) = tt
cuts_name (as_small z begins) = tt

name_only : (text : Text) (o : Option Terminal) → only_token text ≡ o → is_name_reading (reading_of o) ≡ true → Named text
name_only text None is e = absurd (false≢true e)
name_only text (Some (Identifier x)) is e = cuts_name (only_cuts text (Identifier x) refl is)
name_only text (Some (Int (large x))) is e = absurd (false≢true e)
name_only text (Some (Int (small x))) is e = absurd (false≢true e)
name_only text (Some _) is e = absurd (false≢true e)

pub is_named : (text : Text) → is_name text ≡ true → Named text
is_named text e = name_only text (only_token text) refl e

pub name_token : (text rest : Text) → Named text → EndsName rest → Given text rest (Identifier text)
name_token text rest h ends = identifier_given text rest (record { all = h.all; letter = h.letter; ends = ends }) h.no_keyword h.no_reserved

pub said_so : (b : Bool) (t : Terminal) (s : Span) → Sayable (sayable b t s) → b ≡ true
said_so true t s h = refl
said_so false t s h = absurd h

sayable_spelled : {c : Standing} {F : Text → Type 0} (b : Bool) (t : Terminal) (s : Span) → Sayable (sayable b t s) → (b ≡ true → Spells c (token t ∷ []) c F)
    → Spells c (sayable b t s) c F
sayable_spelled true t s h f = f refl
sayable_spelled false t s h f = absurd h

pub name_spelled : {c : Standing} (p : Bool) (w : Word) → InLine c → Sayable (name w) → Spells c (name w) c (StopsOr p)
name_spelled p w line h =
    sayable_spelled (is_name w.text) (Identifier w.text) w.span h
    (λ e. given_token (Identifier w.text) line (λ rest f. name_token w.text rest (is_named w.text e) (ends_name p rest f)))

-- ---- numbers

-- the cut of a number that is all of a text
pub record Numbered (text : Text) (t : Terminal) : Type 0 where
  pub begins : begins_number text ≡ true
  pub cut : number_cut text ≡ cut_token t (length text)

abbrev pub NumberOf : Text → Terminal → Type 0
NumberOf text (Float x) = Numbered text (Float text)
NumberOf text (Int (large x)) = Numbered text (Int (large text))
NumberOf text _ = ⊤

pub cuts_number : {text : Text} {t : Terminal} → Cuts text t → NumberOf text t
cuts_number (as_name all letter none plain) = tt
cuts_number (as_float begins is) = record { begins = begins; cut = is }
cuts_number (as_large begins is) = record { begins = begins; cut = is }
cuts_number (as_small z begins) = tt

float_only : (text : Text) (o : Option Terminal) → only_token text ≡ o → is_float_reading (reading_of o) ≡ true → Numbered text (Float text)
float_only text None is e = absurd (false≢true e)
float_only text (Some (Float x)) is e = cuts_number (only_cuts text (Float x) refl is)
float_only text (Some (Int (large x))) is e = absurd (false≢true e)
float_only text (Some (Int (small x))) is e = absurd (false≢true e)
float_only text (Some _) is e = absurd (false≢true e)

large_only : (text : Text) (o : Option Terminal) → only_token text ≡ o → is_large_reading (reading_of o) ≡ true → Numbered text (Int (large text))
large_only text None is e = absurd (false≢true e)
large_only text (Some (Int (large x))) is e = cuts_number (only_cuts text (Int (large x)) refl is)
large_only text (Some (Int (small x))) is e = absurd (false≢true e)
large_only text (Some _) is e = absurd (false≢true e)

pub is_floated : (text : Text) → is_float text ≡ true → Numbered text (Float text)
is_floated text e = float_only text (only_token text) refl e

pub is_large : (text : Text) → is_large_int text ≡ true → Numbered text (Int (large text))
is_large text e = large_only text (only_token text) refl e

numbered_spelled : {c : Standing} (text : Text) (t : Terminal) → spelled t ≡ text → InLine c → Numbered text t → Spells c (token t ∷ []) c Stops
numbered_spelled text t is line h =
    given_token t line (λ rest f. subst (λ x. Given x rest t) (sym is) (number_given text rest t h.begins h.cut (ends_number rest f)))

pub float_spelled : {c : Standing} (text : Text) (s : Span) → InLine c → Sayable (sayable (is_float text) (Float text) s)
    → Spells c (sayable (is_float text) (Float text) s) c Stops
float_spelled text s line h =
    sayable_spelled (is_float text) (Float text) s h (λ e. numbered_spelled text (Float text) refl line (float_only text (only_token text) refl e))

pub large_spelled : {c : Standing} (text : Text) (s : Span) → InLine c → Sayable (sayable (is_large_int text) (Int (large text)) s)
    → Spells c (sayable (is_large_int text) (Int (large text)) s) c Stops
large_spelled text s line h =
    sayable_spelled (is_large_int text) (Int (large text)) s h
    (λ e. numbered_spelled text (Int (large text)) refl line (large_only text (only_token text) refl e))

pub small_spelled : {c : Standing} (n : ℕ) (s : Span) → InLine c → Sayable (sayable (nat_lt n (2 ^ 31)) (Int (small (pos n))) s)
    → Spells c (sayable (nat_lt n (2 ^ 31)) (Int (small (pos n))) s) c Stops
small_spelled n s line h =
    sayable_spelled (nat_lt n (2 ^ 31)) (Int (small (pos n))) s h
    (λ e. given_token (Int (small (pos n))) line (λ rest f. decimal_given n rest (ltb-true n (2 ^ 31) e) (ends_number rest f)))
