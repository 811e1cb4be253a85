-- How the lexer reads a text.
use Rattle.std.proofs.Common.{◌≡◌, ℕ, ◌^◌, ◌==◌, ◌&&◌, nat_lt, Bool, true, false, if◌then◌else◌, length, Option, Some, None, Result, Ok, Err, refl, sym, ap}
use Rattle.std.proofs.Common.{◌∙◌}
use Rattle.std.specs.Prelude.{IfOk, IsSomeAnd}
use Rattle.std.specs.declared.alloc.AllocError.{AllocError}
use Rattle.starlark_lexer.specs.Tokens.{Text, Lexeme, terminal}
use Rattle.starlark_lexer.specs.Lexemes.{State, Step, start, step}
use Rattle.starlark_lexer.specs.Lexer.{CodeLexeme, Gave, Refuses, lexeme_of}
use Rattle.starlark_lexer.specs.declared.token.LexerError.{LexerError}
use Rattle.starlark_lexer.specs.declared.token.LexerErrorKind.{LexerErrorKind}
use Rattle.starlark_lexer.specs.declared.token.LexerErrorKind.TheVariants as kinds
use Rattle.starlark_lexer.specs.declared.token.Token.{Token}
use Rattle.starlark_source.specs.Readings.{only_token, reading_of, reads, whole_of, whole_token}
use Rattle.starlark_source.specs.declared.reading.Reading.{Reading}
use Rattle.starlark_source.specs.declared.reading.Reading.TheVariants as readings

whole_if : (n : ℕ) (l : Lexeme) (b : Bool) → (l.span.begin == 0 && l.span.end == n) ≡ b → whole_token n (Ok l) ≡ (if b then Some l.token else None)
whole_if n l b is = ap (λ x. if x then Some l.token else None) is

pub judged_whole : (p : Step) (t : State) (x : ℕ × Token × ℕ) (n : ℕ) (r : Reading) → Gave p (Ok x) t → (x.0 == 0 && x.2 == n) ≡ true
    → r ≡ reading_of (Some (terminal x.1)) → r ≡ reading_of (whole_token n p.0)
judged_whole p t x n r gave is same =
    same ∙ sym (ap (λ q. reading_of (whole_token n q.0)) gave ∙ ap (λ b. reading_of (if b then Some (terminal x.1) else None)) is)

pub judged_part : (p : Step) (t : State) (x : ℕ × Token × ℕ) (n : ℕ) → Gave p (Ok x) t → (x.0 == 0 && x.2 == n) ≡ false
    → readings.Other ≡ reading_of (whole_token n p.0)
judged_part p t x n gave is = sym (ap (λ q. reading_of (whole_token n q.0)) gave ∙ ap (λ b. reading_of (if b then Some (terminal x.1) else None)) is)

refused_kind : (k : LexerErrorKind) (e : LexerError) (p : Step) (t : State) (n : ℕ) → ¬ (k ≡ kinds.Memory) → Refuses k e p t
    → readings.Other ≡ reading_of (whole_token n p.0)
refused_kind kinds.InvalidCharacter e p t n other is = sym (ap (λ q. reading_of (whole_token n q.0)) is)
refused_kind kinds.ReservedKeyword e p t n other is = sym (ap (λ q. reading_of (whole_token n q.0)) is)
refused_kind kinds.InvalidNumber e p t n other is = sym (ap (λ q. reading_of (whole_token n q.0)) is)
refused_kind kinds.UnfinishedString e p t n other is = sym (ap (λ q. reading_of (whole_token n q.0)) is)
refused_kind kinds.InvalidEscape e p t n other is = sym (ap (λ q. reading_of (whole_token n q.0)) is)
refused_kind kinds.Indentation e p t n other is = sym (ap (λ q. reading_of (whole_token n q.0)) is)
refused_kind kinds.InvalidFString e p t n other is = sym (ap (λ q. reading_of (whole_token n q.0)) is)
refused_kind kinds.TooDeep e p t n other is = sym (ap (λ q. reading_of (whole_token n q.0)) is)
refused_kind kinds.Memory e p t n other is = absurd (other refl)

pub judged_error : (p : Step) (t : State) (e : LexerError) (n : ℕ) → Gave p (Err e) t → ¬ (e.kind ≡ kinds.Memory)
    → readings.Other ≡ reading_of (whole_token n p.0)
judged_error p t e n gave other = refused_kind e.kind e p t n other gave

pub too_long : (text : Text) → nat_lt (length text) (2 ^ 32) ≡ false → readings.Other ≡ reads text
unfolding only_token
too_long text is = sym (ap (λ b. reading_of (if b then whole_of (length text) (step (start text)) else None)) is)

reads_step : (text : Text) (s : State) → nat_lt (length text) (2 ^ 32) ≡ true → s ≡ start text → reading_of (whole_of (length text) (step s)) ≡ reads text
unfolding only_token
reads_step text s short is =
    ap (λ u. reading_of (whole_of (length text) (step u))) is
    ∙ sym (ap (λ b. reading_of (if b then whole_of (length text) (step (start text)) else None)) short)

pub nothing_read : (text : Text) (s : State) → nat_lt (length text) (2 ^ 32) ≡ true → s ≡ start text → step s ≡ None → readings.Other ≡ reads text
nothing_read text s short is none = sym (ap (λ o. reading_of (whole_of (length text) o)) none) ∙ reads_step text s short is

some_step : (o : Option Step) (n : ℕ) (x : CodeLexeme) (t : State) (r : Reading) → IsSomeAnd o (λ p. Gave p x t)
    → ((p : Step) (u : State) → Gave p x u → r ≡ reading_of (whole_token n p.0)) → r ≡ reading_of (whole_of n o)
some_step None n x t r gave all = absurd gave
some_step (Some p) n x t r gave all = all p t gave

pub something_read : (text : Text) (s t : State) (x : CodeLexeme) (r : Result Reading AllocError) → nat_lt (length text) (2 ^ 32) ≡ true → s ≡ start text
    → IsSomeAnd (step s) (λ p. Gave p x t)
    → ((p : Step) (u : State) → Gave p x u → IfOk r (λ k. k ≡ reading_of (whole_token (length text) p.0))) → IfOk r (λ k. k ≡ reads text)
something_read text s t x (Ok k) short is gave all = some_step (step s) (length text) x t k gave all ∙ reads_step text s short is
something_read text s t x (Err e) short is gave all = tt
