-- The lexemes that a run of the lexer gave are those of the text, if memory did not run out.
use Rattle.std.proofs.Common.{◌≡◌, rules, refl, sym, ◌∙◌, ap, subst, true, false, List, [], ◌∷◌, ◌++◌, map, Result, Ok, Err}
use Rattle.std.specs.Iterator.{Drains}
use native.Mathlib.Numerals.{unary_clauses}
use Rattle.starlark_lexer.specs.Lexemes.{lexemes}
use Rattle.starlark_lexer.specs.Lexer.{AreLexemes, CodeLexeme, GaveAll, IsLast, TakesMemory, gives, lexeme_of}
use Rattle.starlark_lexer.specs.Tokens.{Lexeme, LexerFault, Text, fault_of}
use Rattle.starlark_lexer.specs.declared.lexer.Lexer.{Lexer}
use Rattle.starlark_lexer.specs.declared.token.LexerError.{LexerError}
use Rattle.starlark_lexer.specs.declared.token.LexerErrorKind.{LexerErrorKind}
use Rattle.starlark_lexer.specs.declared.token.LexerErrorKind.TheVariants as kinds
use Rattle.starlark_diagnostics.specs.Lexed.{is_memory, runs_out}

-- an error of the text is the last lexeme
ends : (k : LexerErrorKind) (e : LexerError) (xs : List CodeLexeme) (ls : List (Result Lexeme LexerFault)) → is_memory k ≡ false → IsLast k e xs ls
    → (ls ≡ Err (fault_of e) ∷ []) × (xs ≡ [])
ends kinds.Memory e xs ls other last = absurd (search rules)
ends kinds.InvalidCharacter e xs ls other last = last
ends kinds.ReservedKeyword e xs ls other last = last
ends kinds.InvalidNumber e xs ls other last = last
ends kinds.UnfinishedString e xs ls other last = last
ends kinds.InvalidEscape e xs ls other last = last
ends kinds.Indentation e xs ls other last = last
ends kinds.InvalidFString e xs ls other last = last
ends kinds.TooDeep e xs ls other last = last

-- nothing comes after an error
none_after : (k : LexerErrorKind) (e : LexerError) (x : CodeLexeme) (xs : List CodeLexeme) (ls : List (Result Lexeme LexerFault)) → ¬ IsLast k e (x ∷ xs) ls
none_after kinds.Memory e x xs [] last = last
none_after kinds.Memory e x xs (l ∷ ls) last = let no_tail = last.1 in absurd (search (rules, no_tail))
none_after kinds.InvalidCharacter e x xs ls last = let no_tail = last.1 in absurd (search (rules, no_tail))
none_after kinds.ReservedKeyword e x xs ls last = let no_tail = last.1 in absurd (search (rules, no_tail))
none_after kinds.InvalidNumber e x xs ls last = let no_tail = last.1 in absurd (search (rules, no_tail))
none_after kinds.UnfinishedString e x xs ls last = let no_tail = last.1 in absurd (search (rules, no_tail))
none_after kinds.InvalidEscape e x xs ls last = let no_tail = last.1 in absurd (search (rules, no_tail))
none_after kinds.Indentation e x xs ls last = let no_tail = last.1 in absurd (search (rules, no_tail))
none_after kinds.InvalidFString e x xs ls last = let no_tail = last.1 in absurd (search (rules, no_tail))
none_after kinds.TooDeep e x xs ls last = let no_tail = last.1 in absurd (search (rules, no_tail))

-- the last is that of what comes after the first
later : (x y : CodeLexeme) (xs : List CodeLexeme) → runs_out (y ∷ xs) ≡ runs_out (x ∷ y ∷ xs)
later x y xs = simp unary_clauses refl

pub exact : (xs : List CodeLexeme) (ls : List (Result Lexeme LexerFault)) → AreLexemes xs ls → runs_out xs ≡ false → map lexeme_of xs ≡ ls
exact [] ls h q = sym h
exact (Ok x ∷ []) ls (more, e, rest) q = sym (e ∙ ap (λ ys. lexeme_of (Ok x) ∷ ys) rest)
exact (Ok x ∷ y ∷ xs) ls (more, e, rest) q = ap (λ ys. lexeme_of (Ok x) ∷ ys) (exact (y ∷ xs) more rest (later (Ok x) y xs ∙ q)) ∙ sym e
exact (Err e ∷ []) ls h q = sym (ends e.kind e [] ls q h).0
exact (Err e ∷ x ∷ xs) ls h q = absurd (none_after e.kind e x xs ls h)

pub from_run : (s : Lexer) (text : Text) (xs : List CodeLexeme) → ((ys : List CodeLexeme) → GaveAll s ys → AreLexemes ys (lexemes text)) → Drains gives s xs
    → runs_out xs ≡ false → map lexeme_of xs ≡ lexemes text
from_run s text xs all (u, run) q = exact xs (lexemes text) (all xs (record { end = u; run = run })) q

-- the same of what an empty list was extended by
pub from_extend : (s it : Lexer) (text : Text) (old new xs : List CodeLexeme) → ((ys : List CodeLexeme) → GaveAll s ys → AreLexemes ys (lexemes text)) → it ≡ s
    → new ≡ old ++ xs → Drains gives it xs → old ≡ [] → runs_out new ≡ false → map lexeme_of new ≡ lexemes text
from_extend s it text old new xs all same items drained none q =
    let is : new ≡ xs = items ∙ ap (λ l. l ++ xs) none in
    ap (map lexeme_of) is ∙ from_run s text xs all (subst (λ l. Drains gives l xs) same drained) (ap runs_out (sym is) ∙ q)
