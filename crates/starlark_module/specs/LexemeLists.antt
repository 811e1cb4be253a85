-- Lists of lexemes of a text.
use Rattle.std.specs.Prelude.{ℕ, ◌≤◌, List, [], ◌∷◌, ⊤, Ok, Err}
use Rattle.std.specs.Str.{IsCharBoundary}
use Rattle.std.specs.Vec.Iter.{into_iter_items}
use Rattle.starlark_lexer.specs.Lexer.{CodeLexeme}
use Rattle.starlark_lexer.specs.Tokens.{Text}
use Rattle.starlark_module.specs.declared.module.lexeme_list.LexemeList.{LexemeList}

abbrev pub lexemes_left : LexemeList → List CodeLexeme
lexemes_left l = into_iter_items l.rest

-- The tokens come one after another from an offset on, in the text and on the bounds of its characters.
abbrev pub AreInText : Text → ℕ → List CodeLexeme → Type 0
AreInText text from [] = ⊤
AreInText text from (Ok x ∷ xs) = (from ≤ x.0) × (x.0 ≤ x.2) × IsCharBoundary text x.0 × IsCharBoundary text x.2 × AreInText text x.2 xs
AreInText text from (Err e ∷ xs) = AreInText text from xs
