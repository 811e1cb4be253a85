-- What C gets.
use Rattle.std.specs.Prelude.{◌≡◌, ℕ, codes, length}
use Rattle.starlark_c.specs.Flags.{flags_of}
use Rattle.starlark_c.specs.Formats.{AnswersInFormat}
use Rattle.starlark_lexer.specs.Places.{File}
use Rattle.starlark_lexer.specs.Tokens.{Text}
use Rattle.starlark_lexer.specs.declared.dialect.Dialect.{Dialect}

-- the file of a text that has no name of its own
abbrev pub file_of : Text → File
file_of text = record { name = codes "input"; text = text }

-- The bytes are the result in a format for a text in the dialect whose parts have this sum. A token that nests deeper than `depth` is an error.
pub record IsAnswer (format depth sum : ℕ) (text bytes : Text) : Type 0 where
  pub dialect : Dialect
  pub parts : sum ≡ flags_of dialect
  pub answers : AnswersInFormat format depth dialect (file_of text) bytes

-- there is a result of this length
pub record HasAnswerOf (len format depth sum : ℕ) (text : Text) : Type 0 where
  pub bytes : Text
  pub is_answer : IsAnswer format depth sum text bytes
  pub has_length : len ≡ length bytes
