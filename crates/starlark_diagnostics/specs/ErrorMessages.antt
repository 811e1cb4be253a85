-- The message of an error.
use Rattle.std.specs.Prelude.{◌≡◌, Option, Some, None}
use Rattle.starlark_lexer.specs.Places.{text_between}
use Rattle.starlark_lexer.specs.Tokens.{Span, Text}
use Rattle.starlark_lexer.specs.declared.dialect.Dialect.{Dialect}
use Rattle.starlark_checks.specs.ErrorText.{error_text}
use Rattle.starlark_checks.specs.Kinds.{Kind, TextTooLong, Memory, UnexpectedToken, UnexpectedEnd, Lexer, Broken}
use Rattle.starlark_checks.specs.Refusals.{Place, Refusal}
use Rattle.starlark_diagnostics.specs.Messages.{lexer_message}
use Rattle.starlark_diagnostics.specs.Rules.{SaysRule}
use Rattle.starlark_diagnostics.specs.Unexpected.{SaysUnexpected}

-- of a kind at a place, under a dialect
abbrev pub SaysAt : Dialect → Kind → Place → Text → Type 0
SaysAt d UnexpectedToken p message = SaysUnexpected p.file.text p.span message
SaysAt d UnexpectedEnd p message = SaysUnexpected p.file.text p.span message
SaysAt d (Lexer e) p message = message ≡ lexer_message e.kind (text_between p.file.text p.span.begin p.span.end)
SaysAt d (Broken rule) p message = SaysRule d rule p message
SaysAt d kind p message = message ≡ error_text kind

-- of a kind at a place, if it is anywhere
abbrev pub SaysKind : Dialect → Kind → Option Place → Text → Type 0
SaysKind d kind None message = message ≡ error_text kind
SaysKind d kind (Some p) message = SaysAt d kind p message

abbrev pub Says : Dialect → Refusal → Text → Type 0
Says d refusal message = SaysKind d refusal.kind refusal.place message
