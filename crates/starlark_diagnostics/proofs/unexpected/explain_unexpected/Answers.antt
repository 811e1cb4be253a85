use Rattle.std.proofs.Common.{ap, ◌∙◌, ◌⊎◌, map, string_bytes, subst}
use Rattle.starlark_lexer.specs.Lexemes.{lexemes}
use Rattle.starlark_lexer.specs.Lexer.{lexeme_of}
use Rattle.starlark_diagnostics.specs.Unexpected.{IsSentence, Names}
use Rattle.starlark_diagnostics.proofs.Expecting.{says}
use Rattle.starlark_diagnostics.proofs.unexpected.explain_unexpected.Goals as goal

pub returns : goal.returns
returns c =
    let message = string_bytes c.in_ok-message.field-0 in
    says c.args.place.now.file.text c.args.place.now.span c.deref.result.now c.in_ok-stop.stop message
    (ap (map lexeme_of) c.deref.ensures.value ∙ c.in_ok-lexemes.ensures ∙ ap lexemes c.source.ensures.text) c.in_ok-stop.ensures
    (subst (λ text. IsSentence message ⊎ Names c.in_ok-stop.stop text message) c.source_span.ensures c.in_ok-message.ensures)
