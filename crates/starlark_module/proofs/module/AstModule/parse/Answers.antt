use Rattle.std.proofs.Common.{string_bytes, ap, ◌∙◌}
use Rattle.starlark_lexer.specs.Lexemes.{start}
use Rattle.starlark_lexer.specs.Places.{File}
use Rattle.starlark_module.proofs.LexerItems.{answers_text}
use Rattle.starlark_module.proofs.LexerOrder.{lexer_in_order}
use Rattle.starlark_module.proofs.Parsed.{comments_parsed, suppressions_parsed}
use Rattle.starlark_module.proofs.FileAnswers.{parsed, refused, found}
use Rattle.starlark_module.proofs.module.AstModule.parse.Goals as goal

pub from_lexemes-requires-clause-ordered : goal.from_lexemes-requires-clause-ordered
from_lexemes-requires-clause-ordered c = lexer_in_order _

pub returns-clause-parsed : goal.returns-clause-parsed
returns-clause-parsed c =
    let text = ap (λ (f : File). f.text) (c.in_ok-file.ensures ∙ c.in_ok-codemap.ensures) in
    let begun = c.new-lexer.ensures.start ∙ ap start (c.source.ensures.text ∙ text) in
    parsed _ _ _ _ _ _ c.from_lexemes.ensures.answers.says (answers_text _ _ (string_bytes c.args.content) _ _ begun c.from_lexemes.ensures.answers.from)

pub returns-clause-comments : goal.returns-clause-comments
returns-clause-comments c =
    let text = ap (λ (f : File). f.text) (c.in_ok-file.ensures ∙ c.in_ok-codemap.ensures) in
    comments_parsed c.args.dialect.now c.new-lexer.result _ c.in_ok-codemap.codemap (string_bytes c.args.content)
    (ap (λ (f : File). f.text) c.in_ok-codemap.ensures)
    (c.new-lexer.ensures.start ∙ ap start (c.source.ensures.text ∙ text)) c.from_lexemes.result c.from_lexemes.ensures.answers

pub returns-clause-suppressions : goal.returns-clause-suppressions
returns-clause-suppressions c =
    let text = ap (λ (f : File). f.text) (c.in_ok-file.ensures ∙ c.in_ok-codemap.ensures) in
    suppressions_parsed c.args.dialect.now c.new-lexer.result _ c.in_ok-codemap.codemap (string_bytes c.args.content)
    (ap (λ (f : File). f.text) c.in_ok-codemap.ensures)
    (c.new-lexer.ensures.start ∙ ap start (c.source.ensures.text ∙ text)) c.from_lexemes.result c.from_lexemes.ensures.answers

pub returns-clause-refused : goal.returns-clause-refused
returns-clause-refused c small =
    let text = ap (λ (f : File). f.text) (c.in_ok-file.ensures ∙ c.in_ok-codemap.ensures) in
    let begun = c.new-lexer.ensures.start ∙ ap start (c.source.ensures.text ∙ text) in
    rw c.in_ok-codemap.ensures at (refused _ _ _ _ _ _ c.from_lexemes.ensures.answers.says
    (answers_text _ _ (string_bytes c.args.content) _ _ begun c.from_lexemes.ensures.answers.from))

pub returns-clause-found : goal.returns-clause-found
returns-clause-found c small =
    let text = ap (λ (f : File). f.text) (c.in_ok-file.ensures ∙ c.in_ok-codemap.ensures) in
    let begun = c.new-lexer.ensures.start ∙ ap start (c.source.ensures.text ∙ text) in
    found _ _ _ _ _ _ c.from_lexemes.ensures.answers.says (answers_text _ _ (string_bytes c.args.content) _ _ begun c.from_lexemes.ensures.answers.from)
