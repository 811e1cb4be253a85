use Rattle.std.proofs.Common.{sym, ◌∙◌}
use Rattle.starlark_lexer.specs.Lexer.{state_of}
use Rattle.starlark_source.proofs.ReadingLemmas.{too_long, nothing_read, something_read}
use Rattle.starlark_source.proofs.reading.read_alone.Goals as goal

pub returns-in-Some : goal.returns-in-Some
returns-in-Some c =
    something_read c.args.text.now (state_of c.new-lexer.result) (state_of c.next.new.self) c.in-Some.lexeme c.judged.result
    (sym c.is_short.ensures.test ∙ c.if-is_short.true) c.new-lexer.ensures.start c.in-Some.ensures.steps.0 c.judged.ensures

pub returns-then-is_short : goal.returns-then-is_short
returns-then-is_short c =
    nothing_read c.args.text.now (state_of c.new-lexer.result) (sym c.is_short.ensures.test ∙ c.if-is_short.true) c.new-lexer.ensures.start
    c.in-None.ensures.steps.0.0

pub returns : goal.returns
returns c = too_long c.args.text.now (sym c.is_short.ensures.test ∙ c.if-is_short.false)
