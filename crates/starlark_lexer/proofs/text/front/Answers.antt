use Rattle.starlark_lexer.proofs.ByteRuns.{IsCharBoundary-run}
use Rattle.starlark_lexer.proofs.text.front.Goals as goal

pub range-requires-clause-end_boundary : goal.range-requires-clause-end_boundary
range-requires-clause-end_boundary c = IsCharBoundary-run c.args.class c.args.text.now c.args.n c.utf8.text c.requires.ascii c.requires.run
