use Rattle.std.proofs.Common.{ap}
use Rattle.starlark_lexer.specs.declared.span.Pos.{Pos}
use Rattle.starlark_tree.specs.Views.{argument_seen}
use Rattle.starlark_parse_held.proofs.Spans.{same_spans}
use Rattle.starlark_parse_held.proofs.argument.passed.Goals as goal

pub returns : goal.returns
returns c = ap (λ s. argument_seen s c.args.node) (same_spans (ap (λ (p : Pos). p.byte) c.new.ensures.begin) (ap (λ (p : Pos). p.byte) c.new.ensures.end))
