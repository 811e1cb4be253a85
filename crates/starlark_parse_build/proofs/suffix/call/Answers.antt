use Rattle.starlark_parse_build.proofs.Rows.{call_seen}
use Rattle.starlark_parse_build.proofs.suffix.call.Goals as goal

pub returns : goal.returns
returns c = call_seen c.args.operand c.into_trees-args.result c.args.arguments.trees.items c.into_trees-args.ensures
