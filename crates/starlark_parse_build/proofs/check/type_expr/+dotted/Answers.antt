use Rattle.std.proofs.Common.{ap}
use Rattle.starlark_lexer.specs.Tokens.{span_of}
use Rattle.starlark_spec.specs.Machine.Faults.{fault_of}
use Rattle.starlark_parse_build.proofs.CheckLemmas.FaultLemmas.{finds_same}
use Rattle.starlark_parse_build.proofs.CheckLemmas.TypeForms.{none_dotted, longer_fault}
use Rattle.starlark_parse_build.proofs.CheckLemmas.PathLemmas.{alone_dotted}
use Rattle.starlark_parse_build.proofs.check.type_expr.+dotted.Goals as goal

pub returns-in-Identifier : goal.returns-in-Identifier
returns-in-Identifier t c = alone_dotted (span_of c.args.x.now.span) c.args.x.now.node _ c.in-Identifier.is

pub returns-in-Dot : goal.returns-in-Dot
returns-in-Dot t c = finds_same _ _ _ (longer_fault (span_of c.args.x.now.span) c.args.x.now.node _ _ _ c.in-Dot.is c.deref.ensures) c.dotted.ensures

pub returns-in_default : goal.returns-in_default
returns-in_default t c = ap fault_of (none_dotted (span_of c.args.x.now.span) c.args.x.now.node c.in_default.not-Dot c.in_default.not-Identifier)
