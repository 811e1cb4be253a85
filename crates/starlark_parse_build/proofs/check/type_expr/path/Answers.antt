use Rattle.std.proofs.Common.{sym}
use Rattle.starlark_lexer.specs.Tokens.{span_of}
use Rattle.starlark_parse_build.proofs.CheckLemmas.FaultLemmas.{finds_same}
use Rattle.starlark_parse_build.proofs.CheckLemmas.TypeForms.{no_path}
use Rattle.starlark_parse_build.proofs.CheckLemmas.PathLemmas.{alone_path, path_member}
use Rattle.starlark_parse_build.proofs.check.type_expr.path.Goals as goal

pub returns-in-Identifier : goal.returns-in-Identifier
returns-in-Identifier c = alone_path (span_of c.args.x.now.span) c.args.x.now.node _ c.in-Identifier.is

pub returns-in-Dot : goal.returns-in-Dot
returns-in-Dot c = finds_same _ _ _ (path_member (span_of c.args.x.now.span) c.args.x.now.node _ _ _ c.in-Dot.is c.deref.ensures) c.member.ensures

pub returns-in_default : goal.returns-in_default
returns-in_default c = sym (no_path (span_of c.args.x.now.span) c.args.x.now.node c.in_default.not-Dot c.in_default.not-Identifier)
