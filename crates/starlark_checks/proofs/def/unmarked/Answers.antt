use Rattle.std.proofs.Common.{ap, sym}
use Rattle.starlark_lexer.specs.Tokens.{span_of}
use Rattle.starlark_tree.specs.Views.{parameter_seen}
use Rattle.starlark_checks.specs.Parameters.{unmarked}
use Rattle.starlark_checks.proofs.def.unmarked.Goals as goal

pub returns-in-NoArgs : goal.returns-in-NoArgs
returns-in-NoArgs g c = sym (ap (λ n. unmarked c.args.mode (parameter_seen (span_of c.args.param.now.span) n)) c.in-NoArgs.is)

pub returns-in-Slash : goal.returns-in-Slash
returns-in-Slash g c = sym (ap (λ n. unmarked c.args.mode (parameter_seen (span_of c.args.param.now.span) n)) c.in-Slash.is)
