use Rattle.std.proofs.Common.{ap}
use Rattle.starlark_lexer.specs.Places.{Place}
use Rattle.starlark_diagnostics.proofs.emit.snippet.first_line.Goals as goal

pub returns-clause-line : goal.returns-clause-line
returns-clause-line c = ap (λ (p : Place). p.line) c.resolve_span-ends.ensures.begin
