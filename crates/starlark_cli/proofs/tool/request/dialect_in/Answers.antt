use Rattle.std.specs.Prelude.{codes}
use Rattle.clap.specs.Words.{found_of, rows_of}
use Rattle.starlark_cli.proofs.ToolLemmas.Found.{value_has}
use Rattle.starlark_cli.specs.Tool.Words.{NamesDialect}
use Rattle.starlark_cli.proofs.tool.request.dialect_in.Goals as goal

pub returns-in-Some-clause-none : goal.returns-in-Some-clause-none
returns-in-Some-clause-none c none d h =
    let rows = rows_of (found_of c.args.given.now) in
    c.dialect_named.ensures.none none d (value_has (codes "dialect") rows c.in-Some.name.now (λ word. NamesDialect word d) c.in-Some.ensures h)
