use Rattle.starlark_tree.specs.Views.{statement_of}
use Rattle.starlark_source.specs.Lines.{module_source}
use Rattle.starlark_source.proofs.RoundTrip.Derivations.{read_if_ok}
use Rattle.starlark_source.proofs.RoundTrip.Laws.{parses_back, only_memory}
use Rattle.starlark_source.proofs.PageResults.{finished, refused_as}
use Rattle.starlark_source.proofs.source.to_source.Goals as goal

pub returns-clause-source : goal.returns-clause-source
returns-clause-source c =
    finished c.new-page.result c.write_module.new.page
    (module_source (statement_of c.args.statement.now)) c.finish.result c.new-page.ensures c.write_module.ensures
    c.finish.ensures.ok

pub returns-clause-reads_back : goal.returns-clause-reads_back
returns-clause-reads_back c = read_if_ok (statement_of c.args.statement.now) c.finish.result (returns-clause-source c)

pub returns-clause-not_source : goal.returns-clause-not_source
returns-clause-not_source c =
    refused_as c.new-page.result c.write_module.new.page
    (module_source (statement_of c.args.statement.now)) c.finish.result c.new-page.ensures c.write_module.ensures
    c.finish.ensures.err

pub returns-clause-parses : goal.returns-clause-parses
returns-clause-parses c = parses_back (statement_of c.args.statement.now) c.finish.result (returns-clause-source c)

pub returns-clause-has_source : goal.returns-clause-has_source
returns-clause-has_source c = only_memory (statement_of c.args.statement.now) c.finish.result (returns-clause-not_source c)
