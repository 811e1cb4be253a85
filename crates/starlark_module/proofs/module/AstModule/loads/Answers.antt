use Rattle.starlark_passes.specs.Outline.Listed.{listed}
use Rattle.starlark_passes.specs.Outline.Outline.{loads}
use Rattle.starlark_tree.specs.Views.{statement_of}
use Rattle.starlark_module.proofs.NoLoads.{none_listed, valid_without_loads}
use Rattle.starlark_module.proofs.module.AstModule.loads.Goals as goal

pub returns-clause-none : goal.returns-clause-none
returns-clause-none c = λ items valid off.
    let m = c.args.self.now in
    none_listed c.loads.result (λ found. found.items) listed m.codemap (loads (statement_of m.statement)) c.loads.ensures
    (valid_without_loads m.dialect items (statement_of m.statement) valid off)
