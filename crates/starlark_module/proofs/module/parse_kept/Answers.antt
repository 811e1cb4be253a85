use Rattle.starlark_module.proofs.CommentsLemmas.Passed.{keeper_in_order, taken}
use Rattle.starlark_parse.specs.Stmt.Runs.{answer_of}
use Rattle.starlark_module.proofs.KeeperAnswers.{through}
use Rattle.starlark_module.proofs.module.parse_kept.Goals as goal

pub parse_module-requires-clause-ordered : goal.parse_module-requires-clause-ordered
parse_module-requires-clause-ordered g c = keeper_in_order g.I.Iterator.next_gives c.args.keeper.now 0 c.requires.ordered

pub returns-clause-same_reference : goal.returns-clause-same_reference
returns-clause-same_reference g c =
    let a = c.parse_module.ensures in
    (taken g.I.Iterator.next_gives c.args.keeper.now c.parse_module.new.lexemes a.calls a.last a.run a.no_error c.requires.fresh).same_keeper.same_reference

pub returns-clause-codemap : goal.returns-clause-codemap
returns-clause-codemap g c =
    let a = c.parse_module.ensures in
    (taken g.I.Iterator.next_gives c.args.keeper.now c.parse_module.new.lexemes a.calls a.last a.run a.no_error c.requires.fresh).same_keeper.codemap

pub returns-clause-answers : goal.returns-clause-answers
returns-clause-answers g c = through g.I.Iterator.next_gives c.args.types c.args.keeper.now c.parse_module.new.lexemes (answer_of c.parse_module.result)
    c.parse_module.ensures c.requires.fresh c.requires.none_kept
