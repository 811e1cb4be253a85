use Rattle.std.proofs.Common.{rules}
use Rattle.starlark_module.specs.LexemeLists.{AreInText}
use Rattle.starlark_module.proofs.LexemeListLaws.{list_in_order}
use Rattle.starlark_module.proofs.module.lexeme_list.LexemeList.new.Goals as goal

pub returns-then-are_in_text-clause-ordered : goal.returns-then-are_in_text-clause-ordered
returns-then-are_in_text-clause-ordered c =
    let all : AreInText c.args.codemap.now.text 0 c.args.list.items = search rules in
    list_in_order c.args.codemap.now.text (rw (c.source.ensures.text) at c.source.ensures.small) _ (rw (c.into_iter.ensures.rest) all)
