use Rattle.std.proofs.Common.{drop}
use Rattle.starlark_module.specs.LexemeLists.{AreInText}
use Rattle.starlark_module.proofs.module.lexeme_list.are_in_text.Given as goal

-- the whole list is in the text if what is left of it is
abbrev pub invariant-loop-lexeme : goal.invariant-loop-lexeme
invariant-loop-lexeme l = (AreInText l.text l.from (drop l.lexeme-index l.lexeme-items) → AreInText l.text 0 l.lexeme-items)
    × (AreInText l.text 0 l.lexeme-items → AreInText l.text l.from (drop l.lexeme-index l.lexeme-items))
