use Rattle.std.proofs.Common.{rules, refl, ap, ◌∙◌}
use Rattle.starlark_spec.specs.Refusals.{refused}
use Rattle.starlark_module.proofs.Found.{refuses, tested_so, told}
use Rattle.starlark_module.proofs.Nested.{nested}
use Rattle.starlark_module.proofs.module.AstModule.from_lexemes.Goals as goal

pub returns-in-Ok-clause-answers : goal.returns-in-Ok-clause-answers
returns-in-Ok-clause-answers g c =
    tested_so g.I.Iterator.next_gives c.args.dialect.now c.args.lexemes.now _ c.args.codemap c.new-keeper.result c.parse_kept-statement.new.keeper
    c.new-keeper.ensures.lexemes (search rules) c.tested.result _ c.tested.ensures.same
    c.in-Ok.ensures.answers c.tested.ensures.tested refl (ap (λ f. f.now) c.in-Ok.ensures.codemap ∙ c.new-keeper.ensures.codemap) refl c.build.ensures

pub returns-in-Ok-clause-nested : goal.returns-in-Ok-clause-nested
returns-in-Ok-clause-nested g c = nested g.I.Iterator.next_gives c.args.dialect.now c.args.lexemes.now _ c.requires.ordered c.args.codemap _
    (returns-in-Ok-clause-answers g c)

pub returns-in_ok-from_refusal-in-Err-clause-answers : goal.returns-in_ok-from_refusal-in-Err-clause-answers
returns-in_ok-from_refusal-in-Err-clause-answers g c =
    refuses g.I.Iterator.next_gives c.args.dialect.now c.args.lexemes.now _ c.args.codemap c.new-keeper.result c.parse_kept-statement.new.keeper
    c.new-keeper.ensures.lexemes (search rules) (refused c.in-Err.refusal) _ c.in-Err.ensures.answers c.in_ok-from_refusal-in-Err.ensures

pub returns-in-Ok-clause-dialect : goal.returns-in-Ok-clause-dialect
returns-in-Ok-clause-dialect g c = told (λ m. m.dialect) c.tested.result _ c.tested.ensures.same
