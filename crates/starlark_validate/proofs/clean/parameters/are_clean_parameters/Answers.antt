use Rattle.std.proofs.Common.{arith, map}
use Rattle.std.proofs.lemmas.List.{length-map}
use Rattle.starlark_tree.specs.Views.{parameter_of}
use Rattle.starlark_validate.proofs.EntryClashes.{plain_clean}
use Rattle.starlark_validate.proofs.clean.parameters.are_clean_parameters.Goals as goal

pub returns-then-are_plain : goal.returns-then-are_plain
returns-then-are_plain c = λ _.
    plain_clean c.args.tests.now.dialect (map parameter_of c.args.params.now)
    (omega (arith, c.if-params-le-FEW.true, length-map c.args.params.now parameter_of))
    (c.are_plain.ensures.plain c.if-are_plain.true) (c.are_plain.ensures.fits c.if-are_plain.true)
