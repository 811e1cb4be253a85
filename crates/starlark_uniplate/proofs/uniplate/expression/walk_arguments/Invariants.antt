use Rattle.starlark_tree.specs.Parts.{argument_expression}
use Rattle.starlark_tree.specs.Views.{expression_of}
use Rattle.starlark_uniplate.proofs.Calls.{CameTo}
use Rattle.starlark_uniplate.proofs.uniplate.expression.walk_arguments.Given as goal

abbrev pub invariant-loop-argument : goal.invariant-loop-argument
invariant-loop-argument g l = CameTo g.G.AtExpr.calls (λ a. expression_of (argument_expression a.node)) l.argument-index l.fn.state l.arguments l.state
