use Rattle.std.proofs.Common.{◌≡◌, map, take}
use Rattle.starlark_lexer.specs.Tokens.{span_of}
use Rattle.starlark_tree.specs.Signatures.{merge_all}
use Rattle.starlark_tree.proofs.ast.signature.merge_parameters.Given as goal

abbrev pub invariant-loop-param : goal.invariant-loop-param
invariant-loop-param g l = span_of l.merged ≡ merge_all (span_of l.initial.merged) (map (λ p. span_of p.span) (take l.param-index l.params))
