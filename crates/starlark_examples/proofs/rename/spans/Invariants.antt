use Rattle.std.proofs.Common.{◌≡◌, ◌++◌, map, take}
use Rattle.std.specs.List.{flat_map}
use Rattle.starlark_syntax.specs.lexer.Tokens.{span_of}
use Rattle.starlark_syntax.specs.tree.Views.{statement_of}
use Rattle.starlark_examples.specs.Rename.{definition}
use Rattle.starlark_examples.proofs.rename.spans.Given as goal

abbrev pub invariant-loop-statement : goal.invariant-loop-statement
invariant-loop-statement l =
    map span_of l.spans.items ≡ map span_of l.initial.spans.items ++ flat_map (λ s. definition l.name (statement_of s.now))
    (take l.statement-index l.statement-items)
