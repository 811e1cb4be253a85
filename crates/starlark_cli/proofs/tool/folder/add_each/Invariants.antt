use Rattle.starlark_lexer.specs.Tokens.{Text}
use Rattle.starlark_cli.specs.Tool.Folders.{IsPrefixBelow, KeepsBelow}
use Rattle.starlark_cli.proofs.tool.folder.add_each.Given as goal

abbrev pub invariant-loop-child : goal.invariant-loop-child
invariant-loop-child l = (top : Text) → IsPrefixBelow top l.fn.prefix → KeepsBelow top l.initial.later.items l.later.items
