use Rattle.std.proofs.Common.{◌≡◌, string_bytes, take}
use Rattle.std.specs.List.{flat_map}
use Rattle.starlark_cli.specs.Ast.Output.{comment_line}
use Rattle.starlark_lexer.specs.Tokens.{span_of}
use Rattle.starlark_cli.proofs.ast.output.comments_text.Given as goal

abbrev pub invariant-loop-span : goal.invariant-loop-span
invariant-loop-span l = string_bytes l.text ≡ flat_map (λ s. comment_line l.fn.ast.codemap.text (span_of s)) (take l.span-index l.span-items)
