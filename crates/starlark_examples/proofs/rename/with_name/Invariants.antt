use Rattle.std.proofs.Common.{◌≡◌, ◌++◌, drop, map, string_bytes}
use Rattle.starlark_syntax.specs.lexer.Tokens.{span_of}
use Rattle.starlark_examples.specs.Rename.{are_apart, with_name}
use Rattle.starlark_examples.proofs.rename.with_name.Given as goal

-- what is left is in order and apart if all is, and the text that is written and what is left to write are the whole
abbrev pub invariant-loop-span : goal.invariant-loop-span
invariant-loop-span l =
    (are_apart l.done (map span_of (drop l.span-index l.spans)) → are_apart 0 (map span_of l.spans))
    × (string_bytes l.out ++ with_name l.text l.name l.done (map span_of (drop l.span-index l.spans)) ≡ with_name l.text l.name 0 (map span_of l.spans))
