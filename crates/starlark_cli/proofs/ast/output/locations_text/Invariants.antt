use Rattle.std.proofs.Common.{◌≡◌, string_bytes, take}
use Rattle.std.specs.List.{flat_map}
use Rattle.starlark_cli.specs.Ast.Output.{location_line}
use Rattle.starlark_lexer.specs.Tokens.{span_of}
use Rattle.starlark_cli.proofs.ast.output.locations_text.Given as goal

abbrev pub invariant-loop-location : goal.invariant-loop-location
invariant-loop-location l = string_bytes l.text ≡ flat_map (λ s. location_line s.file.text (span_of s.span)) (take l.location-index l.location-items)
