use Rattle.std.proofs.Common.{◌≡◌, string_bytes, take}
use Rattle.std.specs.List.{flat_map}
use Rattle.starlark_cli.specs.Tool.Lists.{load_line}
use Rattle.starlark_passes.specs.Outline.Listed.{listed}
use Rattle.starlark_cli.proofs.tool.listing.loads_text.Given as goal

abbrev pub invariant-loop-load : goal.invariant-loop-load
invariant-loop-load l = string_bytes l.text ≡ flat_map (λ x. load_line x.span.file (listed x).1) (take l.load-index l.load-items)
