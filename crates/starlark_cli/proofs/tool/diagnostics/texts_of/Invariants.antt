use Rattle.std.proofs.Common.{◌≡◌, map, string_bytes, take}
use Rattle.starlark_diagnostics.specs.Emit.{diagnostic_text, separator}
use Rattle.starlark_diagnostics.specs.Ends.{file_of}
use Rattle.starlark_diagnostics.specs.DiagnosticViews.{seen}
use Rattle.starlark_cli.proofs.ToolLemmas.Reporting.{follows_after}
use Rattle.starlark_cli.specs.Tool.Writing.{in_turn}
use Rattle.starlark_cli.proofs.tool.diagnostics.texts_of.Given as goal

abbrev pub invariant-loop-diagnostic : goal.invariant-loop-diagnostic
invariant-loop-diagnostic l =
    let texts = map (λ d. diagnostic_text l.fn.format l.fn.path (file_of l.fn.codemap) (seen d)) (take l.diagnostic-index l.fn.diagnostics) in
    (string_bytes l.texts ≡ in_turn (separator l.fn.format) l.fn.follows texts) × (l.follows ≡ follows_after l.fn.follows texts)
