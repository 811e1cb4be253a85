use Rattle.std.proofs.Common.{ap, ◌∙◌}
use Rattle.starlark_lexer.specs.Places.{Place, place_of}
use Rattle.starlark_diagnostics.proofs.emit.snippet.last_line.Goals as goal

pub returns : goal.returns
returns c =
    ap (λ (p : Place). p.line) c.resolve_span-ends.ensures.end ∙ ap (λ at. (place_of c.args.file.now.text at).line) c.to_last_byte.ensures.end
