use Rattle.std.proofs.Common.{flat_map, sym, ap, ◌∙◌, map-id}
use Rattle.std.proofs.lemmas.Iterator.{YieldsList-from_chars}
use Rattle.std.proofs.lemmas.Iterator.Consumers.{YieldsList-end}
use Rattle.starlark_diagnostics.specs.Written.{written_char}
use Rattle.starlark_diagnostics.proofs.emit.written.written.Goals as goal

pub returns : goal.returns
returns c =
    let from = YieldsList-from_chars c.args.text.now c.utf8.text cc in
    let end = YieldsList-end from c.loop-c.yielded _ c.loop-c.yielded_by _ _ c.in-None.is c.next.ensures.steps in
    c.loop-c.invariant ∙ ap (flat_map (written_char c.args.style)) (sym (map-id c.loop-c.yielded) ∙ end.0)
