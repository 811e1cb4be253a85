use Rattle.std.proofs.Common.{◌≡◌, ◌+◌, ◌==◌, ◌&&◌, true, get_or, sym, ◌∙◌}
use Rattle.starlark_source.proofs.FormatLemmas.{ends_fits, hole_fits, repr_fits}
use Rattle.starlark_source.proofs.format.mark_at.Goals as goal

pub returns-then-second-eq125-clause-fits : goal.returns-then-second-eq125-clause-fits
returns-then-second-eq125-clause-fits c =
    let f = c.args.format.now in
    let first : get_or f c.args.at 0 ≡ 123 = rw c.as_bytes-bytes.ensures.value at (sym c.byte_at-first.ensures ∙ c.if-first-eq123.true) in
    let second : get_or f (c.args.at + 1) 0 ≡ 125 = rw c.as_bytes-bytes.ensures.value at (sym c.byte_at-second.ensures ∙ c.if-second-eq125.true) in
    hole_fits f c.args.at c.utf8.format first second

pub returns-then-ends_place-clause-fits : goal.returns-then-ends_place-clause-fits
returns-then-ends_place-clause-fits c =
    let f = c.args.format.now in
    let first : get_or f c.args.at 0 ≡ 123 = rw c.as_bytes-bytes.ensures.value at (sym c.byte_at-first.ensures ∙ c.if-first-eq123.true) in
    let ends : (get_or f (c.args.at + 2) 0 == 114 && get_or f ((c.args.at + 2) + 1) 0 == 125) ≡ true =
    rw c.as_bytes-bytes.ensures.value at (sym c.ends_place.ensures ∙ c.if-ends_place.true) in
    repr_fits f c.args.at c.utf8.format first (ends_fits f c.args.at ends)
