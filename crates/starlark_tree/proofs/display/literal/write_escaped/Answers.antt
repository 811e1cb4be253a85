use Rattle.std.proofs.Common.{◌≡◌, ◌<◌, ◌+◌, [], ◌∷◌, ◌++◌, length, get_or, take, drop, sym, ap, ◌∙◌, rules, arith}
use Rattle.std.specs.List.{prefix_len}
use Rattle.std.proofs.lemmas.Grind.{common_steps}
use Rattle.std.proofs.lemmas.Str.{IsCharBoundary-after_ascii}
use Rattle.std.proofs.Output.{has_written_append, has_written_of_eq}
use Rattle.starlark_tree.specs.Literals.{escaped}
use Rattle.starlark_tree.specs.Escapes.{is_plain}
use Rattle.starlark_tree.proofs.Escapes.{all_kept, piece_kept, run_ends_at_escape}
use Rattle.starlark_tree.proofs.display.literal.write_escaped.Goals as goal

pub returns-then-plain-rest : goal.returns-then-plain-rest
returns-then-plain-rest g c plain ok =
    let (done, whole, wrote) = c.pieces.invariant.1 in
    let s = c.pieces.rest.now in
    let n = c.plain_len-plain.result in
    let run : n ≡ prefix_len is_plain s = cc in
    let all : n ≡ length s = omega (arith, c.as_bytes.ensures.len) in
    let sofar = wrote plain in
    has_written_of_eq _ _ _ _ _ (ap (λ t. done ++ t) (sym (all_kept s n run all)) ∙ sym whole)
    (has_written_append _ _ _ _ _ _ sofar (c.write_str.ensures.writes sofar.plain ok))

pub range_from-rest-requires : goal.range_from-rest-requires
range_from-rest-requires g c some =
    let s = c.pieces.rest.now in
    let n = c.plain_len-plain.result in
    let within : n < length s = omega (arith, c.as_bytes.ensures.len, c.plain_len-plain.ensures.within) in
    let ascii : get_or s n 0 < 128 = grind (arith, common_steps) in
    IsCharBoundary-after_ascii s n c.pieces.invariant.0 within ascii

pub pieces-preserved-in-Some : goal.pieces-preserved-in-Some
pieces-preserved-in-Some g c =
    let (done, whole, wrote) = c.pieces.invariant.1 in
    let s = c.pieces.rest.now in
    let n = c.plain_len-plain.result in
    let run : n ≡ prefix_len is_plain s = cc in
    let within : n < length s = omega (arith, c.as_bytes.ensures.len, c.plain_len-plain.ensures.within) in
    let front : c.range.result.now ≡ take n s = grind (arith, common_steps) in
    let text : c.in-Some.text.now ≡ escaped (get_or s n 0) = grind (arith, common_steps) in
    let left : c.range_from-rest.result.now ≡ drop (n + 1) s = grind (arith, common_steps) in
    let next = piece_kept _ done s n run within whole in (
      search rules,
      (
        (done ++ c.range.result.now) ++ c.in-Some.text.now,
        rw (front, text, left) next,
        λ plain.
            let sofar = wrote plain in
            let one = c.write_str-in-Some.ensures.writes sofar.plain (search rules) in
            let two = c.write_str-in-Some-2.ensures.writes one.plain (search rules) in
            has_written_append _ _ _ _ _ _ (has_written_append _ _ _ _ _ _ sofar one) two,
      ),
    )

pub pieces-smaller : goal.pieces-smaller
pieces-smaller g c =
    let s = c.pieces.rest.now in
    let n = c.plain_len-plain.result in
    let run : n ≡ prefix_len is_plain s = cc in
    let within : n < length s = omega (arith, c.as_bytes.ensures.len, c.plain_len-plain.ensures.within) in
    let kept : escaped (get_or s n 0) ≡ get_or s n 0 ∷ [] = grind (arith, common_steps) in
    absurd (run_ends_at_escape s n run within kept)
