use Rattle.std.proofs.Common.{◌≡◌, ◌<◌, ◌+◌, ◌-◌, ◌++◌, ◌∷◌, [], length, get_or, take, drop, string_bytes, refl, ap, ◌∙◌, arith}
use Rattle.std.proofs.lemmas.Grind.{common_steps}
use Rattle.std.proofs.lemmas.Str.{IsCharBoundary-start, IsCharBoundary-before_ascii, IsCharBoundary-after_ascii}
use Rattle.starlark_spec.specs.Trees.{doubled_byte}
use Rattle.starlark_parse_build.proofs.Doubled.{once, twice}
use Rattle.starlark_parse_build.proofs.format.push_doubled.Goals as goal
use Rattle.starlark_parse_build.proofs.format.push_doubled.Goals.{then-is_brace+in_ok-push_str, else-is_brace}

pub loop-at-init : goal.loop-at-init
loop-at-init c = (omega arith, IsCharBoundary-start c.args.text.now c.utf8.text, refl)

pub range-requires-clause-end_boundary : goal.range-requires-clause-end_boundary
range-requires-clause-end_boundary c =
    let s = c.args.text.now in
    let within : c.loop-at.at < length s = omega (arith, c.as_bytes-bytes.ensures.len) in
    let ascii : get_or s c.loop-at.at 0 < 128 = grind (arith, common_steps) in
    IsCharBoundary-after_ascii s c.loop-at.at c.utf8.text within ascii

pub loop-at-preserved : goal.loop-at-preserved
loop-at-preserved c =
    let l = c.loop-at in
    let s = c.args.text.now in
    let (low, bound, whole) = l.invariant in
    let within : l.at < length s = omega (arith, c.as_bytes-bytes.ensures.len) in
    elim c.if-is_brace.branch [
      | then-is_brace+in_ok-push_str w ↦
          let ascii : get_or s l.at 0 < 128 = grind (arith, common_steps) in
          let two : doubled_byte (get_or s l.at 0) ≡ get_or s l.at 0 ∷ get_or s l.at 0 ∷ [] = grind (arith, common_steps) in
          let run : w.range.result.now ≡ take ((l.at + 1) - l.start) (drop l.start s) = grind (arith, common_steps) in
          rw (w.start-is, w.format-is) (
            omega arith,
            IsCharBoundary-before_ascii s l.at within ascii,
            ap (λ x. x ++ take ((l.at + 1) - l.at) (drop l.at s)) (w.in_ok-push_str.ensures.bytes ∙ ap (λ x. string_bytes l.format ++ x) run)
                ∙ twice doubled_byte _ (string_bytes l.format) s l.start l.at low within whole two,
          )
      | else-is_brace w ↦
          let one : doubled_byte (get_or s l.at 0) ≡ get_or s l.at 0 ∷ [] = grind (arith, common_steps) in
          rw (w.start-is, w.format-is) (omega arith, bound, once doubled_byte _ (string_bytes l.format) s l.start l.at low within whole one)
    ]
