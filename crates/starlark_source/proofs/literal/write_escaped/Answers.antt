use Rattle.std.proofs.Common.{◌≡◌, ◌<◌, ◌≤◌, ◌+◌, ◌-◌, ℕ, List, [], ◌∷◌, ◌++◌, length, get_or, take, drop, length-drop, refl, sym, ap, ◌∙◌, arith}
use Rattle.std.specs.List.{flat_map}
use Rattle.std.proofs.lemmas.Grind.{common_steps}
use Rattle.std.proofs.lemmas.List.{take_all}
use Rattle.std.proofs.lemmas.Str.{IsCharBoundary-start, IsCharBoundary-after_ascii}
use Rattle.starlark_tree.proofs.Runs.{keep_byte, mapped_more, nothing_more}
use Rattle.starlark_source.specs.Pages.{say}
use Rattle.starlark_source.specs.Pieces.{escaped}
use Rattle.starlark_source.proofs.PageLemmas.{wrote_as, wrote_nothing, wrote_texts}
use Rattle.starlark_source.proofs.literal.write_escaped.Goals as goal
use Rattle.starlark_source.proofs.literal.write_escaped.Goals.{in-Some, in-None}

pub loop-at-init : goal.loop-at-init
loop-at-init c = (omega arith, IsCharBoundary-start c.args.text.now c.utf8.text, refl, wrote_nothing _)

pub loop-at-preserved : goal.loop-at-preserved
loop-at-preserved c =
    let l = c.loop-at in
    let s = c.args.text.now in
    let (low, bound, whole, wrote) = l.invariant in
    let within : l.at < length s = omega (arith, c.as_bytes-bytes.ensures.len) in
    elim c.match-escape_of.branch [
      | in-Some w ↦
          let same : w.in-Some.escape.now ≡ escaped (get_or s l.at 0) = grind (arith, common_steps) in
          let ascii : get_or s l.at 0 < 128 = grind (arith, common_steps) in
          let next : flat_map escaped (take (l.at + 1) s) ≡ (flat_map escaped (take l.start s) ++ take (l.at - l.start) (drop l.start s))
          ++ w.in-Some.escape.now =
          mapped_more escaped s l.at within ∙ ap (λ t. t ++ escaped (get_or s l.at 0)) whole
          ∙ ap (λ t. (flat_map escaped (take l.start s) ++ take (l.at - l.start) (drop l.start s)) ++ t) (sym same) in
          rw (w.start-is, w.page-is) (
            omega arith,
            IsCharBoundary-after_ascii s l.at c.utf8.text within ascii,
            nothing_more (flat_map escaped (take (l.at + 1) s)) (l.at + 1) (drop (l.at + 1) s),
            let run : w.range.result.now ≡ take (l.at - l.start) (drop l.start s) = grind (arith, common_steps) in
                wrote_texts _ _ _ _ _ _ (wrote_texts _ _ _ _ _ _ wrote (wrote_as _ _ _ _ w.put.ensures (ap say run)) refl) w.put-in-Some.ensures (sym next),
          )
      | in-None w ↦
          let same : escaped (get_or s l.at 0) ≡ get_or s l.at 0 ∷ [] = grind (arith, common_steps) in
          rw (w.start-is, w.page-is) (omega arith, bound, keep_byte escaped s l.start l.at low within same whole, wrote)
    ]

run_ends : (s : List ℕ) (start at : ℕ) → start ≤ at → length s ≤ at → flat_map escaped (take at s) ≡ flat_map escaped (take start s)
    ++ take (at - start) (drop start s)
    → flat_map escaped (take start s) ++ drop start s ≡ flat_map escaped s
run_ends s start at low end whole =
    sym (ap (flat_map escaped) (sym (take_all at s end)) ∙ whole ∙ ap (λ l. flat_map escaped (take start s) ++ l)
    (take_all (at - start) (drop start s) (rw length-drop (omega arith))))

pub returns : goal.returns
returns c =
    let (low, bound, whole, wrote) = c.loop-at.invariant in
    wrote_texts _ _ _ _ _ _ wrote (wrote_as _ _ _ _ c.put-2.ensures (ap say c.range_from.ensures.value))
    (run_ends c.args.text.now c.loop-at.start c.loop-at.at low (omega (arith, c.as_bytes-bytes.ensures.len)) whole)
