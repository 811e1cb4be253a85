use Rattle.std.proofs.Common.{◌≡◌, ◌+◌, ◌-◌, ◌*◌, ◌/◌, ◌≤◌, take, drop, sym, ap, ◌∙◌, arith, get_or}
use Rattle.starlark_lexer.specs.Places.{char_rests}
use Rattle.starlark_lexer.proofs.Columns.{rests-add, past-get}
use Rattle.starlark_lexer.proofs.codemap.char_rests_before.Goals as goal
use Rattle.starlark_lexer.proofs.codemap.char_rests_before.Goals.{then-block-rests, else-block-rests}

pub returns : goal.returns
returns c =
    let block = c.args.at / 64 in
    let below : block * 64 ≤ c.args.at = omega arith in
    let entry : c.if-block-rests.before ≡ get_or c.args.rests.now block 0 = elim c.if-block-rests.branch [
      | then-block-rests w ↦ w.before-is
      | else-block-rests w ↦ w.before-is ∙ sym (past-get c.args.rests.now block w.if-block-rests.false)
    ] in
    let counted = c.requires.counted block (let w = c.requires.within in omega arith) in
    let whole : block * 64 + (c.args.at - block * 64) ≡ c.args.at = omega arith in
    rw (c.char_rests.ensures.rests) (ap (λ n. n + char_rests (take (c.args.at - block * 64) (drop (block * 64) c.args.text.now))) (entry ∙ counted)
    ∙ sym (rests-add (block * 64) (c.args.at - block * 64) c.args.text.now) ∙ ap (λ n. char_rests (take n c.args.text.now)) whole)
