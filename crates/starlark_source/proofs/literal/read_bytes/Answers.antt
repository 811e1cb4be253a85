use Rattle.std.proofs.Common.{◌≡◌, ◌<◌, true, nat_lt, length, get_or, take, refl, sym, ap, ◌∙◌, arith}
use Rattle.std.specs.List.{list_all}
use Rattle.std.proofs.lemmas.Bool.{and_from, lt-ltb}
use Rattle.std.proofs.lemmas.List.{take_all}
use Rattle.std.proofs.lemmas.List.Folds.{list_all_more}
use Rattle.starlark_source.specs.Literals.{is_byte}
use Rattle.starlark_source.proofs.literal.read_bytes.Goals as goal

pub loop-at-preserved : goal.loop-at-preserved
loop-at-preserved c =
    let l = c.loop-at in
    let s = c.args.bytes.now in
    let within : l.at < length s = omega arith in
    let byte : get_or s l.at 0 < 256 = omega arith in
    list_all_more is_byte s l.at 0 within ∙ and_from (list_all is_byte (take l.at s)) (is_byte (get_or s l.at 0)) l.invariant
    (lt-ltb (get_or s l.at 0) 256 byte)

pub returns : goal.returns
returns c =
    let l = c.loop-at in
    let s = c.args.bytes.now in
    let all : take l.at s ≡ s = take_all l.at s (omega arith) in
    ap (list_all is_byte) (sym all) ∙ l.invariant
