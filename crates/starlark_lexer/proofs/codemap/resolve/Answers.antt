use Rattle.std.proofs.Common.{rules, ◌^◌, ◌<◌, refl}
use Rattle.starlark_lexer.proofs.LineTables.{LineBegin, table-rises, line-found, line-begin-first, line-begin-later, line-begin-walk, line-fits}
use Rattle.starlark_lexer.proofs.Columns.{rests-between, column-is}
use Rattle.starlark_lexer.proofs.codemap.resolve.Goals as goal
use Rattle.starlark_lexer.proofs.codemap.resolve.Goals.{then-line-eq0, else-line-eq0}

pub begins_up_to-line-requires : goal.begins_up_to-line-requires
begins_up_to-line-requires c = table-rises c.args.text.now c.args.begins.now c.requires.table

pub overflow_cast-result : goal.overflow_cast-result
overflow_cast-result c =
    let h : c.begins_up_to-line.result < 2 ^ 32 = line-fits c.args.text.now c.args.begins.now c.begins_up_to-line.result c.requires.table c.requires.small
    c.begins_up_to-line.ensures.within in search rules

pub overflow_sub-inside : goal.overflow_sub-inside
overflow_sub-inside c =
    let begun : LineBegin c.args.text.now c.args.begins.now c.begins_up_to-line.result c.place_in-at.result c.if-line-eq0.begin =
    elim c.if-line-eq0.branch [
      | then-line-eq0 w ↦ line-begin-first _ _ _ _ _ w.if-line-eq0.true w.begin-is
      | else-line-eq0 w ↦ line-begin-later _ _ _ _ _ c.requires.table w.if-line-eq0.false c.begins_up_to-line.ensures.within c.begins_up_to-line.ensures.below
          w.begin-is
    ] in
    let between = rests-between c.args.text.now c.if-line-eq0.begin c.place_in-at.result begun.before in
    rw (c.char_rests_before.ensures, c.char_rests_before-2.ensures, c.as_bytes-text.ensures.value) between.order

pub overflow_sub-result-2 : goal.overflow_sub-result-2
overflow_sub-result-2 c =
    let begun : LineBegin c.args.text.now c.args.begins.now c.begins_up_to-line.result c.place_in-at.result c.if-line-eq0.begin =
    elim c.if-line-eq0.branch [
      | then-line-eq0 w ↦ line-begin-first _ _ _ _ _ w.if-line-eq0.true w.begin-is
      | else-line-eq0 w ↦ line-begin-later _ _ _ _ _ c.requires.table w.if-line-eq0.false c.begins_up_to-line.ensures.within c.begins_up_to-line.ensures.below
          w.begin-is
    ] in
    let between = rests-between c.args.text.now c.if-line-eq0.begin c.place_in-at.result begun.before in
    rw (c.char_rests_before.ensures, c.char_rests_before-2.ensures, c.as_bytes-text.ensures.value) between.room

pub returns : goal.returns
returns c =
    let begun : LineBegin c.args.text.now c.args.begins.now c.begins_up_to-line.result c.place_in-at.result c.if-line-eq0.begin =
    elim c.if-line-eq0.branch [
      | then-line-eq0 w ↦ line-begin-first _ _ _ _ _ w.if-line-eq0.true w.begin-is
      | else-line-eq0 w ↦ line-begin-later _ _ _ _ _ c.requires.table w.if-line-eq0.false c.begins_up_to-line.ensures.within c.begins_up_to-line.ensures.below
          w.begin-is
    ] in
    let found = line-found c.args.text.now c.args.begins.now c.begins_up_to-line.result c.place_in-at.result c.requires.table
    c.begins_up_to-line.ensures.within c.begins_up_to-line.ensures.below c.begins_up_to-line.ensures.above in
    rw (← c.place_in-at.ensures.place)
    (column-is c.args.text.now c.begins_up_to-line.result c.if-line-eq0.begin c.place_in-at.result _ (line-begin-walk _ _ _ _ _ begun) found begun.before
    c.place_in-at.ensures.within.boundary.0
    (rw (c.char_rests_before.ensures, c.char_rests_before-2.ensures, c.as_bytes-text.ensures.value) refl))
