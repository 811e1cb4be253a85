use Rattle.std.proofs.Common.{◌≡◌}
use Rattle.starlark_lexer.specs.Places.{line_begins}
use Rattle.starlark_lexer.proofs.LineTables.{line-found, table-rises}
use Rattle.starlark_lexer.proofs.codemap.CodeMap.find_line.Goals as goal

pub returns : goal.returns
returns c =
    let table : c.as_slice.result.now ≡ line_begins 0 c.args.self.now.text = rw (
      c.as_slice.ensures.value,
      c.deref.ensures,
      ← c.self.view_is,
    ) c.self.invariant.table in
    let place = rw c.source.ensures.text at c.place_in-at.ensures.place in
    rw (← place)
    (line-found c.args.self.now.text c.as_slice.result.now c.begins_up_to.result c.place_in-at.result table
    c.begins_up_to.ensures.within c.begins_up_to.ensures.below c.begins_up_to.ensures.above)

pub begins_up_to-requires : goal.begins_up_to-requires
begins_up_to-requires c = table-rises c.args.self.now.text c.as_slice.result.now (rw (
  c.as_slice.ensures.value,
  c.deref.ensures,
  ← c.self.view_is,
) c.self.invariant.table)
