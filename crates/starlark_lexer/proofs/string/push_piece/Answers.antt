use Rattle.std.proofs.Common.{Ok, subst}
use Rattle.starlark_lexer.proofs.PieceBounds.{IsFrontOf, piece_ends}
use Rattle.starlark_lexer.proofs.string.push_piece.Goals as goal

pub range-requires-clause-end_boundary : goal.range-requires-clause-end_boundary
range-requires-clause-end_boundary c =
    let ends = piece_ends c.args.style c.args.rest.now (Ok c.args.found) c.utf8.rest c.requires.quote c.requires.piece in
    subst (IsFrontOf c.args.rest.now) c.in-Front.is ends.2
