use Rattle.std.proofs.Common.{Ok}
use Rattle.starlark_lexer.proofs.PieceBounds.{piece_ends}
use Rattle.starlark_lexer.proofs.string.piece.after_piece.Goals as goal

pub range_from-requires : goal.range_from-requires
range_from-requires c = λ _. (piece_ends c.args.style c.args.rest.now (Ok c.args.found) c.utf8.rest c.requires.quote c.requires.piece).1

pub returns-clause-some : goal.returns-clause-some
returns-clause-some c = (piece_ends c.args.style c.args.rest.now (Ok c.args.found) c.utf8.rest c.requires.quote c.requires.piece).0
