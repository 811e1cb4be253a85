use Rattle.std.proofs.Common.{Ok, Err, refl, ◌∙◌}
use Rattle.starlark_lexer.specs.Lexer.{lexeme_of}
use Rattle.starlark_lexer.specs.Tokens.{from_to}
use Rattle.starlark_module.proofs.CommentsLemmas.Kept.{kept_other, no_comment}
use Rattle.starlark_module.proofs.comments.comment_keeper.CommentKeeper.keep.Goals as goal

pub returns-in_default-clause-kept : goal.returns-in_default-clause-kept
returns-in_default-clause-kept g c =
    rw (c.in-Ok.is) (kept_other c.args.self.now.codemap.now.text c.args.self.now.suppressions c.end_of_comment_block.new.self
    (lexeme_of (Ok (c.in-Ok.begin, c.in-Ok.token, c.in-Ok.end))) c.args.self.now.comments.items
    (no_comment c.in-Ok.token (from_to c.in-Ok.begin c.in-Ok.end) c.in_default.not-Comment) c.end_of_comment_block.ensures)

pub returns-in_default-clause-failed : goal.returns-in_default-clause-failed
returns-in_default-clause-failed g c = c.requires.going ∙ rw (c.in-Ok.is) refl

pub returns-in-Err-clause-kept : goal.returns-in-Err-clause-kept
returns-in-Err-clause-kept g c =
    rw (c.in-Err.is) (kept_other c.args.self.now.codemap.now.text c.args.self.now.suppressions c.end_of_comment_block-in-Err.new.self
    (lexeme_of (Err c.in-Err.field-0)) c.args.self.now.comments.items refl c.end_of_comment_block-in-Err.ensures)
