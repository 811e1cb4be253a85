use Rattle.starlark_module.proofs.CommentsLemmas.Kept.{kept_comment}
use Rattle.starlark_module.proofs.comments.comment_keeper.CommentKeeper.try_keep.Goals as goal

pub returns-clause-kept : goal.returns-clause-kept
returns-clause-kept g c =
    kept_comment c.args.self.now.codemap.now.text c.args.self.now.suppressions c.parse_comment.new.self c.parse_comment.result c.args.text.now c.args.span
    c.args.self.now.comments.items c.push.new.self.items c.in_ok-push.ensures.items c.parse_comment.ensures.ok
