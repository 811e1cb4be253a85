-- Answers through a keeper of comments.
use Rattle.std.specs.Prelude.{◌≡◌, map, Option}
use Rattle.starlark_lexer.specs.Lexer.{CodeLexeme, lexeme_of}
use Rattle.starlark_lexer.specs.declared.dialect.DialectTypes.{DialectTypes}
use Rattle.starlark_tree.specs.Ast.{Statement, no_payload}
use Rattle.starlark_spec.specs.Answers.{Answer}
use Rattle.starlark_spec.specs.Answers.Answer.{module_of}
use Rattle.starlark_module.specs.Comments.Keeping.{HasKept}
use Rattle.starlark_module.specs.declared.comments.comment_keeper.CommentKeeper.{CommentKeeper}
use Rattle.starlark_parse.specs.Stmt.Runs.{AnswersFrom}

-- The answer for a keeper's lexemes is the answer for those of the iterator in it, and for a module all comments are kept.
pub record AnswersThrough {S : Type 0} (steps : S → Option CodeLexeme → S → Type 0) (types : DialectTypes) (old : CommentKeeper S) (answer : Answer)
    (new : CommentKeeper S) : Type 0 where
  pub from : AnswersFrom steps types old.lexemes.now answer new.lexemes.now
  pub kept : (s : Statement no_payload) → answer ≡ module_of s → HasKept (map lexeme_of from.calls) new
