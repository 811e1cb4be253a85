-- What a keeper of comments keeps, and how its calls relate to those of the iterator in it.
use Rattle.std.specs.Prelude.{◌≡◌, Bool, true, false, List, [], ◌∷◌, ◌++◌, map, Option, Some, None, Result, Ok, Err}
use Rattle.std.specs.Iterator.{YieldsThen}
use Rattle.starlark_lexer.specs.Lexer.{CodeLexeme, lexeme_of}
use Rattle.starlark_lexer.specs.Tokens.{Text, Span, span_of, Lexeme, LexerFault}
use Rattle.starlark_lexer.specs.declared.token.LexerError.{LexerError}
use Rattle.starlark_lexer.specs.declared.token.LexerErrorKind.TheVariants as kinds
use Rattle.starlark_lexer.specs.declared.span.Span.{Span as CodeSpan}
use Rattle.starlark_module.specs.Comments.Building.{HasRead}
use Rattle.starlark_module.specs.declared.comments.lint_suppressions.LintSuppressionsBuilder.{LintSuppressionsBuilder}
use Rattle.starlark_module.specs.Comments.Comments.{comments, is_no_comment}
use Rattle.starlark_parse_cursor.specs.Order.{ComesInOrder}
use Rattle.starlark_module.specs.declared.comments.comment_keeper.CommentKeeper.{CommentKeeper}

-- where the comments among lexemes are
abbrev pub comment_spans : List (Result Lexeme LexerFault) → List Span
comment_spans lexemes = map (λ c. c.span) (comments lexemes)

abbrev pub is_error : CodeLexeme → Bool
is_error (Ok x) = false
is_error (Err e) = true

-- the comments of these lexemes of a text are kept: where they are, and what they suppress
pub record AreKept (text : Text) (lexemes : List (Result Lexeme LexerFault)) (spans : List CodeSpan) (b : LintSuppressionsBuilder) : Type 0 where
  pub spans_are : map span_of spans ≡ comment_spans lexemes
  pub read : HasRead text lexemes b

module _ {S : Type 0} where
  abbrev pub HasKept : List (Result Lexeme LexerFault) → CommentKeeper S → Type 0
  HasKept lexemes k = AreKept k.codemap.now.text lexemes k.comments.items k.suppressions

  -- with what was kept before, the comments of one more lexeme are
  abbrev pub Keeps : CodeLexeme → CommentKeeper S → CommentKeeper S → Type 0
  Keeps x old new = (lexemes : List (Result Lexeme LexerFault)) → HasKept lexemes old → HasKept (lexemes ++ lexeme_of x ∷ []) new

  -- the same file, and the same iterator, wherever it is now
  pub record IsSameKeeper (old new : CommentKeeper S) : Type 0 where
    pub same_reference : new.lexemes.ghost_name ≡ old.lexemes.ghost_name
    pub codemap : new.codemap ≡ old.codemap

  module _ (steps : S → Option CodeLexeme → S → Type 0) where
    -- A call returns what the iterator returns, and keeps it; except for a comment that it cannot allocate memory for, an error. After an error
    -- nothing is requested.
    pub data Gives : CommentKeeper S → Option CodeLexeme → CommentKeeper S → Type 0 where
      ends : {old new : CommentKeeper S} → old.failed ≡ false → IsSameKeeper old new → steps old.lexemes.now None new.lexemes.now
          → ((lexemes : List (Result Lexeme LexerFault)) → HasKept lexemes old → HasKept lexemes new) → Gives old None new
      hands_on : {old new : CommentKeeper S} (x : CodeLexeme) → old.failed ≡ false → IsSameKeeper old new → steps old.lexemes.now (Some x) new.lexemes.now
          → Keeps x old new → new.failed ≡ is_error x
          → Gives old (Some x) new
      wants_memory : {old new : CommentKeeper S} (x : CodeLexeme) (e : LexerError) → old.failed ≡ false → IsSameKeeper old new
          → steps old.lexemes.now (Some x) new.lexemes.now → is_no_comment (lexeme_of x) ≡ false
          → e.kind ≡ kinds.Memory → new.failed ≡ true → Gives old (Some (Err e)) new
      has_failed : {old : CommentKeeper S} → old.failed ≡ true → Gives old None old

  -- until an error came the iterator may be called, and its lexemes come in order
  abbrev pub CanNext : (S → Type 0) → (S → Option CodeLexeme → S → Type 0) → CommentKeeper S → Type 0
  CanNext can steps k = k.failed ≡ false → can k.lexemes.now × ComesInOrder steps k.lexemes.now 0

-- what a keeper returned last, if the iterator in it returned this: the same, or an error instead of a comment for which allocation failed
pub data IsGivenFor : Option CodeLexeme → Option CodeLexeme → Type 0 where
  as_it_came : (came : Option CodeLexeme) → IsGivenFor came came
  in_its_place : (x : CodeLexeme) (e : LexerError) → is_no_comment (lexeme_of x) ≡ false → e.kind ≡ kinds.Memory → IsGivenFor (Some (Err e)) (Some x)

-- Calls of a keeper made the same calls of the iterator in it, except perhaps the last. It is the same keeper, and at the end it has kept
-- all comments.
pub record TakesFrom {S : Type 0} (steps : S → Option CodeLexeme → S → Type 0) (old : CommentKeeper S) (calls : List CodeLexeme) (last : Option CodeLexeme)
    (new : CommentKeeper S) : Type 0 where
  pub came : Option CodeLexeme
  pub given_for : IsGivenFor last came
  pub run : YieldsThen steps old.lexemes.now calls came new.lexemes.now
  pub same_keeper : IsSameKeeper old new
  pub kept : (lexemes : List (Result Lexeme LexerFault)) → HasKept lexemes old → last ≡ None → HasKept (lexemes ++ map lexeme_of calls) new
