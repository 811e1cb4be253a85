-- What is consumed of an iterator of lexemes for a module, and which answers for the items are correct under a dialect.
use Rattle.std.specs.Prelude.{◌≡◌, List, ◌++◌, ⊤, Option, None}
use Rattle.starlark_parse_cursor.specs.Runs.{AnswersCalls}
use Rattle.starlark_parse.specs.Stmt.Runs.{IsLastItem, tokens_of}
use Rattle.starlark_spec.specs.Answers.{Answer}
use Rattle.starlark_spec.specs.Answers.Answer.{unexpected_token, broken_rule}
use Rattle.starlark_spec.specs.Items.{Items, items}
use Rattle.starlark_lexer.specs.Lexer.{CodeLexeme}
use Rattle.starlark_lexer.specs.Tokens.{Lexeme}
use Rattle.starlark_lexer.specs.declared.dialect.Dialect.{Dialect}
use Rattle.starlark_validate.specs.Answers.{AnswersUnder, IsRight, while_read, in_tree}

-- An answer comes after some tokens: they are those before the token that is named, and those up to the end of the node that breaks a rule. For a
-- rule that is tested on the whole tree, the last call returned the end.
abbrev pub StandsAfter : (before : List Lexeme) (last : Option CodeLexeme) (dialect : Dialect) (items : Items) (answer : Answer)
    → IsRight dialect items answer → Type 0
StandsAfter before last dialect items (unexpected_token span) right = right.before ≡ before
StandsAfter before last dialect items (broken_rule fault) (while_read first) = first.broken_node.occurrence.before
    ++ first.broken_node.occurrence.own ≡ before
StandsAfter before last dialect items (broken_rule fault) (in_tree first) = last ≡ None
StandsAfter before last dialect items answer right = ⊤

-- an answer is correct, and comes after those tokens
pub record AnswersAfter (before : List Lexeme) (last : Option CodeLexeme) (dialect : Dialect) (items : Items) (answer : Answer) : Type 0 where
  pub answers : AnswersUnder dialect items answer
  pub stands : StandsAfter before last dialect items answer answers.right

-- the calls that were made from s and left t, with the item at which the answer is known as the last of them
abbrev pub AnswersCallsUnder : {S : Type 0} → (S → Option CodeLexeme → S → Type 0) → Dialect → S → Answer → S → Type 0
AnswersCallsUnder steps dialect s answer t =
    AnswersCalls steps s (λ last. IsLastItem last answer) (λ calls last items. AnswersAfter (tokens_of calls) last dialect items answer) t
