-- What is consumed of an iterator of lexemes, and which answers for the items are correct.
use Rattle.std.specs.Prelude.{◌≡◌, List, ◌++◌, map, ⊤, Option, None, Result, Ok, Err}
use Rattle.starlark_lexer.specs.Tokens.{Lexeme}
use Rattle.starlark_lexer.specs.Lexer.{CodeLexeme, lexeme_of}
use Rattle.starlark_lexer.specs.declared.dialect.DialectTypes.{DialectTypes}
use Rattle.starlark_lexer.specs.declared.span.Spanned.{Spanned}
use Rattle.starlark_tree.specs.Views.{statement_of}
use Rattle.starlark_tree.specs.declared.ast.StmtP.{StmtP}
use Rattle.starlark_tree.specs.declared.ast.payload.AstNoPayload.{AstNoPayload}
use Rattle.starlark_spec.specs.declared.refusal.Refusal.{Refusal}
use Rattle.starlark_spec.specs.Refusals.{refused}
use Rattle.starlark_parse_cursor.specs.Runs.{GivesError, GivesToken, ClosesNode, AnswersCalls}
use Rattle.starlark_spec.specs.Items.{Items, items}
use Rattle.starlark_spec.specs.Answers.{Answer, Answers, IsRight}
use Rattle.starlark_spec.specs.Answers.Answer.{module_of, memory, lexer, unexpected_token, unexpected_end, broken_rule}

abbrev pub CodeStatement : Type 0
CodeStatement = Spanned (StmtP AstNoPayload ⊤ ⊤ ⊤ ⊤ ⊤)

-- the answer of the code
abbrev pub answer_of : Result CodeStatement Refusal → Answer
answer_of (Ok s) = module_of (statement_of s)
answer_of (Err e) = refused e

-- the tokens that came, without comments
abbrev pub tokens_of : List CodeLexeme → List Lexeme
tokens_of calls = (items (map lexeme_of calls)).tokens

-- What the last call returned: the end, the error or the token that is reported; for a broken rule, the item that closes its node, or the end.
abbrev pub IsLastItem : Option CodeLexeme → Answer → Type 0
IsLastItem last (module_of s) = last ≡ None
IsLastItem last memory = ⊤
IsLastItem last (lexer fault) = GivesError last fault
IsLastItem last (unexpected_token span) = GivesToken last span
IsLastItem last (unexpected_end span) = last ≡ None
IsLastItem last (broken_rule fault) = ClosesNode last

-- An answer comes after some tokens: they are those before the token that is named, and those up to the end of the node that breaks a rule.
abbrev pub StandsAfter : (before : List Lexeme) (types : DialectTypes) (items : Items) (answer : Answer) → IsRight types items answer → Type 0
StandsAfter before types items (unexpected_token span) right = right.before ≡ before
StandsAfter before types items (broken_rule fault) right = right.broken_node.occurrence.before ++ right.broken_node.occurrence.own ≡ before
StandsAfter before types items answer right = ⊤

-- an answer is correct, and comes after those tokens
pub record AnswersAfter (before : List Lexeme) (types : DialectTypes) (items : Items) (answer : Answer) : Type 0 where
  pub answers : Answers types items answer
  pub stands : StandsAfter before types items answer answers.right

-- the calls that were made from s and left t, with the item at which the answer is known as the last of them
abbrev pub AnswersFrom : {S : Type 0} → (S → Option CodeLexeme → S → Type 0) → DialectTypes → S → Answer → S → Type 0
AnswersFrom steps types s answer t =
    AnswersCalls steps s (λ last. IsLastItem last answer) (λ calls last items. AnswersAfter (tokens_of calls) types items answer) t
