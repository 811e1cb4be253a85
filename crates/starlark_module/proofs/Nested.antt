-- The tree of a module is nested.
use Rattle.std.proofs.Common.{ℕ, ◌≤◌, List, [], ◌∷◌, map, Bool, true, false, if◌then◌else◌, Option, Result, Ok, Err, IfOk, sym, subst, arith}
use Rattle.starlark_checks.specs.Refusals.{Refusal}
use Rattle.starlark_parse_cursor.specs.Order.{IsInOrder, ComesInOrder}
use Rattle.starlark_parse_cursor.specs.Runs.{HasNoError, lexemes_with}
use Rattle.starlark_spec.specs.Items.{Items, items, is_comment}
use Rattle.starlark_lexer.specs.Lexer.{CodeLexeme, lexeme_of}
use Rattle.starlark_lexer.specs.Places.{File}
use Rattle.starlark_lexer.specs.Tokens.{Lexeme, terminal}
use Rattle.starlark_lexer.specs.declared.dialect.Dialect.{Dialect}
use Rattle.starlark_spec.specs.Nested.{AreInOrder, IsNested}
use Rattle.starlark_spec.proofs.Nesting.{trees_are_nested}
use Rattle.starlark_module.specs.Modules.{AnswersCall, Says}
use Rattle.starlark_module.specs.ConsumedLexemes.{AnswersCallsUnder}
use Rattle.starlark_module.specs.declared.module.AstModule.{AstModule}
use Rattle.starlark_tree.specs.Ast.{Statement, no_payload}
use Rattle.starlark_tree.specs.Views.{statement_of}
use Rattle.starlark_spec.specs.Answers.{Answer}
use Rattle.starlark_spec.specs.Answers.Answer.{module_of, memory, lexer, unexpected_token, unexpected_end, broken_rule}

later : (a b : ℕ) (ls : List Lexeme) → a ≤ b → AreInOrder b ls → AreInOrder a ls
later a b [] h i = tt
later a b (x ∷ xs) h i = (omega (arith, h, i.0), i.1, i.2)

-- with or without the first of them
kept : (b : Bool) (from : ℕ) (l : Lexeme) (rest : Items) → from ≤ l.span.begin → l.span.begin ≤ l.span.end → AreInOrder l.span.end rest.tokens
    → AreInOrder from (if b then rest else record { tokens = l ∷ rest.tokens; ending = rest.ending }).tokens
kept true from l rest begins runs order = later from l.span.end rest.tokens (omega (arith, begins, runs)) order
kept false from l rest begins runs order = (begins, runs, order)

tokens_in_order : (from : ℕ) (calls : List CodeLexeme) → IsInOrder from calls → HasNoError calls → AreInOrder from (items (map lexeme_of calls)).tokens
tokens_in_order from [] order none = tt
tokens_in_order from (Ok x ∷ xs) order none = kept (is_comment (terminal x.1)) from _ (items (map lexeme_of xs)) order.0 order.1
    (tokens_in_order x.2 xs order.3 none)
tokens_in_order from (Err e ∷ xs) order none = absurd none

module _ {S : Type 0} (steps : S → Option CodeLexeme → S → Type 0) (dialect : Dialect) (s t : S) (ordered : ComesInOrder steps s 0) where
  nested_from : (m : Statement no_payload) → AnswersCallsUnder steps dialect s (module_of m) t → IsNested m
  nested_from m a =
      let right = (a.answers []).answers.right in
      let order = subst (λ l. AreInOrder 0 (items (lexemes_with a.calls l [])).tokens) (sym a.last_is)
      (tokens_in_order 0 a.calls (ordered.at a.calls a.run.0 a.run.1) a.no_error) in
      subst IsNested (sym right.tree_is) (trees_are_nested _ right.derivation right.keeps.derived order)

  nested_so : (file : File) (answer : Answer) (m : AstModule) (from : AnswersCallsUnder steps dialect s answer t) → Says file (map lexeme_of from.calls) answer
      (Ok m) → IsNested (statement_of m.statement)
  nested_so file (module_of x) m from says = subst IsNested (sym says.statement) (nested_from x from)
  nested_so file memory m from says = absurd says
  nested_so file (lexer fault) m from says = absurd says
  nested_so file (unexpected_token span) m from says = absurd says
  nested_so file (unexpected_end span) m from says = absurd says
  nested_so file (broken_rule fault) m from says = absurd says

  pub nested : (file : File) (r : Result AstModule Refusal) → AnswersCall steps dialect s file r t → IfOk r (λ m. IsNested (statement_of m.statement))
  nested file (Ok m) a = nested_so file a.answer m a.from a.says
  nested file (Err e) a = tt
