-- A text that has the tokens of a value is read as that value, and a text that has those of a tree as that tree.
use Rattle.std.proofs.Common.{◌≡◌, ℕ, ◌≤◌, List, Some, length, sym, ap, ◌∙◌, append-nil, length-append, arith}
use Rattle.std.specs.Prelude.{option_and_then}
use Rattle.json.specs.Json.{Json, null, boolean, number, string, array, object, Items, no_items, item, Members, no_members, member, value, if_last}
use Rattle.json.specs.Lex.{tokens}
use Rattle.json.specs.Tree.{json_tokens, items_tokens, members_tokens, depth, items_depth, members_depth}
use Rattle.json.proofs.Printed.Trees.{value-json_tokens}
use Rattle.starlark_tree.specs.Ast.{Expression, Statement, no_payload}
use Rattle.starlark_json.specs.Tree.Fitting.{ExpressionFits, StatementFits}
use Rattle.starlark_json.specs.Tree.Reading.{value_of, read_expression, read_statement, expression_of_text, statement_of_text}
use Rattle.starlark_json.specs.Tree.Trees.{expression_json, statement_json}
use Rattle.starlark_json.proofs.TreeLemmas.ReadsBack.{expression_back, statement_back}

mutual
  shallow : (j : Json) → depth j ≤ length (json_tokens j)
  shallow null = omega arith
  shallow (boolean b) = omega arith
  shallow (number s) = omega arith
  shallow (string s) = omega arith
  shallow (array js) = omega (arith, items_shallow js)
  shallow (object ms) = omega (arith, members_shallow ms)

  items_shallow : (js : Items) → items_depth js ≤ length (items_tokens js)
  items_shallow no_items = omega arith
  items_shallow (item j js) = omega (arith, shallow j, items_shallow js, length-append (json_tokens j) (items_tokens js))

  members_shallow : (ms : Members) → members_depth ms ≤ length (members_tokens ms)
  members_shallow no_members = omega arith
  members_shallow (member k j ms) = omega (arith, shallow j, members_shallow ms, length-append (json_tokens j) (members_tokens ms))

pub value_back : (j : Json) (text : List ℕ) → tokens text ≡ json_tokens j → value_of text ≡ Some j
value_back j text is =
    ap (λ ts. option_and_then (λ p. if_last p.0 p.1) (value (length ts) ts)) is
    ∙ ap (λ ts. option_and_then (λ p. if_last p.0 p.1) (value (length (json_tokens j)) ts)) (sym (append-nil (json_tokens j)))
    ∙ ap (option_and_then (λ p. if_last p.0 p.1)) (value-json_tokens j (length (json_tokens j)) _ (shallow j))

pub expression_text_back : (e : Expression no_payload) (text : List ℕ) → tokens text ≡ json_tokens (expression_json e) → ExpressionFits e
    → expression_of_text text ≡ Some e
expression_text_back e text is fits = ap (option_and_then read_expression) (value_back (expression_json e) text is) ∙ expression_back e fits

pub statement_text_back : (s : Statement no_payload) (text : List ℕ) → tokens text ≡ json_tokens (statement_json s) → StatementFits s
    → statement_of_text text ≡ Some s
statement_text_back s text is fits = ap (option_and_then read_statement) (value_back (statement_json s) text is) ∙ statement_back s fits
