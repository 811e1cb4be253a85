use Rattle.std.proofs.Common.{refl, sym, ap, ◌∙◌}
use Rattle.starlark_lexer.specs.declared.span.Pos.{Pos}
use Rattle.starlark_parse_cursor.proofs.Paths.{gives_exits}
use Rattle.starlark_parse.proofs.ExprLemmas.AddedLeaves.{equal_ends, name_is_leaf, taken_alone, taken_positional, taken_wants, taken_kept, taken_lies}
use Rattle.starlark_parse.proofs.ExprLemmas.AddedLeaves.{true_false}
use Rattle.starlark_parse.proofs.expr.argument.name_argument.Goals as goal

pub returns-in_err-name-clause-parses : goal.returns-in_err-name-clause-parses
returns-in_err-name-clause-parses g c = absurd (true_false c.requires.name c.in_err-name.ensures.takes.0)

pub returns-then-at-clause-parses : goal.returns-then-at-clause-parses
returns-then-at-clause-parses g c =
    let comes = sym c.at.ensures ∙ c.if-at.true in
    (taken_alone c.in_ok-name.ensures.takes (name_is_leaf _ c.requires.name) (equal_ends _ comes), comes, refl)

pub returns-in_err-push_positional_tree-clause-parses : goal.returns-in_err-push_positional_tree-clause-parses
returns-in_err-push_positional_tree-clause-parses g c = gives_exits _ _ _ _ _ _ c.from_residual-in_err-push_positional_tree.ensures.1
    (taken_wants c.in_ok-name.ensures.takes (name_is_leaf _ c.requires.name))

pub returns-then-at_expression_end-clause-parses : goal.returns-then-at_expression_end-clause-parses
returns-then-at_expression_end-clause-parses g c = (
  taken_positional c.in_ok-name.ensures.takes (name_is_leaf _ c.requires.name) c.args.arguments.now c.push_positional_tree.new.self
      (ap (λ (p : Pos). p.byte) c.begin.ensures) (ap (λ (p : Pos). p.byte) c.end.ensures) c.identifier_tree.ensures (cc) c.in_ok-push_positional_tree.ensures,
  sym c.at.ensures ∙ c.if-at.false,
)

pub returns-in_err-identifier-clause-parses : goal.returns-in_err-identifier-clause-parses
returns-in_err-identifier-clause-parses g c = gives_exits _ _ _ _ _ _ c.from_residual-in_err-identifier.ensures.1
    (taken_wants c.in_ok-name.ensures.takes (name_is_leaf _ c.requires.name))

pub returns-clause-parses : goal.returns-clause-parses
returns-clause-parses g c = (taken_kept c.in_ok-name.ensures.takes (name_is_leaf _ c.requires.name) c.in_ok-identifier.field-0 c.in_ok-identifier.ensures, refl)

pub returns-clause-inside : goal.returns-clause-inside
returns-clause-inside g c = taken_lies c.in_ok-name.ensures.takes (name_is_leaf _ c.requires.name) c.in_ok-identifier.field-0 c.in_ok-identifier.ensures
