use Rattle.std.proofs.Common.{[], ◌∷◌, ◌++◌, refl, sym, ap, ◌∙◌}
use Rattle.starlark_parse_held.specs.Held.{expressions_in}
use Rattle.starlark_parse_cursor.specs.Reading.{at}
use Rattle.starlark_parse.specs.Expr.Contract.{AddsBeforeComma}
use Rattle.starlark_parse_cursor.proofs.Paths.{gives_exits}
use Rattle.starlark_parse.proofs.ExprLemmas.AddedLeaves.{leaf_is_token, taken_leaf, taken_added, taken_wants, taken_refused, taken_kept, taken_lies, comma_ends}
use Rattle.starlark_parse.proofs.expr.listed.leaf_before_comma.Goals as goal

pub returns-in_default-clause-parses : goal.returns-in_default-clause-parses
returns-in_default-clause-parses g c = absurd (c.in_default.ensures.takes.1 (leaf_is_token _ c.requires.leaf))

pub returns-in_err-leaf_tree-clause-parses : goal.returns-in_err-leaf_tree-clause-parses
returns-in_err-leaf_tree-clause-parses g c = absurd c.in_err-leaf_tree.ensures

pub leaf_tree-requires : goal.leaf_tree-requires
leaf_tree-requires g c = taken_leaf c.in-Some.ensures.takes c.requires.leaf

pub returns-in_err-push_tree-clause-parses : goal.returns-in_err-push_tree-clause-parses
returns-in_err-push_tree-clause-parses g c = gives_exits _ _ _ _ _ _ c.from_residual-in_err-push_tree.ensures.1
    (taken_wants c.in-Some.ensures.takes c.requires.leaf)

pub returns-then-at-clause-parses : goal.returns-then-at-clause-parses
returns-then-at-clause-parses g c =
    let comes = sym c.at.ensures ∙ c.if-at.true in
    taken_added c.in-Some.ensures.takes c.requires.leaf (AddsBeforeComma c.args.elements.now c.push_tree.new.self (at c.take.new.self)) (comma_ends _ comes)
    (c.in_ok-push_tree.ensures ∙ ap (λ e. expressions_in c.args.elements.now ++ e ∷ []) c.in_ok-leaf_tree.ensures, comes)

pub returns-in_err-leaf_of-clause-parses : goal.returns-in_err-leaf_of-clause-parses
returns-in_err-leaf_of-clause-parses g c = gives_exits _ _ _ _ _ _ c.from_residual-in_err-leaf_of.ensures.1
    (taken_refused c.in-Some.ensures.takes c.requires.leaf c.in_err-leaf_of.ensures)

pub leaf_of-requires : goal.leaf_of-requires
leaf_of-requires g c = taken_leaf c.in-Some.ensures.takes c.requires.leaf

pub returns-clause-parses : goal.returns-clause-parses
returns-clause-parses g c = (
  (refl, sym c.at.ensures ∙ c.if-at.false),
  taken_kept c.in-Some.ensures.takes c.requires.leaf c.in_ok-leaf_of.field-0 c.in_ok-leaf_of.ensures,
)

pub returns-clause-inside : goal.returns-clause-inside
returns-clause-inside g c = taken_lies c.in-Some.ensures.takes c.requires.leaf c.in_ok-leaf_of.field-0 c.in_ok-leaf_of.ensures
