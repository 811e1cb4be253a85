use Rattle.std.proofs.Common.{[], ◌∷◌, ◌++◌, refl, ap, ◌∙◌, subst}
use Rattle.starlark_parse_held.specs.Held.{expression_of}
use Rattle.starlark_spec.specs.Grammar.ElementOf.{of_elements}
use Rattle.starlark_spec.specs.Trees.{tree}
use Rattle.starlark_parse_cursor.specs.Reading.{at}
use Rattle.starlark_parse_cursor.proofs.Paths.{gives_exits}
use Rattle.starlark_parse.specs.Expr.Contract.{FindsLeaf, AddsBeforeComma, KeepsNoComma}
use Rattle.starlark_parse.proofs.ExprLemmas.Single.{atom_alone}
use Rattle.starlark_parse.proofs.ExprLemmas.Lists.{none_given, item_wants, first_fails, one_found}
use Rattle.starlark_parse.proofs.ExprLemmas.AddedLeaves.{leaf_starts, found_as}
use Rattle.starlark_parse.proofs.expr.rules.Rules.leaf_tests.Goals as goal

pub returns-in_err-atom-clause-parses : goal.returns-in_err-atom-clause-parses
returns-in_err-atom-clause-parses g c = gives_exits _ _ _ _ _ _ c.from_residual.ensures.1
    (first_fails (leaf_starts _ c.requires.leaf) c.in_err-atom.ensures.parses)

pub returns-in_default-clause-parses : goal.returns-in_default-clause-parses
returns-in_default-clause-parses g c =
    let d = subst (λ o. FindsLeaf g.I.Iterator.next_gives (AddsBeforeComma c.new-elements.result c.leaf_before_comma.new.elements
    (at c.leaf_before_comma.new.cursor))
    (KeepsNoComma c.new-elements.result c.leaf_before_comma.new.elements (at c.leaf_before_comma.new.cursor)) (at c.args.cursor.now) o
    (at c.leaf_before_comma.new.cursor)) c.in_default.is c.in_ok-atom.ensures.parses in
    c.more_tests.ensures.parses (tree d.derivation) (d.means.0 ∙ ap (λ xs. xs ++ tree d.derivation ∷ []) c.new-elements.ensures) _
    (leaf_starts _ c.requires.leaf) (found_as d refl)

pub returns-then-at_expression_end-clause-parses : goal.returns-then-at_expression_end-clause-parses
returns-then-at_expression_end-clause-parses g c =
    let x = subst (λ o. FindsLeaf g.I.Iterator.next_gives (AddsBeforeComma c.new-elements.result c.leaf_before_comma.new.elements
    (at c.leaf_before_comma.new.cursor))
    (KeepsNoComma c.new-elements.result c.leaf_before_comma.new.elements (at c.leaf_before_comma.new.cursor)) (at c.args.cursor.now) o
    (at c.leaf_before_comma.new.cursor)) c.in-Some.is c.in_ok-atom.ensures.parses in
    one_found (leaf_starts _ c.requires.leaf) c.in-Some.atom (atom_alone c.requires.leaf c.in-Some.atom x.1 (cc)) (x.0.1, refl)

pub returns-in_err-first-clause-parses : goal.returns-in_err-first-clause-parses
returns-in_err-first-clause-parses g c =
    let x = subst (λ o. FindsLeaf g.I.Iterator.next_gives (AddsBeforeComma c.new-elements.result c.leaf_before_comma.new.elements
    (at c.leaf_before_comma.new.cursor))
    (KeepsNoComma c.new-elements.result c.leaf_before_comma.new.elements (at c.leaf_before_comma.new.cursor)) (at c.args.cursor.now) o
    (at c.leaf_before_comma.new.cursor)) c.in-Some.is c.in_ok-atom.ensures.parses in
    gives_exits _ _ _ _ _ _ c.from_residual-in_err-first.ensures.1
    (first_fails (leaf_starts _ c.requires.leaf) (c.in_err-first.ensures.parses _ c.requires.leaf x.1))

pub returns-then-not-at-clause-parses : goal.returns-then-not-at-clause-parses
returns-then-not-at-clause-parses g c =
    let x = subst (λ o. FindsLeaf g.I.Iterator.next_gives (AddsBeforeComma c.new-elements.result c.leaf_before_comma.new.elements
    (at c.leaf_before_comma.new.cursor))
    (KeepsNoComma c.new-elements.result c.leaf_before_comma.new.elements (at c.leaf_before_comma.new.cursor)) (at c.args.cursor.now) o
    (at c.leaf_before_comma.new.cursor)) c.in-Some.is c.in_ok-atom.ensures.parses in
    one_found (leaf_starts _ c.requires.leaf) c.in_ok-first.first (c.in_ok-first.ensures.parses _ c.requires.leaf x.1) (cc, refl)

pub returns-in_err-push-clause-parses : goal.returns-in_err-push-clause-parses
returns-in_err-push-clause-parses g c =
    let x = subst (λ o. FindsLeaf g.I.Iterator.next_gives (AddsBeforeComma c.new-elements.result c.leaf_before_comma.new.elements
    (at c.leaf_before_comma.new.cursor))
    (KeepsNoComma c.new-elements.result c.leaf_before_comma.new.elements (at c.leaf_before_comma.new.cursor)) (at c.args.cursor.now) o
    (at c.leaf_before_comma.new.cursor)) c.in-Some.is c.in_ok-atom.ensures.parses in
    let d = c.in_ok-first.ensures.parses _ c.requires.leaf x.1 in
    gives_exits _ _ _ _ _ _ c.from_residual-in_err-push.ensures.1 (item_wants of_elements tt (none_given _) (leaf_starts _ c.requires.leaf)
    (expression_of c.in_ok-first.first) d d.means)

pub returns-clause-parses : goal.returns-clause-parses
returns-clause-parses g c =
    let x = subst (λ o. FindsLeaf g.I.Iterator.next_gives (AddsBeforeComma c.new-elements.result c.leaf_before_comma.new.elements
    (at c.leaf_before_comma.new.cursor))
    (KeepsNoComma c.new-elements.result c.leaf_before_comma.new.elements (at c.leaf_before_comma.new.cursor)) (at c.args.cursor.now) o
    (at c.leaf_before_comma.new.cursor)) c.in-Some.is c.in_ok-atom.ensures.parses in
    c.more_tests-2.ensures.parses (expression_of c.in_ok-first.first)
    (c.in_ok-push.ensures ∙ ap (λ xs. xs ++ expression_of c.in_ok-first.first ∷ []) (x.0.0 ∙ c.new-elements.ensures))
    _ (leaf_starts _ c.requires.leaf) (c.in_ok-first.ensures.parses _ c.requires.leaf x.1)
