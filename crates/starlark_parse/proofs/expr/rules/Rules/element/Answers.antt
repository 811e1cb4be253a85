use Rattle.std.proofs.Common.{◌≡◌, [], ◌∷◌, ◌++◌, ap, ◌∙◌, subst}
use Rattle.starlark_parse_held.specs.Held.{expression_of, expressions_in}
use Rattle.starlark_parse_cursor.specs.Reading.{at}
use Rattle.starlark_parse_cursor.proofs.Paths.{exits}
use Rattle.starlark_parse.specs.Expr.Contract.{FindsLeaf, AddsElement}
use Rattle.starlark_parse.proofs.ExprLemmas.Checked.{found_wants}
use Rattle.starlark_parse.proofs.ExprLemmas.AddedLeaves.{found_as}
use Rattle.starlark_parse.proofs.expr.rules.Rules.element.Goals as goal

pub returns-in_err-element-clause-parses : goal.returns-in_err-element-clause-parses
returns-in_err-element-clause-parses g c = exits _ _ _ _ _ _ _ c.from_residual.ensures.1 c.in_err-element.ensures.parses

pub returns-in_err-push-clause-parses : goal.returns-in_err-push-clause-parses
returns-in_err-push-clause-parses g c = exits _ _ _ _ _ _ _ c.from_residual-in_err-push.ensures.1 (found_wants c.in_ok-element.ensures.parses)

pub returns-then-not-at_leaf-clause-parses : goal.returns-then-not-at_leaf-clause-parses
returns-then-not-at_leaf-clause-parses g c =
    let d = c.in_ok-element.ensures.parses in
    found_as d (c.in_ok-push.ensures ∙ ap (λ e. expressions_in c.args.elements.now ++ e ∷ []) d.means)

pub returns-in_err-leaf_element-clause-parses : goal.returns-in_err-leaf_element-clause-parses
returns-in_err-leaf_element-clause-parses g c = exits _ _ _ _ _ _ _ c.from_residual-in_err-leaf_element.ensures.1 c.in_err-leaf_element.ensures.parses

pub returns-in_err-element-in-Some-clause-parses : goal.returns-in_err-element-in-Some-clause-parses
returns-in_err-element-in-Some-clause-parses g c =
    let x = subst (λ o. FindsLeaf g.I.Iterator.next_gives (AddsElement c.args.elements.now c.leaf_element.new.elements)
    (expressions_in c.leaf_element.new.elements ≡ expressions_in c.args.elements.now) (at c.args.cursor.now) o (at c.leaf_element.new.cursor))
    c.in-Some.is c.in_ok-leaf_element.ensures.parses in
    exits _ _ _ _ _ _ _ c.from_residual-in_err-element-in-Some.ensures.1 (c.in_err-element-in-Some.ensures.parses _ (cc) x.1)

pub returns-in_err-push-in-Some-clause-parses : goal.returns-in_err-push-in-Some-clause-parses
returns-in_err-push-in-Some-clause-parses g c =
    let x = subst (λ o. FindsLeaf g.I.Iterator.next_gives (AddsElement c.args.elements.now c.leaf_element.new.elements)
    (expressions_in c.leaf_element.new.elements ≡ expressions_in c.args.elements.now) (at c.args.cursor.now) o (at c.leaf_element.new.cursor))
    c.in-Some.is c.in_ok-leaf_element.ensures.parses in
    exits _ _ _ _ _ _ _ c.from_residual-in_err-push-in-Some.ensures.1 (found_wants (c.in_ok-element-in-Some.ensures.parses _ (cc) x.1))

pub returns-in_ok-push-in-Some-clause-parses : goal.returns-in_ok-push-in-Some-clause-parses
returns-in_ok-push-in-Some-clause-parses g c =
    let x = subst (λ o. FindsLeaf g.I.Iterator.next_gives (AddsElement c.args.elements.now c.leaf_element.new.elements)
    (expressions_in c.leaf_element.new.elements ≡ expressions_in c.args.elements.now) (at c.args.cursor.now) o (at c.leaf_element.new.cursor))
    c.in-Some.is c.in_ok-leaf_element.ensures.parses in
    let d = c.in_ok-element-in-Some.ensures.parses _ (cc) x.1 in
    found_as d (c.in_ok-push-in-Some.ensures ∙ ap (λ xs. xs ++ expression_of c.in_ok-element-in-Some.element ∷ []) x.0
    ∙ ap (λ e. expressions_in c.args.elements.now ++ e ∷ []) d.means)
