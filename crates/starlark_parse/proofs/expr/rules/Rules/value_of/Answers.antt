use Rattle.std.proofs.Common.{sym, refl, subst}
use Rattle.starlark_tree.specs.Views.{word}
use Rattle.starlark_parse_held.specs.Held.{expression_of}
use Rattle.starlark_spec.specs.Trees.{tree}
use Rattle.starlark_parse_cursor.specs.Reading.{at}
use Rattle.starlark_parse_cursor.proofs.Paths.{exits}
use Rattle.starlark_parse.proofs.ExprLemmas.Checked.{found_wants}
use Rattle.starlark_parse.proofs.ExprLemmas.Arguments.{added, name_plain, named_alone, named_fails, named_found}
use Rattle.starlark_parse.proofs.ExprLemmas.AddedLeaves.{found_as, named_as}
use Rattle.starlark_parse.specs.Expr.Contract.{FindsValue, named_by}
use Rattle.starlark_parse.proofs.expr.rules.Rules.value_of.Goals as goal

pub returns-in_err-value-clause-parses : goal.returns-in_err-value-clause-parses
returns-in_err-value-clause-parses g c span start b n d =
    let alone = named_alone d _ (word c.args.name) n (sym d.means) in
    exits _ _ _ _ _ _ _ c.from_residual-in_err-value.ensures.1
    (named_fails (name_plain _ n) (named_by span c.args.name) d _ alone c.in_ok-expect.ensures.expects c.in_err-value.ensures.parses)

pub returns-in_err-push_named-clause-parses : goal.returns-in_err-push_named-clause-parses
returns-in_err-push_named-clause-parses g c span start b n d =
    let alone = named_alone d _ (word c.args.name) n (sym d.means) in
    exits _ _ _ _ _ _ _ c.from_residual-in_err-push_named.ensures.1
    (found_wants (named_found (name_plain _ n) (named_by span c.args.name) d _ alone c.in_ok-expect.ensures.expects (expression_of c.in_ok-value.value)
    c.in_ok-value.ensures.parses b))

pub returns-then-not-at_leaf-clause-parses : goal.returns-then-not-at_leaf-clause-parses
returns-then-not-at_leaf-clause-parses g c span start b n d =
    let alone = named_alone d _ (word c.args.name) n (sym d.means) in
    added _ c.in_ok-push_named.ensures
    (named_found (name_plain _ n) (named_by span c.args.name) d _ alone c.in_ok-expect.ensures.expects (expression_of c.in_ok-value.value)
    c.in_ok-value.ensures.parses b)

pub returns-in_err-leaf_named-clause-parses : goal.returns-in_err-leaf_named-clause-parses
returns-in_err-leaf_named-clause-parses g c span start b n d =
    let alone = named_alone d _ (word c.args.name) n (sym d.means) in
    exits _ _ _ _ _ _ _ c.from_residual-in_err-leaf_named.ensures.1
    (named_fails (name_plain _ n) (named_by span c.args.name) d _ alone c.in_ok-expect.ensures.expects c.in_err-leaf_named.ensures.parses)

pub returns-in-None-clause-parses : goal.returns-in-None-clause-parses
returns-in-None-clause-parses g c span start b n d =
    let alone = named_alone d _ (word c.args.name) n (sym d.means) in
    let x = subst (λ o. FindsValue g.I.Iterator.next_gives c.args.name c.args.begin.byte c.args.arguments.now c.leaf_named.new.arguments
    (at c.expect.new.cursor) o (at c.leaf_named.new.cursor)) c.in-None.is c.in_ok-leaf_named.ensures.parses in
    added _ x.means (named_found (name_plain _ n) (named_by span c.args.name) d _ alone c.in_ok-expect.ensures.expects (tree x.derivation) (found_as x refl) b)

pub returns-in_err-value-in-Some-clause-parses : goal.returns-in_err-value-in-Some-clause-parses
returns-in_err-value-in-Some-clause-parses g c span start b n d =
    let alone = named_alone d _ (word c.args.name) n (sym d.means) in
    let x = subst (λ o. FindsValue g.I.Iterator.next_gives c.args.name c.args.begin.byte c.args.arguments.now c.leaf_named.new.arguments
    (at c.expect.new.cursor) o (at c.leaf_named.new.cursor)) c.in-Some.is c.in_ok-leaf_named.ensures.parses in
    exits _ _ _ _ _ _ _ c.from_residual-in_err-value-in-Some.ensures.1
    (named_fails (name_plain _ n) (named_by span c.args.name) d _ alone c.in_ok-expect.ensures.expects (c.in_err-value-in-Some.ensures.parses _ (cc) x.0))

pub returns-in_err-push_named-in-Some-clause-parses : goal.returns-in_err-push_named-in-Some-clause-parses
returns-in_err-push_named-in-Some-clause-parses g c span start b n d =
    let alone = named_alone d _ (word c.args.name) n (sym d.means) in
    let x = subst (λ o. FindsValue g.I.Iterator.next_gives c.args.name c.args.begin.byte c.args.arguments.now c.leaf_named.new.arguments
    (at c.expect.new.cursor) o (at c.leaf_named.new.cursor)) c.in-Some.is c.in_ok-leaf_named.ensures.parses in
    exits _ _ _ _ _ _ _ c.from_residual-in_err-push_named-in-Some.ensures.1
    (found_wants (named_found (name_plain _ n) (named_by span c.args.name) d _ alone c.in_ok-expect.ensures.expects
    (expression_of c.in_ok-value-in-Some.value) (c.in_ok-value-in-Some.ensures.parses _ (cc) x.0) b))

pub returns-in_ok-push_named-in-Some-clause-parses : goal.returns-in_ok-push_named-in-Some-clause-parses
returns-in_ok-push_named-in-Some-clause-parses g c span start b n d =
    let alone = named_alone d _ (word c.args.name) n (sym d.means) in
    let x = subst (λ o. FindsValue g.I.Iterator.next_gives c.args.name c.args.begin.byte c.args.arguments.now c.leaf_named.new.arguments
    (at c.expect.new.cursor) o (at c.leaf_named.new.cursor)) c.in-Some.is c.in_ok-leaf_named.ensures.parses in
    let v = c.in_ok-value-in-Some.ensures.parses _ (cc) x.0 in
    added _ (named_as _ _ c.in_ok-push_named-in-Some.ensures x.1 x.2)
    (named_found (name_plain _ n) (named_by span c.args.name) d _ alone c.in_ok-expect.ensures.expects (expression_of c.in_ok-value-in-Some.value) v b)
