use Rattle.std.proofs.Common.{refl, subst}
use Rattle.starlark_parse_held.specs.Held.{expression_of}
use Rattle.starlark_spec.specs.Trees.{tree}
use Rattle.starlark_parse_cursor.specs.Reading.{at}
use Rattle.starlark_parse_cursor.proofs.Paths.{exits}
use Rattle.starlark_parse.specs.Expr.Contract.{FindsName}
use Rattle.starlark_parse.proofs.ExprLemmas.Checked.{found_wants}
use Rattle.starlark_parse.proofs.ExprLemmas.Arguments.{added, name_plain, argument_fails, no_equal}
use Rattle.starlark_parse.proofs.ExprLemmas.AddedLeaves.{name_is_leaf, found_as, positional_as, argument_as}
use Rattle.starlark_parse.proofs.expr.rules.Rules.argument_of_name.Goals as goal

pub returns-in_err-name_argument-clause-parses : goal.returns-in_err-name_argument-clause-parses
returns-in_err-name_argument-clause-parses g c = exits _ _ _ _ _ _ _ c.from_residual.ensures.1
    (argument_fails (name_plain _ c.requires.name) c.in_err-name_argument.ensures.parses)

pub returns-in-Added-clause-parses : goal.returns-in-Added-clause-parses
returns-in-Added-clause-parses g c =
    let x = subst (λ o. FindsName g.I.Iterator.next_gives c.args.arguments.now c.name_argument.new.arguments (at c.args.cursor.now) o
    (at c.name_argument.new.cursor)) c.in-Added.is c.in_ok-name_argument.ensures.parses in
    added _ x.0.means (no_equal (name_plain _ c.requires.name) (tree x.0.derivation) (found_as x.0 refl) x.1 refl)

pub returns-in-Name-clause-parses : goal.returns-in-Name-clause-parses
returns-in-Name-clause-parses g c =
    let x = subst (λ o. FindsName g.I.Iterator.next_gives c.args.arguments.now c.name_argument.new.arguments (at c.args.cursor.now) o
    (at c.name_argument.new.cursor)) c.in-Name.is c.in_ok-name_argument.ensures.parses in
    argument_as g.I.Iterator.next_gives c.args.arguments.now c.name_argument.new.arguments c.value_of.new.arguments (at c.args.cursor.now)
    (at c.value_of.new.cursor)
    c.value_of.result x.2 (c.value_of.ensures.parses _ _ c.begin-begin.ensures c.requires.name x.0)

pub returns-in_err-value-in-Atom-clause-parses : goal.returns-in_err-value-in-Atom-clause-parses
returns-in_err-value-in-Atom-clause-parses g c =
    let x = subst (λ o. FindsName g.I.Iterator.next_gives c.args.arguments.now c.name_argument.new.arguments (at c.args.cursor.now) o
    (at c.name_argument.new.cursor)) c.in-Atom.is c.in_ok-name_argument.ensures.parses in
    exits _ _ _ _ _ _ _ c.from_residual-in_err-value-in-Atom.ensures.1
    (argument_fails (name_plain _ c.requires.name) (c.in_err-value-in-Atom.ensures.parses _ (name_is_leaf _ c.requires.name) x.0))

pub returns-then-at-clause-parses : goal.returns-then-at-clause-parses
returns-then-at-clause-parses g c =
    let x = subst (λ o. FindsName g.I.Iterator.next_gives c.args.arguments.now c.name_argument.new.arguments (at c.args.cursor.now) o
    (at c.name_argument.new.cursor)) c.in-Atom.is c.in_ok-name_argument.ensures.parses in
    argument_as g.I.Iterator.next_gives c.args.arguments.now c.name_argument.new.arguments c.named.new.arguments (at c.args.cursor.now) (at c.named.new.cursor)
    c.named.result x.1 (c.named.ensures.parses _ c.begin-begin.ensures c.requires.name
    (c.in_ok-value-in-Atom.ensures.parses _ (name_is_leaf _ c.requires.name) x.0))

pub returns-in_err-push_positional-in-Atom-clause-parses : goal.returns-in_err-push_positional-in-Atom-clause-parses
returns-in_err-push_positional-in-Atom-clause-parses g c =
    let x = subst (λ o. FindsName g.I.Iterator.next_gives c.args.arguments.now c.name_argument.new.arguments (at c.args.cursor.now) o
    (at c.name_argument.new.cursor)) c.in-Atom.is c.in_ok-name_argument.ensures.parses in
    let d = c.in_ok-value-in-Atom.ensures.parses _ (name_is_leaf _ c.requires.name) x.0 in
    exits _ _ _ _ _ _ _ c.from_residual-in_err-push_positional-in-Atom.ensures.1
    (found_wants (no_equal (name_plain _ c.requires.name) (expression_of c.in_ok-value-in-Atom.value) d (cc) c.begin-begin.ensures))

pub returns-in_ok-push_positional-in-Atom-clause-parses : goal.returns-in_ok-push_positional-in-Atom-clause-parses
returns-in_ok-push_positional-in-Atom-clause-parses g c =
    let x = subst (λ o. FindsName g.I.Iterator.next_gives c.args.arguments.now c.name_argument.new.arguments (at c.args.cursor.now) o
    (at c.name_argument.new.cursor)) c.in-Atom.is c.in_ok-name_argument.ensures.parses in
    let d = c.in_ok-value-in-Atom.ensures.parses _ (name_is_leaf _ c.requires.name) x.0 in
    added _ (positional_as _ _ c.in_ok-push_positional-in-Atom.ensures x.1)
    (no_equal (name_plain _ c.requires.name) (expression_of c.in_ok-value-in-Atom.value) d (cc) c.begin-begin.ensures)
