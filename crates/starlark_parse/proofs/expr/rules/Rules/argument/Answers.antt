use Rattle.std.proofs.Common.{◌≡◌, false, sym, refl, ◌∙◌, subst}
use Rattle.starlark_parse_held.specs.Held.{expression_of, arguments_in}
use Rattle.starlark_spec.specs.Trees.{tree}
use Rattle.starlark_parse.proofs.ExprLemmas.AddedLeaves.{found_as, positional_as}
use Rattle.starlark_lexer.specs.declared.kind.Kind.TheVariants as kinds
use Rattle.starlark_lexer.specs.Kinds.{is}
use Rattle.starlark_spec.specs.Machine.Sight.{look_at}
use Rattle.starlark_parse_cursor.specs.Reading.{At, at, begin_at}
use Rattle.starlark_parse.specs.Expr.Contract.{ParsesArgument, FindsLeaf, AddsPositional}
use Rattle.starlark_parse_cursor.proofs.Paths.{exits, into_taken}
use Rattle.starlark_parse.proofs.ExprLemmas.Checked.{found_wants}
use Rattle.starlark_parse.proofs.ExprLemmas.Arguments.{added, no_sign, argument_fails, begins_with_no_name, no_name_alone}
use Rattle.starlark_parse.proofs.expr.rules.Rules.argument.Goals as goal

no_name_here : {S : Type 0} {a m n : At S} → is (look_at a.sight).kind kinds.Identifier ≡ false → m ≡ a → n ≡ m → is (look_at n.sight).kind kinds.Identifier
    ≡ false
no_name_here h f g = subst (λ (x : At _). is (look_at x.sight).kind kinds.Identifier ≡ false) (sym (g ∙ f)) h

pub returns-in-Some-clause-parses : goal.returns-in-Some-clause-parses
returns-in-Some-clause-parses g c = into_taken _ _ _ c.in-Some.ensures.takes (λ p. refl) c.args-in-Some.ensures.parses

pub returns-in-Some-take_if-clause-parses : goal.returns-in-Some-take_if-clause-parses
returns-in-Some-take_if-clause-parses g c =
    subst (λ a. ParsesArgument g.I.Iterator.next_gives c.args.arguments.now c.kwargs.new.arguments a c.kwargs.result (at c.kwargs.new.cursor))
    c.in_default.ensures.takes.1
    (into_taken _ _ _ c.in-Some-take_if.ensures.takes (λ p. refl) c.kwargs.ensures.parses)

pub returns-in_err-value-clause-parses : goal.returns-in_err-value-clause-parses
returns-in_err-value-clause-parses g c =
    exits _ _ _ _ _ _ _ c.from_residual.ensures.1 (argument_fails (no_sign c.in_default.ensures.takes c.in_default-take_if.ensures.takes)
    c.in_err-value.ensures.parses)

pub returns-in_err-push_positional-clause-parses : goal.returns-in_err-push_positional-clause-parses
returns-in_err-push_positional-clause-parses g c =
    let d = c.in_ok-value.ensures.parses in
    exits _ _ _ _ _ _ _ c.from_residual-in_err-push_positional.ensures.1
    (found_wants (no_name_alone (no_sign c.in_default.ensures.takes c.in_default-take_if.ensures.takes) (expression_of c.in_ok-value.value) d
    (begins_with_no_name d (no_name_here (cc) c.in_default.ensures.takes.1 c.in_default-take_if.ensures.takes.1)) c.begin-begin.ensures))

pub returns-then-not-at_leaf-clause-parses : goal.returns-then-not-at_leaf-clause-parses
returns-then-not-at_leaf-clause-parses g c =
    let d = c.in_ok-value.ensures.parses in
    added _ c.in_ok-push_positional.ensures
    (no_name_alone (no_sign c.in_default.ensures.takes c.in_default-take_if.ensures.takes) (expression_of c.in_ok-value.value) d
    (begins_with_no_name d (no_name_here (cc) c.in_default.ensures.takes.1 c.in_default-take_if.ensures.takes.1)) c.begin-begin.ensures)

pub returns-in_err-leaf_argument-clause-parses : goal.returns-in_err-leaf_argument-clause-parses
returns-in_err-leaf_argument-clause-parses g c =
    exits _ _ _ _ _ _ _ c.from_residual-in_err-leaf_argument.ensures.1 (argument_fails (no_sign c.in_default.ensures.takes c.in_default-take_if.ensures.takes)
    c.in_err-leaf_argument.ensures.parses)

pub returns-in-None-clause-parses : goal.returns-in-None-clause-parses
returns-in-None-clause-parses g c =
    let x = subst (λ o. FindsLeaf g.I.Iterator.next_gives (AddsPositional (begin_at (at c.take_if-2.new.self)) c.leaf_argument.new.cursor.end.byte
    c.args.arguments.now c.leaf_argument.new.arguments)
    (arguments_in c.leaf_argument.new.arguments ≡ arguments_in c.args.arguments.now) (at c.take_if-2.new.self) o (at c.leaf_argument.new.cursor))
    c.in-None.is c.in_ok-leaf_argument.ensures.parses in
    let d = found_as x refl in
    added _ x.means
    (no_name_alone (no_sign c.in_default.ensures.takes c.in_default-take_if.ensures.takes) (tree x.derivation) d
    (begins_with_no_name d (no_name_here (cc) c.in_default.ensures.takes.1 c.in_default-take_if.ensures.takes.1)) refl)

pub returns-in_err-value-in-Some-2-clause-parses : goal.returns-in_err-value-in-Some-2-clause-parses
returns-in_err-value-in-Some-2-clause-parses g c =
    let x = subst (λ o. FindsLeaf g.I.Iterator.next_gives (AddsPositional (begin_at (at c.take_if-2.new.self)) c.leaf_argument.new.cursor.end.byte
    c.args.arguments.now c.leaf_argument.new.arguments)
    (arguments_in c.leaf_argument.new.arguments ≡ arguments_in c.args.arguments.now) (at c.take_if-2.new.self) o (at c.leaf_argument.new.cursor))
    c.in-Some-2.is c.in_ok-leaf_argument.ensures.parses in
    exits _ _ _ _ _ _ _ c.from_residual-in_err-value-in-Some-2.ensures.1
    (argument_fails (no_sign c.in_default.ensures.takes c.in_default-take_if.ensures.takes) (c.in_err-value-in-Some-2.ensures.parses _ (cc) x.1))

pub returns-in_err-push_positional-in-Some-2-clause-parses : goal.returns-in_err-push_positional-in-Some-2-clause-parses
returns-in_err-push_positional-in-Some-2-clause-parses g c =
    let x = subst (λ o. FindsLeaf g.I.Iterator.next_gives (AddsPositional (begin_at (at c.take_if-2.new.self)) c.leaf_argument.new.cursor.end.byte
    c.args.arguments.now c.leaf_argument.new.arguments)
    (arguments_in c.leaf_argument.new.arguments ≡ arguments_in c.args.arguments.now) (at c.take_if-2.new.self) o (at c.leaf_argument.new.cursor))
    c.in-Some-2.is c.in_ok-leaf_argument.ensures.parses in
    let d = c.in_ok-value-in-Some-2.ensures.parses _ (cc) x.1 in
    exits _ _ _ _ _ _ _ c.from_residual-in_err-push_positional-in-Some-2.ensures.1
    (found_wants (no_name_alone (no_sign c.in_default.ensures.takes c.in_default-take_if.ensures.takes) (expression_of c.in_ok-value-in-Some-2.value) d
    (begins_with_no_name d (no_name_here (cc) c.in_default.ensures.takes.1 c.in_default-take_if.ensures.takes.1)) c.begin-begin.ensures))

pub returns-in_ok-push_positional-in-Some-2-clause-parses : goal.returns-in_ok-push_positional-in-Some-2-clause-parses
returns-in_ok-push_positional-in-Some-2-clause-parses g c =
    let x = subst (λ o. FindsLeaf g.I.Iterator.next_gives (AddsPositional (begin_at (at c.take_if-2.new.self)) c.leaf_argument.new.cursor.end.byte
    c.args.arguments.now c.leaf_argument.new.arguments)
    (arguments_in c.leaf_argument.new.arguments ≡ arguments_in c.args.arguments.now) (at c.take_if-2.new.self) o (at c.leaf_argument.new.cursor))
    c.in-Some-2.is c.in_ok-leaf_argument.ensures.parses in
    let d = c.in_ok-value-in-Some-2.ensures.parses _ (cc) x.1 in
    added _ (positional_as _ _ c.in_ok-push_positional-in-Some-2.ensures x.0)
    (no_name_alone (no_sign c.in_default.ensures.takes c.in_default-take_if.ensures.takes) (expression_of c.in_ok-value-in-Some-2.value) d
    (begins_with_no_name d (no_name_here (cc) c.in_default.ensures.takes.1 c.in_default-take_if.ensures.takes.1)) c.begin-begin.ensures)
