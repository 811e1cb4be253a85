use Rattle.std.proofs.Common.{refl, sym, ◌∙◌, subst}
use Rattle.starlark_spec.specs.Grammar.Nonterminal.{Atom}
use Rattle.starlark_parse_cursor.specs.Reading.{at}
use Rattle.starlark_parse_cursor.specs.Contract.{Parses}
use Rattle.starlark_parse.specs.Expr.Expressions.{IsAtom}
use Rattle.starlark_parse_cursor.proofs.Paths.{into_taken}
use Rattle.starlark_parse.proofs.ExprLemmas.Leaves.{atom_refused}
use Rattle.starlark_parse.proofs.expr.rules.Rules.atom.Goals as goal

pub returns-in-Some-clause-parses : goal.returns-in-Some-clause-parses
returns-in-Some-clause-parses g c = into_taken _ _ _ c.in-Some.ensures.takes (λ p. refl) c.round.ensures.parses

pub returns-in-Some-take_if-clause-parses : goal.returns-in-Some-take_if-clause-parses
returns-in-Some-take_if-clause-parses g c =
    subst (λ a. Parses g.I.Iterator.next_gives Atom IsAtom a c.square.result (at c.square.new.cursor)) c.in_default.ensures.takes.1
    (into_taken _ _ _ c.in-Some-take_if.ensures.takes (λ p. refl) c.square.ensures.parses)

pub returns-in-Some-take_if-2-clause-parses : goal.returns-in-Some-take_if-2-clause-parses
returns-in-Some-take_if-2-clause-parses g c =
    subst (λ a. Parses g.I.Iterator.next_gives Atom IsAtom a c.curly.result (at c.curly.new.cursor)) (c.in_default-take_if.ensures.takes.1
    ∙ c.in_default.ensures.takes.1)
    (into_taken _ _ _ c.in-Some-take_if-2.ensures.takes (λ p. refl) c.curly.ensures.parses)

pub returns-in-Some-take_start-clause-parses :
    goal.returns-in-Some-take_start-clause-parses
returns-in-Some-take_start-clause-parses g c =
    let v = c.in-Some-take_start.ensures.takes in
    subst (λ a. Parses g.I.Iterator.next_gives Atom IsAtom a c.f_string.result (at c.f_string.new.cursor))
    (c.in_default-take_if-2.ensures.takes.1 ∙ c.in_default-take_if.ensures.takes.1 ∙ c.in_default.ensures.takes.1)
    (into_taken _ _ _ v.1 (λ p. refl) (c.f_string.ensures.parses v.0))

pub returns-clause-parses : goal.returns-clause-parses
returns-clause-parses g c =
    atom_refused (sym c.at_leaf.ensures ∙ c.if-at_leaf.false) c.in_default.ensures.takes c.in_default-take_if.ensures.takes
    c.in_default-take_if-2.ensures.takes c.in_default-take_start.ensures.takes c.refusal.ensures
