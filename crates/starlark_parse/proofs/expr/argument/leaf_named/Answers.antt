use Rattle.std.proofs.Common.{refl, ap}
use Rattle.starlark_lexer.specs.declared.span.Pos.{Pos}
use Rattle.starlark_parse_cursor.proofs.Paths.{gives_exits}
use Rattle.starlark_parse.proofs.ExprLemmas.AddedLeaves.{leaf_is_token, taken_leaf, taken_named, taken_wants, taken_refused, taken_kept, taken_lies}
use Rattle.starlark_parse.proofs.expr.argument.leaf_named.Goals as goal

pub returns-in_default-clause-parses : goal.returns-in_default-clause-parses
returns-in_default-clause-parses g c = absurd (c.in_default.ensures.takes.1 (leaf_is_token _ c.requires.leaf))

pub returns-in_err-value-clause-parses : goal.returns-in_err-value-clause-parses
returns-in_err-value-clause-parses g c = absurd c.in_err-value.ensures

pub leaf_tree-requires : goal.leaf_tree-requires
leaf_tree-requires g c = taken_leaf c.in-Some.ensures.takes c.requires.leaf

pub returns-in_err-push_named_tree-clause-parses : goal.returns-in_err-push_named_tree-clause-parses
returns-in_err-push_named_tree-clause-parses g c = gives_exits _ _ _ _ _ _ c.from_residual-in_err-push_named_tree.ensures.1
    (taken_wants c.in-Some.ensures.takes c.requires.leaf)

pub returns-then-at_expression_end-clause-parses : goal.returns-then-at_expression_end-clause-parses
returns-then-at_expression_end-clause-parses g c =
    taken_named c.in-Some.ensures.takes c.requires.leaf c.args.name c.args.begin.byte c.args.arguments.now c.push_named_tree.new.self
    (ap (λ (p : Pos). p.byte) c.end.ensures) c.in_ok-value.ensures (cc) c.in_ok-push_named_tree.ensures

pub returns-in_err-atom-clause-parses : goal.returns-in_err-atom-clause-parses
returns-in_err-atom-clause-parses g c = gives_exits _ _ _ _ _ _ c.from_residual-in_err-atom.ensures.1
    (taken_refused c.in-Some.ensures.takes c.requires.leaf c.in_err-atom.ensures)

pub leaf_of-requires : goal.leaf_of-requires
leaf_of-requires g c = taken_leaf c.in-Some.ensures.takes c.requires.leaf

pub returns-clause-parses : goal.returns-clause-parses
returns-clause-parses g c = (taken_kept c.in-Some.ensures.takes c.requires.leaf c.in_ok-atom.atom c.in_ok-atom.ensures, refl, refl)

pub returns-clause-inside : goal.returns-clause-inside
returns-clause-inside g c = taken_lies c.in-Some.ensures.takes c.requires.leaf c.in_ok-atom.atom c.in_ok-atom.ensures
