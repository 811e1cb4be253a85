use Rattle.std.proofs.Common.{◌++◌, take, codes}
use Rattle.std.specs.List.{flat_map}
use Rattle.std.specs.Fmt.{HasWritten, IsPlainFormatter}
use Rattle.starlark_tree.specs.Printed.{printed_expr, printed_argument, printed_parameter, printed_target, printed_clause}
use Rattle.starlark_tree.proofs.display.expression.+write.Given as goal

abbrev pub invariant-write_exprs-loop-item : goal.invariant-write_exprs-loop-item
invariant-write_exprs-loop-item g l =
    IsPlainFormatter l.initial.f → HasWritten g.W.Write.write_str_gives l.initial.f
    (flat_map (λ e. codes ", " ++ printed_expr e.node) (take l.item-index l.rest)) l.f

abbrev pub invariant-write_pairs-loop-item : goal.invariant-write_pairs-loop-item
invariant-write_pairs-loop-item g l =
    IsPlainFormatter l.initial.f → HasWritten g.W.Write.write_str_gives l.initial.f
    (flat_map (λ pair. codes ", " ++ (printed_expr pair.0.node ++ codes ": " ++ printed_expr pair.1.node)) (take l.item-index l.rest)) l.f

abbrev pub invariant-write_arguments-loop-item : goal.invariant-write_arguments-loop-item
invariant-write_arguments-loop-item g l =
    IsPlainFormatter l.initial.f → HasWritten g.W.Write.write_str_gives l.initial.f (flat_map (λ a. codes ", " ++ printed_argument a.node)
    (take l.item-index l.rest)) l.f

abbrev pub invariant-write_parameters-loop-item : goal.invariant-write_parameters-loop-item
invariant-write_parameters-loop-item g l =
    IsPlainFormatter l.initial.f → HasWritten g.W.Write.write_str_gives l.initial.f (flat_map (λ p. codes ", " ++ printed_parameter p.node)
    (take l.item-index l.rest)) l.f

abbrev pub invariant-write_targets-loop-item : goal.invariant-write_targets-loop-item
invariant-write_targets-loop-item g l =
    IsPlainFormatter l.initial.f → HasWritten g.W.Write.write_str_gives l.initial.f
    (flat_map (λ x. codes ", " ++ printed_target x.node) (take l.item-index l.rest)) l.f

abbrev pub invariant-write_clauses-loop-item : goal.invariant-write_clauses-loop-item
invariant-write_clauses-loop-item g l =
    IsPlainFormatter l.initial.f → HasWritten g.W.Write.write_str_gives l.initial.f (flat_map printed_clause (take l.item-index l.items)) l.f
