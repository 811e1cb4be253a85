use Rattle.std.proofs.Common.{◌≡◌, ◌++◌, take}
use Rattle.std.specs.List.{flat_map}
use Rattle.starlark_json.specs.Tree.Tokens.{expression_tokens, pair_tokens, spanned_argument_tokens, spanned_parameter_tokens, clause_tokens}
use Rattle.starlark_json.specs.Tree.Tokens.{spanned_target_tokens}
use Rattle.starlark_json.proofs.tree.expression.+write.Given as goal

abbrev pub invariant-write_exprs-loop-item : goal.invariant-write_exprs-loop-item
invariant-write_exprs-loop-item l =
    (l.out.tokens ≡ l.initial.out.tokens ++ flat_map expression_tokens (take l.item-index l.items)) × (l.out.before ≡ l.initial.out.before)

abbrev pub invariant-write_entries-loop-pair : goal.invariant-write_entries-loop-pair
invariant-write_entries-loop-pair l =
    (l.out.tokens ≡ l.initial.out.tokens ++ flat_map pair_tokens (take l.pair-index l.pairs)) × (l.out.before ≡ l.initial.out.before)

abbrev pub invariant-write_arguments-loop-arg : goal.invariant-write_arguments-loop-arg
invariant-write_arguments-loop-arg l =
    (l.out.tokens ≡ l.initial.out.tokens ++ flat_map spanned_argument_tokens (take l.arg-index l.args)) × (l.out.before ≡ l.initial.out.before)

abbrev pub invariant-write_parameters-loop-param : goal.invariant-write_parameters-loop-param
invariant-write_parameters-loop-param l =
    (l.out.tokens ≡ l.initial.out.tokens ++ flat_map spanned_parameter_tokens (take l.param-index l.params)) × (l.out.before ≡ l.initial.out.before)

abbrev pub invariant-write_more_clauses-loop-clause : goal.invariant-write_more_clauses-loop-clause
invariant-write_more_clauses-loop-clause l =
    (l.out.tokens ≡ l.initial.out.tokens ++ flat_map clause_tokens (take l.clause-index l.clauses)) × (l.out.before ≡ l.initial.out.before)

abbrev pub invariant-write_target_items-loop-item : goal.invariant-write_target_items-loop-item
invariant-write_target_items-loop-item l =
    (l.out.tokens ≡ l.initial.out.tokens ++ flat_map spanned_target_tokens (take l.item-index l.items)) × (l.out.before ≡ l.initial.out.before)
