use Rattle.std.proofs.Common.{ℕ, ◌≤◌, ◌-◌, ◌++◌, length, take, codes}
use Rattle.std.specs.Str.{IsCharBoundary}
use Rattle.starlark_lexer.specs.Tokens.{span_of}
use Rattle.starlark_source.specs.declared.page.Page.{Page}
use Rattle.std.specs.List.{flat_map}
use Rattle.starlark_source.specs.Pages.{Wrote, say}
use Rattle.starlark_source.specs.Drafted.{drafted_expr, drafted_argument, drafted_lambda_parameter, drafted_target, drafted_clause, drafted_filled}
use Rattle.starlark_source.specs.Drafted.{drafted_pair, drafted_rest}
use Rattle.starlark_source.proofs.expression.+write.Given as goal

abbrev pub invariant-write_exprs-loop-item : goal.invariant-write_exprs-loop-item
invariant-write_exprs-loop-item l = Wrote l.initial.page (flat_map (λ e. say (codes ", ") ++ drafted_expr e.node) (take l.item-index l.rest)) l.page

abbrev pub invariant-write_pairs-loop-item : goal.invariant-write_pairs-loop-item
invariant-write_pairs-loop-item l = Wrote l.initial.page (flat_map (λ p. say (codes ", ") ++ drafted_pair p) (take l.item-index l.rest)) l.page

abbrev pub invariant-write_arguments-loop-item : goal.invariant-write_arguments-loop-item
invariant-write_arguments-loop-item l = Wrote l.initial.page (flat_map (λ a. say (codes ", ") ++ drafted_argument a.node) (take l.item-index l.rest)) l.page

abbrev pub invariant-write_lambda_parameters-loop-item : goal.invariant-write_lambda_parameters-loop-item
invariant-write_lambda_parameters-loop-item l =
    Wrote l.initial.page (flat_map (λ p. say (codes ", ") ++ drafted_lambda_parameter p.node) (take l.item-index l.rest)) l.page

abbrev pub invariant-write_targets-loop-item : goal.invariant-write_targets-loop-item
invariant-write_targets-loop-item l = Wrote l.initial.page (flat_map (λ x. say (codes ", ") ++ drafted_target x.node) (take l.item-index l.rest)) l.page

abbrev pub invariant-write_clauses-loop-item : goal.invariant-write_clauses-loop-item
invariant-write_clauses-loop-item l = Wrote l.initial.page (flat_map drafted_clause (take l.item-index l.items)) l.page

abbrev pub invariant-write_filled-marks : goal.invariant-write_filled-marks
invariant-write_filled-marks l =
    (l.start ≤ l.at) × (l.at ≤ length l.format) × (l.used ≤ l.at) × IsCharBoundary l.format l.start
    × ((q : Page) → Wrote l.page (drafted_rest (span_of l.span) l.format l.values l.start l.at l.used) q
    → Wrote l.initial.page (drafted_filled (span_of l.span) l.format l.values) q)

abbrev pub decreases-write_filled-marks : goal.decreases-write_filled-marks
decreases-write_filled-marks l = length l.format - l.at
