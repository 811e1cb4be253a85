use denote.Builtin.{unit}
use denote.Enum.Declared.{Record}
use Rattle.std.proofs.Common.{◌≡◌, ◌<◌, length, map, sym, ap, ◌∙◌, arith}
use Rattle.std.specs.Vec.{with_items}
use Rattle.starlark_lexer.specs.Tokens.{span_of}
use Rattle.starlark_tree.specs.Inside.{target_inside}
use Rattle.starlark_tree.specs.Views.{target_of, target_seen}
use Rattle.starlark_tree.specs.contracts.ast.AssignTargetP.{enum}
use Rattle.starlark_tree.specs.contracts.ast.payload.AstNoPayload as no_payload
use Rattle.starlark_tree.specs.declared.ast.AssignTargetP as targets
use Rattle.starlark_passes.specs.Replace.Parts.{Replaces, a_target}
use Rattle.starlark_passes.specs.Replace.Replacing.{table_of}
use Rattle.starlark_passes.proofs.ReplaceLemmas.Entered.{at_next, at_same}
use Rattle.starlark_passes.proofs.ReplaceLemmas.Loops.{none_yet, one_more, stops_at, all_done}
use Rattle.starlark_passes.proofs.ReplaceLemmas.Nodes.{target_tuple_old, target_tuple_new}
use Rattle.starlark_passes.proofs.ReplaceLemmas.PartLaws.{target_law}
use Rattle.starlark_passes.proofs.ReplaceLemmas.Shapes.{seen_as, in_target_tuple, inside_targets}
use Rattle.starlark_passes.proofs.ReplaceLemmas.TargetSizes.{item_falls, list_falls}
use Rattle.starlark_tree.proofs.LentParts.{left_in}
use Rattle.starlark_passes.proofs.replace.rules.Rules.+target.Goals as goal

abbrev code : Record
code = enum no_payload.the_row unit unit unit unit unit

pub targets-loop-target-init : goal.targets-loop-target-init
targets-loop-target-init g t c = none_yet (target_law (table_of c.args.self.now.replacements.now)) target_of c.args.targets.now

pub targets-target-requires : goal.targets-target-requires
targets-target-requires g t c κs within = (
  item_falls (target_law (table_of c.args.self.now.replacements.now)) target_of c.args.targets.now c.loop-target.target-index c.loop-target.targets
      c.target-item.result t (omega arith) c.loop-target.invariant c.decreases,
  (
    within,
    at_next (target_law (table_of c.args.self.now.replacements.now)) target_of c.args.targets.now c.loop-target.target-index c.loop-target.targets
        c.target-item.result (omega arith) c.loop-target.invariant c.requires,
  ),
)

pub targets-returns-in_err-target : goal.targets-returns-in_err-target
targets-returns-in_err-target g t c = stops_at (target_law (table_of c.args.self.now.replacements.now)) target_of c.args.targets.now
    c.loop-target.target-index c.loop-target.targets c.target-item.result c.target.new.target c.from_residual.result c.from_residual.ensures.0
    (omega arith) c.loop-target.invariant c.in_err-target.ensures

pub targets-loop-target-preserved : goal.targets-loop-target-preserved
targets-loop-target-preserved g t c = one_more (target_law (table_of c.args.self.now.replacements.now)) target_of c.args.targets.now
    c.loop-target.target-index c.loop-target.targets c.target-item.result c.target.new.target c.in_ok-target.field-0 (omega arith) c.loop-target.invariant
    c.in_ok-target.ensures

pub targets-returns : goal.targets-returns
targets-returns g t c = all_done (target_law (table_of c.args.self.now.replacements.now)) target_of c.args.targets.now c.loop-target.target-index
    c.loop-target.targets tt (omega arith) c.loop-target.invariant

pub target-targets-requires : goal.target-targets-requires
target-targets-requires g t c κs within = (
  list_falls _ _ _ t (target_tuple_old (span_of c.args.target.now.span) c.args.target.now.node c.in-Tuple.parts _ c.deref_mut.result.now c.in-Tuple.is
      c.deref_mut.ensures.value c.in-Tuple.parts-is) c.decreases,
  (
    within,
    at_same (sym (ap target_inside (target_tuple_old (span_of c.args.target.now.span) c.args.target.now.node c.in-Tuple.parts _ c.deref_mut.result.now
        c.in-Tuple.is c.deref_mut.ensures.value c.in-Tuple.parts-is) ∙ inside_targets (map target_of c.deref_mut.result.now))) c.requires,
  ),
)

pub target-returns-in-Tuple : goal.target-returns-in-Tuple
target-returns-in-Tuple g t c =
    let e = ap length (c.deref_mut.ensures.value ∙ ap (λ u. u.items) c.in-Tuple.parts-is) in
    let kept : length c.targets.new.targets ≡ length c.in-Tuple.parts.items = omega (arith, e, c.targets.auto.targets) in
    left_in code 0 (λ v y. targets.Tuple y) (λ v. v.0) (λ b. with_items b c.targets.new.targets)
    (λ e. Replaces (table_of c.args.self.now.replacements.now) (a_target (table_of c.args.self.now.replacements.now)) c.targets.result
    (target_of c.args.target.now) (target_seen (span_of c.args.target.now.span) e)) c.args.target.now.node (c.in-Tuple.parts, tt) c.in-Tuple.is
    (seen_as (target_tuple_old (span_of c.args.target.now.span) c.args.target.now.node c.in-Tuple.parts _ c.deref_mut.result.now c.in-Tuple.is
    c.deref_mut.ensures.value c.in-Tuple.parts-is) (target_tuple_new (span_of c.args.target.now.span) c.in-Tuple.parts c.targets.new.targets kept)
    (in_target_tuple (span_of c.args.target.now.span) c.targets.ensures))
