use Rattle.std.proofs.lemmas.List.{take_all}
use Rattle.starlark_checks.specs.Faults.{first_fault}
use Rattle.std.proofs.Common.{◌≡◌, ◌∙◌, ap, sym, cond, true, false, map, take, bytes_eq, string_bytes, []}
use Rattle.std.specs.List.{list_any}
use Rattle.starlark_lexer.specs.Tokens.{span_of}
use Rattle.starlark_tree.specs.Views.{argument_of}
use Rattle.starlark_checks.specs.Calls.{has_name, repeated}
use Rattle.starlark_checks.proofs.NameLemmas.{twice, once, known_with, still_none, still_known, no_name, never_repeated}
use Rattle.starlark_checks.proofs.Negations.{not_false, not_true}
use Rattle.starlark_checks.proofs.call.repeated_name.Goals as goal
use Rattle.starlark_checks.proofs.call.repeated_name.Goals.{in-Named+in_ok-insert+else-not-branch, in_default}

pub returns-then-not-branch : goal.returns-then-not-branch
returns-then-not-branch g c =
    let at = c.loop-argument in
    let before = map argument_of (take at.argument-index c.args.args.now) in
    let known : list_any (has_name (string_bytes c.in-Named.name.node)) before ≡ true =
    ap (λ text. list_any (has_name text) before) (sym c.as_str.ensures.value) ∙ sym (at.invariant.known c.as_str.result)
    ∙ not_false _ (sym c.if-not-branch.true ∙ c.in_ok-insert.ensures.added) in
    sym (twice c.args.args.now at.argument-index c.argument-item.result c.loop-argument-test.true c.argument-item.is c.in-Named.name c.in-Named.field-1
    c.in-Named.is at.invariant.none known)

pub loop-argument-preserved : goal.loop-argument-preserved
loop-argument-preserved g c =
    let at = c.loop-argument in
    let before = map argument_of (take at.argument-index c.args.args.now) in
    elim c.match-argument.branch [
      | in-Named+in_ok-insert+else-not-branch w ↦
          let new : list_any (has_name (string_bytes w.in-Named.name.node)) before ≡ false =
          ap (λ text. list_any (has_name text) before) (sym w.as_str.ensures.value) ∙ sym (at.invariant.known w.as_str.result)
          ∙ not_true _ (sym w.if-not-branch.false ∙ w.in_ok-insert.ensures.added) in
          record {
            known = λ q. rw w.names-is (w.in_ok-insert.ensures.updates.0 q
                ∙ ap (λ b. cond (bytes_eq w.as_str.result.now q.now) true b) (at.invariant.known q)
                ∙ ap (λ text. cond (bytes_eq text q.now) true (list_any (has_name q.now) before)) w.as_str.ensures.value
                ∙ sym (known_with c.args.args.now at.argument-index c.argument-item.result c.loop-argument-test.true c.argument-item.is w.in-Named.name
                w.in-Named.field-1 w.in-Named.is q.now));
            none = once c.args.args.now at.argument-index c.argument-item.result c.loop-argument-test.true c.argument-item.is w.in-Named.name
                w.in-Named.field-1 w.in-Named.is at.invariant.none new;
          }
      | in_default w ↦
          let unnamed = no_name (span_of c.argument-item.result.span) c.argument-item.result.node w.in_default.not-Named in
          let fits = never_repeated (span_of c.argument-item.result.span) c.argument-item.result.node w.in_default.not-Named before in
          record {
            known = λ q. rw w.names-is (at.invariant.known q
                ∙ sym (still_known c.args.args.now at.argument-index c.argument-item.result c.loop-argument-test.true c.argument-item.is unnamed fits q.now));
            none = still_none c.args.args.now at.argument-index c.argument-item.result c.loop-argument-test.true c.argument-item.is unnamed fits
                at.invariant.none;
          }
    ]

pub returns : goal.returns
returns g c =
    sym (ap (λ es. first_fault repeated [] (map argument_of es)) (sym (take_all c.loop-argument.argument-index c.args.args.now c.loop-argument-test.false))
    ∙ c.loop-argument.invariant.none)
