use Rattle.std.proofs.lemmas.List.{take_all}
use Rattle.starlark_checks.specs.Faults.{first_fault}
use Rattle.std.proofs.Common.{◌≡◌, ◌∙◌, ap, sym, cond, true, None, map, take, bytes_eq, string_bytes, []}
use Rattle.std.specs.List.{list_any}
use Rattle.std.specs.Prelude.{option_copied}
use Rattle.starlark_lexer.specs.Tokens.{span_of}
use Rattle.starlark_tree.specs.Views.{parameter_of}
use Rattle.starlark_checks.specs.Parameters.{has_name, misdeclared, repeated, entry_fault}
use Rattle.starlark_spec.specs.declared.error.ParamsError.TheVariants.{DuplicateName}
use Rattle.starlark_checks.proofs.Negations.{not_false, not_true}
use Rattle.starlark_checks.proofs.ParameterForms.{refused_here, none_more, twice, once, known_with, still_known, fault_here, before_more, never_repeated}
use Rattle.starlark_checks.proofs.def.entry_fault.Goals as goal
use Rattle.starlark_checks.proofs.def.entry_fault.Goals.{in-Some+in_ok-insert+else-not-branch, in_default}

pub returns-then-not-branch : goal.returns-then-not-branch
returns-then-not-branch g c =
    let at = c.loop-param in
    let before = map parameter_of (take at.param-index c.args.params.now) in
    let known : list_any (has_name (string_bytes c.in-Some.name.now.node.ident)) before ≡ true =
    ap (λ text. list_any (has_name text) before) (sym c.as_str.ensures.value) ∙ sym (at.invariant.known c.as_str.result)
    ∙ not_false _ (sym c.if-not-branch.true ∙ c.in_ok-insert.ensures.added) in
    sym (refused_here c.args.params.now at.param-index c.param-item.result c.loop-param-test.true c.param-item.is at.invariant.none
    (misdeclared DuplicateName (span_of c.param-item.result.span))
    (twice c.args.params.now at.param-index c.param-item.result c.loop-param-test.true c.param-item.is c.in-Some.name.now c.in-Some.ensures known))

pub returns-in-Some-misplaced : goal.returns-in-Some-misplaced
returns-in-Some-misplaced g c =
    let at = c.loop-param in
    let before = map parameter_of (take at.param-index c.args.params.now) in
    let new : repeated before (parameter_of c.param-item.result) ≡ None = elim c.match-ident.branch [
      | in-Some+in_ok-insert+else-not-branch w ↦
          once c.args.params.now at.param-index c.param-item.result c.loop-param-test.true c.param-item.is w.in-Some.name.now w.in-Some.ensures
          (ap (λ text. list_any (has_name text) before) (sym w.as_str.ensures.value) ∙ sym (at.invariant.known w.as_str.result)
          ∙ not_true _ (sym w.if-not-branch.false ∙ w.in_ok-insert.ensures.added))
      | in_default w ↦ never_repeated (span_of c.param-item.result.span) c.param-item.result.node (sym (ap option_copied w.in_default.is) ∙ c.ident.ensures)
          before
    ] in
    sym (refused_here c.args.params.now at.param-index c.param-item.result c.loop-param-test.true c.param-item.is at.invariant.none
    (misdeclared c.in-Some-misplaced.error (span_of c.param-item.result.span))
    (fault_here c.args.params.now at.param-index c.param-item.result c.loop-param-test.true c.param-item.is at.before at.invariant.before new
    ∙ sym c.in-Some-misplaced.ensures))

pub loop-param-preserved : goal.loop-param-preserved
loop-param-preserved g c =
    let at = c.loop-param in
    let before = map parameter_of (take at.param-index c.args.params.now) in
    elim c.match-ident.branch [
      | in-Some+in_ok-insert+else-not-branch w ↦
          let new = once c.args.params.now at.param-index c.param-item.result c.loop-param-test.true c.param-item.is w.in-Some.name.now w.in-Some.ensures
          (ap (λ text. list_any (has_name text) before) (sym w.as_str.ensures.value) ∙ sym (at.invariant.known w.as_str.result)
          ∙ not_true _ (sym w.if-not-branch.false ∙ w.in_ok-insert.ensures.added)) in
          record {
            known = λ q. rw w.names-is (w.in_ok-insert.ensures.updates.0 q
                ∙ ap (λ b. cond (bytes_eq w.as_str.result.now q.now) true b) (at.invariant.known q)
                ∙ ap (λ text. cond (bytes_eq text q.now) true (list_any (has_name q.now) before)) w.as_str.ensures.value
                ∙ sym (known_with c.args.params.now at.param-index c.param-item.result c.loop-param-test.true c.param-item.is w.in-Some.name.now
                w.in-Some.ensures q.now));
            before = c.with-before.ensures ∙ before_more c.args.params.now at.param-index c.param-item.result c.loop-param-test.true c.param-item.is at.before
                at.invariant.before;
            none = none_more c.args.params.now at.param-index c.param-item.result c.loop-param-test.true c.param-item.is at.invariant.none
                (fault_here c.args.params.now at.param-index c.param-item.result c.loop-param-test.true c.param-item.is at.before at.invariant.before new
                ∙ sym c.in_default-misplaced.ensures);
          }
      | in_default w ↦
          let unnamed = sym (ap option_copied w.in_default.is) ∙ c.ident.ensures in
          let new = never_repeated (span_of c.param-item.result.span) c.param-item.result.node unnamed before in
          record {
            known = λ q. rw w.names-is (at.invariant.known q
                ∙ sym (still_known c.args.params.now at.param-index c.param-item.result c.loop-param-test.true c.param-item.is unnamed q.now));
            before = c.with-before.ensures ∙ before_more c.args.params.now at.param-index c.param-item.result c.loop-param-test.true c.param-item.is at.before
                at.invariant.before;
            none = none_more c.args.params.now at.param-index c.param-item.result c.loop-param-test.true c.param-item.is at.invariant.none
                (fault_here c.args.params.now at.param-index c.param-item.result c.loop-param-test.true c.param-item.is at.before at.invariant.before new
                ∙ sym c.in_default-misplaced.ensures);
          }
    ]

pub returns : goal.returns
returns g c =
    sym (ap (λ es. first_fault entry_fault [] (map parameter_of es)) (sym (take_all c.loop-param.param-index c.args.params.now c.loop-param-test.false))
    ∙ c.loop-param.invariant.none)
