use Rattle.std.proofs.Common.{◌++◌, take, drop, Ok, Err, sym, ap, ◌∙◌, rules, arith, append_assoc, append-nil}
use Rattle.std.proofs.lemmas.Bool.{and_parts}
use Rattle.std.proofs.lemmas.List.{drop-drop}
use Rattle.std.proofs.Math.Seq.{take-add}
use Rattle.starlark_lexer.specs.Pieces.{added}
use Rattle.starlark_lexer.specs.Strings.{run}
use Rattle.starlark_lexer.proofs.StringRuns.{run_turn, run_fits}
use Rattle.starlark_lexer.proofs.StringStops.{run_there}
use Rattle.starlark_lexer.proofs.string.scan.Goals as goal

pub pieces-preserved : goal.pieces-preserved
pieces-preserved c =
    let style = c.args.style in
    let turn = run_turn style c.pieces.left.now (Ok c.in-Ok.found) c.pieces.invariant.0 c.requires (sym c.in-Ok.ensures) in
    let more = rw (← c.after_piece-left.ensures.rest) at turn in
    let len = ap (λ r. r.len) more in
    let before = c.pieces.invariant.2 in
    let text = c.args.rest.now in
    let left = c.pieces.left.now in
    let n = c.pieces.len in
    let p = c.in-Ok.found in
    let after = (run style c.after_piece-left.result.now).value in
    let place = c.pieces.invariant.4 in (
      search rules,
      omega (arith, c.pieces.invariant.1, c.after_piece-left.ensures.len),
      omega (arith, len, before),
      c.pieces.invariant.3 ∙ ap (λ r. r.stop) more,
      c.after_piece-left.ensures.rest ∙ ap (λ t. drop p.len t) place ∙ drop-drop p.len n text,
      λ on.
          let parts = and_parts c.pieces.verbatim c.is_verbatim-verbatim.result on in
          let value = ap (λ r. r.value) more ∙ ap (λ a. added style.bytes left a ++ after) (c.is_verbatim-verbatim.ensures parts.1) in
          c.pieces.invariant.5 parts.0 ∙ ap (λ v. take n text ++ v) value ∙ sym (append_assoc (take n text) (take p.len left) after)
          ∙ ap (λ t. t ++ after) (ap (λ t. take n text ++ take p.len t) place ∙ sym (take-add n p.len text)),
    )

pub returns-in-Err-clause-len : goal.returns-in-Err-clause-len
returns-in-Err-clause-len c =
    let turn = run_turn c.args.style c.pieces.left.now (Err c.in-Err.stop) c.pieces.invariant.0 c.requires (sym c.in-Err.ensures) in
    let none = ap (λ r. r.len) turn in
    let before = c.pieces.invariant.2 in
    omega arith

pub returns-in-Err-clause-stop : goal.returns-in-Err-clause-stop
returns-in-Err-clause-stop c =
    let turn = run_turn c.args.style c.pieces.left.now (Err c.in-Err.stop) c.pieces.invariant.0 c.requires (sym c.in-Err.ensures) in
    sym (c.pieces.invariant.3 ∙ ap (λ r. r.stop) turn)

pub returns-in-Err-clause-verbatim : goal.returns-in-Err-clause-verbatim
returns-in-Err-clause-verbatim c on =
    let front = take c.pieces.len c.args.rest.now in
    let turn = run_turn c.args.style c.pieces.left.now (Err c.in-Err.stop) c.pieces.invariant.0 c.requires (sym c.in-Err.ensures) in
    c.pieces.invariant.5 on ∙ ap (λ v. front ++ v) (ap (λ r. r.value) turn) ∙ append-nil front

pub returns-in-Err-clause-begin : goal.returns-in-Err-clause-begin
returns-in-Err-clause-begin c = rw (returns-in-Err-clause-len c) (run_fits c.args.style c.args.rest.now c.utf8.rest c.requires).begin

pub returns-in-Err-clause-end : goal.returns-in-Err-clause-end
returns-in-Err-clause-end c =
    rw (returns-in-Err-clause-len c, returns-in-Err-clause-stop c) (run_fits c.args.style c.args.rest.now c.utf8.rest c.requires).end

pub returns-in-Err-clause-there : goal.returns-in-Err-clause-there
returns-in-Err-clause-there c = rw (returns-in-Err-clause-len c, returns-in-Err-clause-stop c) (run_there c.args.style c.args.rest.now c.utf8.rest c.requires)
