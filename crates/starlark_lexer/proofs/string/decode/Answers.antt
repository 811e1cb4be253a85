use Rattle.std.proofs.Common.{take, ◌++◌, string_bytes, Ok, Err, sym, ap, ◌∙◌, rules, append_assoc, append-nil}
use Rattle.starlark_lexer.specs.Pieces.{added}
use Rattle.starlark_lexer.specs.Strings.{run}
use Rattle.starlark_lexer.proofs.RawStrings.{run_raw}
use Rattle.starlark_lexer.proofs.StringRuns.{run_turn}
use Rattle.starlark_lexer.proofs.string.decode.Goals as goal

pub returns-in_default-clause-value : goal.returns-in_default-clause-value
returns-in_default-clause-value c =
    let stopped = sym c.next_piece.ensures ∙ c.in_default.is in
    let turn = run_turn c.args.style c.pieces.left.now (Err c.in_default.field-0) c.pieces.invariant.0 c.requires.quote stopped in
    let value = string_bytes c.pieces.value in
    sym (c.pieces.invariant.1 ∙ ap (λ more. value ++ more) (ap (λ r. r.value) turn) ∙ append-nil value)

pub returns-in_default-clause-raw : goal.returns-in_default-clause-raw
returns-in_default-clause-raw c verbatim =
    returns-in_default-clause-value c ∙ run_raw c.args.style c.args.rest.now c.utf8.rest c.requires.quote verbatim.raw verbatim.format
    ∙ ap (λ n. take n c.args.rest.now) (sym c.requires.len)

pub pieces-preserved : goal.pieces-preserved
pieces-preserved c =
    let style = c.args.style in
    let left = c.pieces.left.now in
    let adds = c.in-Ok.found.adds in
    let turn = run_turn style left (Ok c.in-Ok.found) c.pieces.invariant.0 c.requires.quote (sym c.in-Ok.ensures) in
    let more = rw (← c.after_piece-left.ensures.rest) at (ap (λ r. r.value) turn) in
    let value = string_bytes c.pieces.value in
    let after = (run style c.after_piece-left.result.now).value in
    let pushed = c.in_ok-push_piece.ensures ∙ ap (λ bytes. value ++ added bytes left adds) (sym c.requires.text) in (
      search rules,
      c.pieces.invariant.1 ∙ ap (λ t. value ++ t) more ∙ sym (append_assoc value (added style.bytes left adds) after) ∙ ap (λ t. t ++ after) (sym pushed),
    )
