use Rattle.std.proofs.Common.{rules, ◌≡◌, ◌∙◌, ℕ, List, Option, ap, refl, string_bytes, subst, sym}
use Rattle.std.specs.Prelude.{IsErr}
use Rattle.std.specs.Io.KnownBytes.{Appends}
use Rattle.starlark_cli.proofs.ToolLemmas.Steps.{not_summed_up, step_all, step_closing, step_files, step_opening, step_some, summed_up}
use Rattle.starlark_cli.proofs.ToolLemmas.WholeRuns.{all_failed, some_none}
use Rattle.starlark_cli.specs.Tool.PrintedFiles.{summary_of}
use Rattle.starlark_cli.proofs.tool.run.run_all.Goals.{then-is_summed_up+in_ok-text+in_ok-put-3, else-is_summed_up}
use Rattle.starlark_cli.proofs.tool.run.run_all.Goals as goal

pub returns-in_err-found : goal.returns-in_err-found
returns-in_err-found g c =
    let failed : IsErr c.from_residual.result = search rules in
    all_failed c.args.request.now _ _ _ _ _ _ failed (some_none c.args.request.now _ _)

pub returns-in_err-put : goal.returns-in_err-put
returns-in_err-put g c =
    let failed : IsErr c.from_residual-in_err-put.result = search rules in
    let paths : c.deref.result.now ≡ c.args.request.now.paths.items = search rules in
    all_failed c.args.request.now _ _ _ _ _ _ failed
    (step_opening c.args.request.now _ c.deref.result.now c.in_ok-found.found.items c.in_ok-found.found.items c.opening_of.result.now paths
    c.in_ok-found.ensures refl c.opening_of.ensures _ _ c.in_err-put.ensures)

pub returns-in_err-tally : goal.returns-in_err-tally
returns-in_err-tally g c =
    let failed : IsErr c.from_residual-in_err-tally.result = search rules in
    let paths : c.deref.result.now ≡ c.args.request.now.paths.items = search rules in
    let same : c.deref-2.result.now ≡ c.in_ok-found.found.items = search rules in
    all_failed c.args.request.now _ _ _ _ _ _ failed
    (step_files c.args.request.now _ c.deref.result.now c.in_ok-found.found.items c.deref-2.result.now c.opening_of.result.now paths
    c.in_ok-found.ensures same c.opening_of.ensures _ _ c.in_ok-put.ensures _ c.in_err-tally.ensures)

pub returns-in_err-put-2 : goal.returns-in_err-put-2
returns-in_err-put-2 g c =
    let failed : IsErr c.from_residual-in_err-put-2.result = search rules in
    let paths : c.deref.result.now ≡ c.args.request.now.paths.items = search rules in
    let same : c.deref-2.result.now ≡ c.in_ok-found.found.items = search rules in
    all_failed c.args.request.now _ _ _ _ _ _ failed
    (step_closing c.args.request.now _ c.deref.result.now c.in_ok-found.found.items c.deref-2.result.now c.opening_of.result.now paths
    c.in_ok-found.ensures same c.opening_of.ensures _ _ c.in_ok-put.ensures _ _ _ c.in_ok-tally.ensures.0 c.in_ok-tally.tally c.in_ok-tally.ensures.1
    c.closing_of.result.now c.closing_of.ensures _ c.in_err-put-2.ensures)

pub returns-then-is_err : goal.returns-then-is_err
returns-then-is_err g c =
    let paths : c.deref.result.now ≡ c.args.request.now.paths.items = search rules in
    let same : c.deref-2.result.now ≡ c.in_ok-found.found.items = search rules in
    step_some c.args.request.now _ c.deref.result.now c.in_ok-found.found.items c.deref-2.result.now c.opening_of.result.now paths
    c.in_ok-found.ensures same c.opening_of.ensures _ _ c.in_ok-put.ensures _ _ _ c.in_ok-tally.ensures.0 c.in_ok-tally.tally c.in_ok-tally.ensures.1
    c.closing_of.result.now c.closing_of.ensures _ c.in_ok-put-2.ensures _ c.flush.ensures.bytes

pub returns-in_err-text : goal.returns-in_err-text
returns-in_err-text g c =
    let failed : IsErr c.from_residual-in_err-text.result = search rules in
    let paths : c.deref.result.now ≡ c.args.request.now.paths.items = search rules in
    let same : c.deref-2.result.now ≡ c.in_ok-found.found.items = search rules in
    all_failed c.args.request.now _ _ _ _ _ _ failed
    (step_some c.args.request.now _ c.deref.result.now c.in_ok-found.found.items c.deref-2.result.now c.opening_of.result.now paths
    c.in_ok-found.ensures same c.opening_of.ensures _ _ c.in_ok-put.ensures _ _ _ c.in_ok-tally.ensures.0 c.in_ok-tally.tally c.in_ok-tally.ensures.1
    c.closing_of.result.now c.closing_of.ensures _ c.in_ok-put-2.ensures _ c.flush.ensures.bytes)

pub returns-in_err-put-3 : goal.returns-in_err-put-3
returns-in_err-put-3 g c =
    let failed : IsErr c.from_residual-in_err-put-3.result = search rules in
    let paths : c.deref.result.now ≡ c.args.request.now.paths.items = search rules in
    let same : c.deref-2.result.now ≡ c.in_ok-found.found.items = search rules in
    all_failed c.args.request.now _ _ _ _ _ _ failed
    (step_some c.args.request.now _ c.deref.result.now c.in_ok-found.found.items c.deref-2.result.now c.opening_of.result.now paths
    c.in_ok-found.ensures same c.opening_of.ensures _ _ c.in_ok-put.ensures _ _ _ c.in_ok-tally.ensures.0 c.in_ok-tally.tally c.in_ok-tally.ensures.1
    c.closing_of.result.now c.closing_of.ensures _ c.in_ok-put-2.ensures _ c.flush.ensures.bytes)

pub returns : goal.returns
returns g c =
    let paths : c.deref.result.now ≡ c.args.request.now.paths.items = search rules in
    let same : c.deref-2.result.now ≡ c.in_ok-found.found.items = search rules in
    let request = c.args.request.now in
    let tally = c.in_ok-tally.tally in
    let printed = g.E.Write.contents c.print_files.new.err in
    let summary : Appends printed (g.E.Write.contents c.if-is_summed_up.err) (summary_of request tally) = elim c.if-is_summed_up.branch [
      | then-is_summed_up+in_ok-text+in_ok-put-3 w ↦
          let text : w.deref-then-is_summed_up.result.now ≡ string_bytes w.in_ok-text.text = search rules in
          subst (λ (e : Option (List ℕ)). Appends printed e (summary_of request tally)) (sym (ap (λ e. g.E.Write.contents e) w.err-is))
          (summed_up request tally c.is_summed_up.result w.deref-then-is_summed_up.result.now _ _ c.is_summed_up.ensures w.if-is_summed_up.true
          (text ∙ w.in_ok-text.ensures) w.in_ok-put-3.ensures)
      | else-is_summed_up w ↦
          subst (λ (e : Option (List ℕ)). Appends printed e (summary_of request tally)) (sym (ap (λ e. g.E.Write.contents e) w.err-is))
          (not_summed_up request tally c.is_summed_up.result printed c.is_summed_up.ensures w.if-is_summed_up.false)
    ] in
    step_all c.args.request.now _ c.deref.result.now c.in_ok-found.found.items c.deref-2.result.now c.opening_of.result.now paths
    c.in_ok-found.ensures same c.opening_of.ensures _ _ c.in_ok-put.ensures _ _ _ c.in_ok-tally.ensures.0 c.in_ok-tally.tally c.in_ok-tally.ensures.1
    c.closing_of.result.now c.closing_of.ensures _ c.in_ok-put-2.ensures _ c.flush.ensures.bytes _ summary
