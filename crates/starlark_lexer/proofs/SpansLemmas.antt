-- Merging the spans of an iterator.
use Rattle.std.proofs.Common.{◌≡◌, ℕ, List, Option, true, refl, sym, ap, ◌∙◌, subst}
use Rattle.std.proofs.iter.runs.Made.{run, to_end, took}
use Rattle.std.proofs.lemmas.Iterator.{YieldsList, items_from_drains}
use Rattle.std.proofs.lemmas.List.{map-id}
use Rattle.std.specs.Iterator.{Drains, DrainsIf, Yields}
use Rattle.std.specs.Iterator.Runs.{WholeRun}
use Rattle.starlark_lexer.specs.declared.span.Span.{Span}
use Rattle.starlark_lexer.specs.Spans.{least_begin, greatest_end}

-- what holds of the spans that an iterator returned holds of a whole run of it
pub whole_run_over : {S : Type 0} {steps : S → Option Span → S → Type 0} {s : S} (begin end : ℕ) (spans : List Span)
    → Drains steps s spans → begin ≡ least_begin spans → end ≡ greatest_end spans
    → WholeRun steps s (λ run. (begin ≡ least_begin run.items) × (end ≡ greatest_end run.items))
whole_run_over {S} {steps} {s} begin end spans drained least greatest =
    (run steps s spans true (to_end steps s spans drained), refl, refl, (least, greatest))

-- a whole run of an iterator that returns these spans is over them
pub whole_run-spans : {S : Type 0} {steps : S → Option Span → S → Type 0} {s : S} {spans : List Span} (begin end : ℕ)
    → WholeRun steps s (λ run. (begin ≡ least_begin run.items) × (end ≡ greatest_end run.items)) → YieldsList steps (λ span. span) s spans
    → (begin ≡ least_begin spans) × (end ≡ greatest_end spans)
whole_run-spans {S} {steps} {s} {spans} begin end (p, from, whole, (least, greatest)) chain =
    let t = took p in
    let drained : DrainsIf steps (Unit {0}) s p.items = (t.0, subst (λ k. Yields steps k p.items t.0) from t.1, λ _. t.2 whole) in
    let same : p.items ≡ spans = sym (map-id p.items) ∙ items_from_drains p.items drained chain in
    (least ∙ ap least_begin same, greatest ∙ ap greatest_end same)
