-- Answers made of other answers.
use Rattle.std.proofs.Common.{◌≡◌, Result, Ok, Err, ap, subst, sym, ◌∙◌}
use Rattle.std.specs.Result.{IsErrAnd}
use Rattle.starlark_lexer.specs.Places.{File}
use Rattle.starlark_checks.specs.Answers.{AnswersOutcome}
use Rattle.starlark_spec.specs.Faults.{Fault}
use Rattle.starlark_checks.specs.Faults.{RefusesOutcome}
use Rattle.starlark_checks.specs.Refusals.{Refusal}
use Rattle.starlark_spec.specs.Targets.{map_ok, both}
use Rattle.starlark_checks.proofs.RefusalLemmas.{refuses_made, refuses_same}

-- equal outcomes have the same answers
pub answers_same : {A X : Type 0} (file : File) (one other : Result A Fault) (seen : X → A) (r : Result X Refusal) → other ≡ one
    → AnswersOutcome file one seen r
    → AnswersOutcome file other seen r
answers_same file one other seen r same answers = subst (λ o. AnswersOutcome file o seen r) (sym same) answers

-- a refusal that is passed on
pub refused_alike : {A Y : Type 0} (file : File) (outcome : Result A Fault) (seen : Y → A) (e : Refusal) (whole : Result Y Refusal)
    → RefusesOutcome file outcome e → IsErrAnd whole (λ y. y ≡ e) → AnswersOutcome file outcome seen whole
refused_alike file outcome seen e (Ok y) refuses is = absurd is
refused_alike file outcome seen e (Err y) refuses is = record { ok = tt; err = subst (λ r. RefusesOutcome file outcome r) (sym is) refuses }

module _ {A B X Y : Type 0} (made : A → B) (seen : X → A) (seen_whole : Y → B) where
  pub answers_ok : (part : Result X Refusal) (x : X) (y : Y) → part ≡ Ok x → made (seen x) ≡ seen_whole y
      → (file : File) (outcome : Result A Fault) → AnswersOutcome file outcome seen part → AnswersOutcome file (map_ok made outcome) seen_whole (Ok y)
  answers_ok (Ok z) x y was same file outcome answers =
      let is : z ≡ x = cc in
      record { ok = ap (map_ok made) answers.ok ∙ ap (λ w. Ok (made (seen w))) is ∙ ap Ok same; err = tt }
  answers_ok (Err e) x y was same file outcome answers = absurd (cc)

  pub answers_err : (part : Result X Refusal) (e : Refusal) (whole : Result Y Refusal) → part ≡ Err e → IsErrAnd whole (λ y. y ≡ e)
      → (file : File) (outcome : Result A Fault) → AnswersOutcome file outcome seen part → AnswersOutcome file (map_ok made outcome) seen_whole whole
  answers_err (Ok x) e whole was is file outcome answers = absurd (cc)
  answers_err (Err d) e (Ok y) was is file outcome answers = absurd is
  answers_err (Err d) e (Err y) was is file outcome answers =
      let handed : y ≡ e = is in
      let same : d ≡ y = cc in
      record { ok = tt; err = subst (λ r. RefusesOutcome file (map_ok made outcome) r) same (refuses_made made answers.err) }

module _ {A B X Y : Type 0} (made : A → A → B) (seen : X → A) (seen_whole : Y → B) where
  pub first_err : (first second : Result X Refusal) (e : Refusal) (whole : Result Y Refusal) → first ≡ Err e → IsErrAnd whole (λ y. y ≡ e)
      → (file : File) (one other : Result A Fault) → AnswersOutcome file one seen first → AnswersOutcome file other seen second
      → AnswersOutcome file (both made one other) seen_whole whole
  first_err (Ok x) second e whole was is file one other answers more = absurd (cc)
  first_err (Err d) second e (Ok y) was is file one other answers more = absurd is
  first_err (Err d) second e (Err y) was is file one other answers more =
      let handed : y ≡ e = is in
      let same : d ≡ y = cc in
      record {
        ok = tt;
        err = subst (λ r. RefusesOutcome file (both made one other) r) same
            (refuses_same one (both made one other) (λ f names. ap (λ r. both made r other) names) answers.err);
      }

  pub second_err : (first second : Result X Refusal) (x : X) (e : Refusal) (whole : Result Y Refusal) → first ≡ Ok x → second ≡ Err e
      → IsErrAnd whole (λ y. y ≡ e)
      → (file : File) (one other : Result A Fault) → AnswersOutcome file one seen first → AnswersOutcome file other seen second
      → AnswersOutcome file (both made one other) seen_whole whole
  second_err (Err d) second x e whole fine was is file one other answers more = absurd (cc)
  second_err (Ok z) (Ok w) x e whole fine was is file one other answers more = absurd (cc)
  second_err (Ok z) (Err d) x e (Ok y) fine was is file one other answers more = absurd is
  second_err (Ok z) (Err d) x e (Err y) fine was is file one other answers more =
      let handed : y ≡ e = is in
      let same : d ≡ y = cc in
      record {
        ok = tt;
        err = subst (λ r. RefusesOutcome file (both made one other) r) same
            (refuses_same other (both made one other) (λ f names. ap (λ r. both made r other) answers.ok ∙ ap (both made (Ok (seen z))) names) more.err);
      }
