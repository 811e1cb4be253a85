-- What is printed by the steps of `run_all`.
use Rattle.std.proofs.Common.{◌≡◌, ◌∙◌, Bool, Bor, ℕ, List, [], Option, false, length, map, refl, subst, sym, true}
use Rattle.std.specs.Prelude.{codes, if◌then◌else◌, nat_lt}
use Rattle.std.specs.Io.KnownBytes.{Appends, Keeps}
use Rattle.starlark_lexer.specs.Tokens.{Text}
use Rattle.starlark_cli.proofs.ToolLemmas.PrintedFiles.{appends_none}
use Rattle.starlark_cli.proofs.ToolLemmas.WholeRuns.{some_all, some_closing, some_files, some_opening, prints_all}
use Rattle.starlark_cli.specs.Tool.Cuts.{IsCut}
use Rattle.starlark_cli.specs.Tool.Folders.{StandFor}
use Rattle.starlark_cli.specs.Tool.Tallies.{summary}
use Rattle.starlark_cli.specs.Tool.PrintedFiles.{PrintsAll, PrintsEach, PrintsFirst, PrintsSome, closing_of, is_summed_up, opening_of, summary_of}
use Rattle.starlark_cli.specs.declared.tool.folder.Found.{Found}
use Rattle.starlark_cli.specs.declared.tool.request.Request.{Request}
use Rattle.starlark_cli.specs.declared.tool.tally.Tally.{Tally}

-- what is printed by the steps, whose texts and files are those of the request
module _ (r : Request) (known : Option (List ℕ)) (paths : List (Bor Text)) (found files : List Found) (head : Text)
    (same_paths : paths ≡ r.paths.items) (stand : StandFor (map (λ p. p.now) paths) found) (same : files ≡ found) (opens : head ≡ opening_of r.task)
    (a b : Option (List ℕ)) where
  stands : StandFor (map (λ p. p.now) r.paths.items) found
  stands = subst (λ (l : List (Bor Text)). StandFor (map (λ p. p.now) l) found) same_paths stand

  pub step_opening : IsCut a b head → PrintsSome r known a b
  step_opening cut = some_opening r known found stands a b (subst (λ (t : Text). IsCut a b t) opens cut)

  module _ (opening : Appends a b head) (c : Option (List ℕ)) where
    opened : Appends a b (opening_of r.task)
    opened = subst (λ (t : Text). Appends a b t) opens opening

    pub step_files : PrintsFirst r (nat_lt 1 (length files)) files known b c → PrintsSome r known a c
    step_files first =
        some_files r known found stands a b c opened (subst (λ (l : List Found). PrintsFirst r (nat_lt 1 (length l)) l known b c) same first)

    module _ (e g left : Option (List ℕ)) (tally : Tally) (printed : PrintsEach r (nat_lt 1 (length files)) files known left b c e g tally) (foot : Text)
        (closes : foot ≡ closing_of r.task) (d : Option (List ℕ)) where
      each : PrintsEach r (nat_lt 1 (length found)) found known left b c e g tally
      each = subst (λ (l : List Found). PrintsEach r (nat_lt 1 (length l)) l known left b c e g tally) same printed

      pub step_closing : IsCut c d foot → PrintsSome r known a d
      step_closing cut =
          some_closing r known found stands left a b c d e g tally opened each (subst (λ (t : Text). IsCut c d t) closes cut)

      module _ (closing : Appends c d foot) (kept : Option (List ℕ)) (keeps : Keeps d kept) where
        closed : Appends c d (closing_of r.task)
        closed = subst (λ (t : Text). Appends c d t) closes closing

        pub step_some : PrintsSome r known a kept
        step_some = some_all r known found stands left a b c d kept e g tally opened each closed keeps

        pub step_all : (h : Option (List ℕ)) → Appends g h (summary_of r tally) → PrintsAll r known a kept e h tally.status
        step_all h summary = prints_all r known found stands left a b c d kept e g h tally opened each closed keeps summary

-- a text that is chosen or not
chosen : (b : Bool) (text : Text) → b ≡ true → (if b then text else codes "") ≡ text
chosen true text is = refl
chosen false text is = let bad : ⊥ = cc in absurd bad

not_chosen : (b : Bool) (text : Text) → b ≡ false → (if b then text else codes "") ≡ []
not_chosen true text is = let bad : ⊥ = cc in absurd bad
not_chosen false text is = refl

-- a summary that is written or not
pub summed_up : (r : Request) (tally : Tally) (is : Bool) (text : Text) (g h : Option (List ℕ)) → is ≡ is_summed_up r tally → is ≡ true
    → text ≡ summary tally → Appends g h text → Appends g h (summary_of r tally)
summed_up r tally is text g h same summed is_text written =
    subst (λ (t : Text). Appends g h t) (is_text ∙ sym (chosen (is_summed_up r tally) (summary tally) (sym same ∙ summed))) written

pub not_summed_up : (r : Request) (tally : Tally) (is : Bool) (g : Option (List ℕ)) → is ≡ is_summed_up r tally → is ≡ false
    → Appends g g (summary_of r tally)
not_summed_up r tally is g same summed =
    subst (λ (t : Text). Appends g g t) (sym (not_chosen (is_summed_up r tally) (summary tally) (sym same ∙ summed))) (appends_none g)
