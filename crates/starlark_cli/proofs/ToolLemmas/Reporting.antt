-- What is printed of a text, from what is printed of its module or of what refuses it.
use Rattle.std.proofs.Common.{◌≡◌, ℕ, List, [], ◌∷◌, ◌++◌, append_assoc, append-nil, ap, subst, inl, inr, refl, sym, map, ◌∙◌}
use Rattle.std.proofs.Common.{Option, option_map, Result, Ok, Err, IfOk}
use mathlib.Core.Bool.{true≢false}
use Rattle.std.specs.Prelude.{◌≢◌, ◌↔◌, ◌+◌, ◌≤◌, ◌<◌, ◌^◌, Bool, IsTrue, false, get_or, length, suc, take, true, zero}
use Rattle.std.proofs.lemmas.List.{map_more}
use Rattle.starlark_checks.specs.Kinds.{Memory, TextTooLong}
use Rattle.starlark_checks.specs.Refusals.{Refusal, without_place, out_of_memory}
use Rattle.starlark_module.specs.Comments.Keeping.{comment_spans}
use Rattle.starlark_module.specs.Comments.Suppressions.{Suppression, suppressions}
use Rattle.starlark_module.specs.Modules.{IsRefused}
use Rattle.starlark_depth.specs.Limited.{limited}
use Rattle.starlark_diagnostics.specs.DiagnosticViews.{Diagnostic}
use Rattle.starlark_diagnostics.specs.declared.emit.Format.{Format}
use Rattle.starlark_lexer.specs.Lexemes.{lexemes}
use Rattle.starlark_lexer.specs.Places.{File}
use Rattle.starlark_lexer.specs.Tokens.{Span, Text}
use Rattle.starlark_spec.specs.Items.{items}
use Rattle.starlark_tree.specs.Ast.{Statement, no_payload}
use Rattle.starlark_validate.specs.Answers.{IsValidModule}
use Rattle.starlark_cli.specs.Tool.Modules.{IsRefusalOf, PrintsDiagnosed, PrintsModule, PrintsRefusal, PrintsRefusalIn, PrintsText, finding_of}
use Rattle.starlark_cli.specs.Tool.Writing.{WritesDiagnostic, WritesError, after, in_turn}
use Rattle.starlark_cli.specs.declared.tool.report.Finding.{Finding}
use Rattle.starlark_cli.specs.declared.tool.report.Finding.TheVariants.{Faulty}
use Rattle.starlark_cli.specs.declared.tool.report.Report.{Report}
use Rattle.starlark_cli.specs.declared.tool.task.Mode.{Mode}
use Rattle.starlark_cli.specs.declared.tool.task.Mode.TheVariants as modes
use Rattle.starlark_cli.specs.declared.tool.task.Task.{Task}
use Rattle.starlark_cli.specs.declared.tool.task.Turn.{Turn}

abbrev file : Text → Text → File
file path text = record { name = path; text = text }

pub of_module : (task : Task) (turn : Turn) (path text : Text) (own : File) (comments : List Span) (quiet : List Suppression) (s : Statement no_payload)
    (report : Report) → own ≡ file path text → comments ≡ comment_spans (lexemes text) → quiet ≡ suppressions text (lexemes text)
    → limited task.max_depth (lexemes text) ≡ lexemes text → IsValidModule task.dialect (items (lexemes text)) s
    → PrintsModule task turn own comments quiet s report → PrintsText task turn path text report
of_module task turn path text own comments quiet s report is_file is_comments is_quiet within tree printed =
    let here = subst (λ (f : File). PrintsModule task turn f comments quiet s report) is_file printed in
    let kept = subst (λ (l : List Span). PrintsModule task turn (file path text) l quiet s report) is_comments here in
    inl (record {
      within = within;
      statement = s;
      is_tree = tree;
      printed = subst (λ (q : List Suppression). PrintsModule task turn (file path text) (comment_spans (lexemes text)) q s report) is_quiet kept;
    })

pub of_refusal : (task : Task) (turn : Turn) (path text : Text) (e : Refusal) (report : Report)
    → (2 ^ 32 ≤ length text → e ≡ without_place TextTooLong)
    → (length text < 2 ^ 32 → IsRefused task.dialect (items (limited task.max_depth (lexemes text))) (file path text) e) → e ≢ out_of_memory
    → PrintsRefusal task turn path e report → PrintsText task turn path text report
of_refusal task turn path text e report long right memory printed = inr (record {
  refusal = e;
  refuses = record { too_long = long; rightly = right; has_memory = memory };
  printed = printed;
})

-- in a mode other than `json`
pub error_other : (mode : Mode) (format : Format) (follows : Bool) (path : Text) (f : Option File) (d : Diagnostic) (line : Text) (finding : Finding)
    (report : Report) → mode ≢ modes.Json → WritesDiagnostic mode format follows path f d finding report
    → WritesError mode format follows path f d line finding report
error_other modes.Check format follows path f d line finding report other h = h
error_other modes.Lint format follows path f d line finding report other h = h
error_other modes.Loads format follows path f d line finding report other h = h
error_other modes.Json format follows path f d line finding report other h = absurd (other refl)
error_other modes.Source format follows path f d line finding report other h = h
error_other modes.Print format follows path f d line finding report other h = h

pub refusal_other : (mode : Mode) (task : Task) (turn : Turn) (path : Text) (e : Refusal) (report : Report) → mode ≢ modes.Json
    → PrintsDiagnosed mode task turn path e report → PrintsRefusalIn mode task turn path e report
refusal_other modes.Check task turn path e report other h = h
refusal_other modes.Lint task turn path e report other h = h
refusal_other modes.Loads task turn path e report other h = h
refusal_other modes.Json task turn path e report other h = absurd (other refl)
refusal_other modes.Source task turn path e report other h = h
refusal_other modes.Print task turn path e report other h = h

pub error_json : (mode : Mode) (format : Format) (follows : Bool) (path : Text) (f : Option File) (d : Diagnostic) (line : Text) (finding : Finding)
    (report : Report) → mode ≡ modes.Json → WritesError modes.Json format follows path f d line finding report
    → WritesError mode format follows path f d line finding report
error_json mode format follows path f d line finding report same h =
    subst (λ (m : Mode). WritesError m format follows path f d line finding report) (sym same) h

pub refusal_json : (mode : Mode) (task : Task) (turn : Turn) (path : Text) (e : Refusal) (report : Report) → mode ≡ modes.Json
    → PrintsRefusalIn modes.Json task turn path e report → PrintsRefusalIn mode task turn path e report
refusal_json mode task turn path e report same h = subst (λ (m : Mode). PrintsRefusalIn m task turn path e report) (sym same) h

-- two facts on what a call gives
pub both_ok : {X E : Type 0} (r : Result X E) (P Q : X → Type 0) → IfOk r P → IfOk r Q → IfOk r (λ x. P x × Q x)
both_ok (Ok x) P Q p q = (p, q)
both_ok (Err e) P Q p q = tt

pub err_same : {X E : Type 0} (a b : E) → ◌≡◌ {A = Result X E} (Err a) (Err b) → a ≡ b
err_same a b same = cc

pub finding_some : (n : ℕ) → ¬ (n ≡ 0) → finding_of n ≡ Faulty
finding_some zero some = absurd (some refl)
finding_some (suc n) some = refl

-- whether there is a text before the next one
abbrev pub follows_after : Bool → List Text → Bool
follows_after follows [] = follows
follows_after follows (t ∷ ts) = follows_after true ts

-- one more text
pub in_turn_more : (between : Text) (follows : Bool) (texts : List Text) (text : Text)
    → in_turn between follows (texts ++ text ∷ []) ≡ in_turn between follows texts ++ after between (follows_after follows texts) text
in_turn_more between follows [] text = append-nil (after between follows text)
in_turn_more between follows (t ∷ ts) text =
    ap (λ l. after between follows t ++ l) (in_turn_more between true ts text)
    ∙ sym (append_assoc (after between follows t) (in_turn between true ts) (after between (follows_after true ts) text))

pub follows_more : (follows : Bool) (texts : List Text) (text : Text) → follows_after follows (texts ++ text ∷ []) ≡ true
follows_more follows [] text = refl
follows_more follows (t ∷ ts) text = follows_more true ts text

-- one more part of a list, each part written after the separator unless it is the first of all
pub texts_more : {X : Type 0} (f : X → Text) (between : Text) (follows now : Bool) (xs : List X) (i : ℕ) (x : X) (before own longer : Text)
    → i < length xs → x ≡ get_or xs i x
    → (before ≡ in_turn between follows (map f (take i xs))) × (now ≡ follows_after follows (map f (take i xs)))
    → own ≡ after between now (f x) → longer ≡ before ++ own
    → (longer ≡ in_turn between follows (map f (take (i + 1) xs))) × (true ≡ follows_after follows (map f (take (i + 1) xs)))
texts_more f between follows now xs i x before own longer within is invariant own_is added =
    let done : List Text = map f (take i xs) in
    let more : map f (take (i + 1) xs) ≡ done ++ f x ∷ [] = map_more f xs i x within ∙ ap (λ y. done ++ f y ∷ []) (sym is) in (
      added ∙ ap (λ b. b ++ own) invariant.0 ∙ ap (λ l. in_turn between follows done ++ l) (own_is ∙ ap (λ b. after between b (f x)) invariant.1)
          ∙ sym (in_turn_more between follows done (f x)) ∙ ap (in_turn between follows) (sym more),
      sym (follows_more follows done (f x)) ∙ ap (follows_after follows) (sym more),
    )

-- what holds of no result in particular
pub ok_always : {X E : Type 0} (r : Result X E) (P : Type 0) → P → IfOk r (λ _. P)
ok_always (Ok x) P p = p
ok_always (Err e) P p = tt

-- in a mode other than `json` a refusal is printed as its diagnostic
pub refusal_printed : (task : Task) (turn : Turn) (path : Text) (e : Refusal) (d : Diagnostic) (f : Option File) (report : Report)
    → task.mode ≢ modes.Json → IsRefusalOf task.dialect e d → f ≡ option_map (λ p. p.file) e.place
    → WritesDiagnostic task.mode task.format turn.follows path f d Faulty report → PrintsRefusal task turn path e report
refusal_printed task turn path e d f report other is_refusal file_is h = refusal_other task.mode task turn path e report other (record {
  diagnostic = d;
  is_refusal = is_refusal;
  writes = subst (λ (o : Option File). WritesDiagnostic task.mode task.format turn.follows path o d Faulty report) file_is h;
})

-- not out of memory
pub not_memory : (b : Bool) (e : Refusal) → IsTrue b ↔ (e.kind ≡ Memory) → b ≡ false → e ≢ out_of_memory
not_memory b e says unset same = true≢false (sym (says.1 (ap (λ (x : Refusal). x.kind) same)) ∙ unset)
