-- The source of a valid module parses as that module, and a parsed module has a source unless memory runs out.
use Rattle.std.proofs.Common.{◌≡◌, String, Global, Result, Ok, Err, refl, sym, ◌∙◌}
use Rattle.std.specs.Prelude.{IfOk, IfErr, string_bytes}
use Rattle.starlark_lexer.specs.Tokens.{Text, Span, span_of}
use Rattle.starlark_tree.specs.Ast.{no_payload, Statement}
use Rattle.starlark_spec.proofs.KeptByNodes.{rules_are_kept_by_nodes}
use Rattle.starlark_validate.proofs.AnswerCorrectness.{same_faults}
use Rattle.starlark_source.specs.declared.error.SourceError.{SourceError}
use Rattle.starlark_source.specs.declared.error.SourceError.TheVariants as errors
use Rattle.starlark_source.specs.Lines.{FaultIs, source_of}
use Rattle.starlark_source.specs.Parsed.{ParsesBack, IsParsed}
use Rattle.starlark_source.proofs.RoundTrip.Modules.{parses_as, has_source}

pub parses_back : (m : Statement no_payload) (r : Result (String Global) SourceError) → IfOk r (λ text. source_of m ≡ Ok (string_bytes text))
    → IfOk r (λ text. ParsesBack (string_bytes text) m)
parses_back m (Ok text) is = λ dialect its valid. parses_as rules_are_kept_by_nodes same_faults dialect its m valid (string_bytes text) is
parses_back m (Err e) is = tt

no_fault : {A : Type 0} (text : Text) (s : Span) → ◌≡◌ {A = Result Text Span} (Ok text) (Err s) → A
no_fault text s e = absurd (cc)

pub only_memory : (m : Statement no_payload) (r : Result (String Global) SourceError) → IfErr r (FaultIs (source_of m)) → IsParsed m
    → IfErr r (λ e. e ≡ errors.Memory)
only_memory m (Ok text) h parsed = tt
only_memory m (Err (errors.NotSource s)) h parsed =
    let has = has_source rules_are_kept_by_nodes same_faults parsed.dialect parsed.text m parsed.utf8 parsed.short parsed.valid in
    no_fault has.0 (span_of s) (sym has.1 ∙ h)
only_memory m (Err errors.Memory) h parsed = refl
