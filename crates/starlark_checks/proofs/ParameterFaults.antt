-- What a list of parameters without fault keeps, and what refuses one with a fault.
use Rattle.std.proofs.Common.{◌≡◌, ℕ, ◌<◌, ◌^◌, ◌-◌, List as Seq, [], ◌∷◌, length, map, min, max, Option, Some, None, Err, refl, ap, sym, ◌∙◌, arith}
use Rattle.std.specs.Prelude.{nat_lt}
use Rattle.std.specs.List.{fold}
use Rattle.std.specs.Option.{option_or}
use Rattle.std.proofs.lemmas.Bool.Decides.{nat_tests}
use Rattle.starlark_lexer.specs.Spans.{least_begin, greatest_end}
use Rattle.starlark_lexer.specs.Tokens.{from_to, span_of}
use Rattle.starlark_lexer.specs.declared.span.Span.{Span as CodeSpan}
use Rattle.starlark_lexer.specs.declared.span.Spanned.{Spanned}
use Rattle.starlark_tree.specs.Ast as t
use Rattle.starlark_tree.specs.Ast.{Payloads, Parameter}
use Rattle.starlark_tree.specs.Views.{parameter_of}
use Rattle.starlark_tree.specs.Signatures.{merge_all}
use Rattle.starlark_tree.specs.declared.ast.ParameterP.{ParameterP}
use Rattle.starlark_checks.specs.Walks.Parameters.{fault_of}
use Rattle.starlark_checks.specs.declared.def.ParamsFault.{ParamsFault}
use Rattle.std.proofs.lemmas.List.{length-map}
use Rattle.std.specs.Prelude.{option_map}
use Rattle.starlark_spec.specs.Faults.{Fault}
use Rattle.starlark_checks.specs.Faults.{first_fault, unless_fault}
use Rattle.starlark_checks.specs.Parameters.{checked, entry_fault, misdeclared, params_fault, slash_first, star_fault, too_many, whole}
use Rattle.starlark_spec.specs.declared.error.ParamsError.TheVariants as rule
use Rattle.starlark_checks.proofs.ParameterLemmas.{neither, unbroken}
use Rattle.starlark_checks.proofs.ParameterForms.{span_seen}

module _ {P : Payloads} (ps : Seq (Parameter P)) where
  module _ (none : params_fault ps ≡ None) where
    after_many : option_or (slash_first ps) (option_or (first_fault entry_fault [] ps) (star_fault ps)) ≡ None
    after_many = (neither (too_many ps) (option_or (slash_first ps) (option_or (first_fault entry_fault [] ps) (star_fault ps))) none).1

    pub entries_fit : first_fault entry_fault [] ps ≡ None
    entries_fit = (neither (first_fault entry_fault [] ps) (star_fault ps)
        (neither (slash_first ps) (option_or (first_fault entry_fault [] ps) (star_fault ps)) after_many).1).0

    pub few : too_many ps ≡ None
    few = (neither (too_many ps) (option_or (slash_first ps) (option_or (first_fault entry_fault [] ps) (star_fault ps))) none).0

    pub fits : length ps < 2 ^ 32
    fits = let small = unbroken (nat_lt (2 ^ 32 - 1) (length ps)) (misdeclared rule.TooMany (whole ps)) few in grind (arith, nat_tests)

  pub refused_by : (f : Fault) → Some f ≡ params_fault ps → checked ps ≡ Err f
  refused_by f is = ap (λ o. unless_fault o ps) (sym is)

-- What is known of entries without a fault. The conclusion begins with the fact that it is drawn from, so that search finds it.
module _ {P A B C D E : Type 0} where
  pub known_none : (o : Option ParamsFault) (ps : Seq (Spanned (ParameterP P A B C D E)))
      → option_map fault_of o ≡ params_fault (map parameter_of ps) → o ≡ None
      → (option_map fault_of o ≡ params_fault (map parameter_of ps))
      × ((first_fault entry_fault [] (map parameter_of ps) ≡ None) × (length ps < 2 ^ 32))
  known_none o ps is none =
      let clear = sym is ∙ ap (option_map fault_of) none in
      let few = fits (map parameter_of ps) clear in
      let long = length-map ps parameter_of in
      (is, (entries_fit (map parameter_of ps) clear, omega (arith, few, long)))

stretches : (begin end : ℕ) (ss : Seq CodeSpan)
    → from_to (fold (λ least (s : CodeSpan). min least s.begin.byte) begin ss) (fold (λ greatest (s : CodeSpan). max greatest s.end.byte) end ss)
    ≡ merge_all (from_to begin end) (map span_of ss)
stretches begin end [] = refl
stretches begin end (s ∷ ss) = stretches (min begin s.begin.byte) (max end s.end.byte) ss

module _ {P A B C D E : Type 0} where
  abbrev pub entry_span : Spanned (ParameterP P A B C D E) → CodeSpan
  entry_span p = p.span

  spans : (ps : Seq (Spanned (ParameterP P A B C D E))) → map span_of (map (λ (p : Spanned (ParameterP P A B C D E)). p.span) ps) ≡ map t.parameter_span
      (map parameter_of ps)
  spans [] = refl
  spans (p ∷ ps) = ap (λ s. s ∷ map span_of (map (λ (p : Spanned (ParameterP P A B C D E)). p.span) ps)) (sym (span_seen (span_of p.span) p.node))
      ∙ ap (λ ss. t.parameter_span (parameter_of p) ∷ ss) (spans ps)

  pub whole_is : (ps : Seq (Spanned (ParameterP P A B C D E)))
      → from_to (least_begin (map (λ (p : Spanned (ParameterP P A B C D E)). p.span) ps))
      (greatest_end (map (λ (p : Spanned (ParameterP P A B C D E)). p.span) ps)) ≡ whole (map parameter_of ps)
  whole_is [] = refl
  whole_is (p ∷ ps) =
      stretches p.span.begin.byte p.span.end.byte (map (λ (p : Spanned (ParameterP P A B C D E)). p.span) ps)
      ∙ ap (λ s. merge_all s (map span_of (map (λ (p : Spanned (ParameterP P A B C D E)). p.span) ps))) (sym (span_seen (span_of p.span) p.node))
      ∙ ap (merge_all (t.parameter_span (parameter_of p))) (spans ps)
