-- The reader gives each module back.
use Rattle.std.proofs.Common.{◌≡◌, ℕ, List as Seq, [], ◌∷◌, Some, refl, ap, ◌∙◌}
use Rattle.std.specs.Prelude.{option_and_then}
use Rattle.std.specs.List.{AllByRecursion}
use Rattle.json.specs.Lex.{tokens}
use Rattle.json.specs.Tree.{json_tokens}
use Rattle.starlark_json.specs.Answers.{spans_json, module_json}
use Rattle.starlark_json.specs.Reading.{Module, ModuleFits, each_span, read_module, module_of_text}
use Rattle.starlark_lexer.specs.Tokens.{Span}
use Rattle.starlark_json.specs.Tree.Fitting.{SpanFits}
use Rattle.starlark_json.specs.Tree.Reading.{of_two, of_three}
use Rattle.starlark_json.proofs.TreeLemmas.ReadsBack.{span_back, statement_back}
use Rattle.starlark_json.proofs.TreeLemmas.ReadTexts.{value_back}

spans_back : (ss : Seq Span) → AllByRecursion SpanFits ss → each_span (spans_json ss) ≡ Some ss
spans_back [] fit = refl
spans_back (s ∷ ss) fit = λ i. of_two (λ x xs. x ∷ xs) (span_back s fit.0 i) (spans_back ss fit.1 i)

module_back : (m : Module) → ModuleFits m → read_module (module_json m.0 m.1 m.2) ≡ Some m
module_back m fits = λ i. of_three (λ n cs s. (n, cs, s)) (Some m.0) (spans_back m.1 fits.0 i) (statement_back m.2 fits.1 i)

pub module_text_back : (m : Module) (text : Seq ℕ) → tokens text ≡ json_tokens (module_json m.0 m.1 m.2) → ModuleFits m → module_of_text text ≡ Some m
module_text_back m text is fits = ap (option_and_then read_module) (value_back (module_json m.0 m.1 m.2) text is) ∙ module_back m fits
