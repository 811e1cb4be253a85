-- The text of a module that fits is read as that module.
use Rattle.std.proofs.Common.{◌≡◌, List as Seq, [], ◌∷◌, Some, arith}
use Rattle.std.specs.List.{AllByRecursion}
use Rattle.json.specs.Print.{print}
use Rattle.json.specs.Tree.{json_tokens, HasNumbers, ItemsHaveNumbers}
use Rattle.json.proofs.Printed.Decimals.{IsNumber-decimal}
use Rattle.json.proofs.Printed.Tokens.{tokens-print}
use Rattle.json.proofs.Printed.Trees.{ArePrintable-json_tokens}
use Rattle.starlark_json.specs.Answers.{spans_json, module_json}
use Rattle.starlark_json.specs.Parsed.{EachModuleIsReadBack}
use Rattle.starlark_json.specs.Reading.{Module, ModuleFits, module_of_text}
use Rattle.starlark_lexer.specs.Lexemes.{lexemes}
use Rattle.starlark_lexer.specs.Tokens.{Span}
use Rattle.starlark_module.specs.Comments.Keeping.{comment_spans}
use Rattle.starlark_spec.specs.Items.{items}
use Rattle.starlark_json.specs.Tree.Fitting.{SpanFits}
use Rattle.starlark_json.proofs.Fits.Lexemes.{items_fit, comments_fit}
use Rattle.starlark_json.proofs.Fits.Modules.{valid_fits}
use Rattle.starlark_json.proofs.Fits.Numbers.{span_numbers, statement_numbers}
use Rattle.starlark_json.proofs.ReadsBack.{module_text_back}

spans_numbers : (ss : Seq Span) → AllByRecursion SpanFits ss → ItemsHaveNumbers (spans_json ss)
spans_numbers [] h = tt
spans_numbers (s ∷ ss) h = (span_numbers s h.0, spans_numbers ss h.1)

module_numbers : (m : Module) → ModuleFits m → HasNumbers (module_json m.0 m.1 m.2)
module_numbers m h = (IsNumber-decimal 1 (omega arith), (tt, (spans_numbers m.1 h.0, (statement_numbers m.2 h.1, tt))))

text_back : (m : Module) → ModuleFits m → module_of_text (print (json_tokens (module_json m.0 m.1 m.2))) ≡ Some m
text_back m fits =
    let j = module_json m.0 m.1 m.2 in
    module_text_back m (print (json_tokens j)) (tokens-print (json_tokens j) (ArePrintable-json_tokens j (module_numbers m fits))) fits

pub each_module_is_read_back : EachModuleIsReadBack
each_module_is_read_back d file s utf8 short valid =
    let comments = comment_spans (lexemes file.text) in
    text_back (file.name, comments, s) (comments_fit file.text utf8 short, valid_fits d (items (lexemes file.text)) s (items_fit file.text utf8 short) valid)
