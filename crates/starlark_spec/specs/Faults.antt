-- A broken rule and its span.
use Rattle.std.specs.Prelude.{string_bytes, codes}
use Rattle.starlark_lexer.specs.Tokens.{Span, Text, span_of}
use Rattle.starlark_lexer.specs.declared.span.Span.{Span as CodeSpan}
use Rattle.starlark_spec.specs.declared.error.GrammarError.{GrammarError}
use Rattle.starlark_spec.specs.declared.error.CallError.{CallError}
use Rattle.starlark_spec.specs.declared.error.ParamsError.{ParamsError}
use Rattle.starlark_spec.specs.declared.error.DialectError.{DialectError}
use Rattle.starlark_spec.specs.declared.error.DialectError.TheVariants as dialects
use Rattle.starlark_spec.specs.declared.error.PlaceError.{PlaceError}
use Rattle.starlark_spec.specs.declared.error.NoTypeForm.{NoTypeForm}
use Rattle.starlark_spec.specs.declared.error.NoTypeForm.TheVariants as forms
use Rattle.starlark_spec.specs.declared.error.TypeExprUnpackError.{TypeExprUnpackError}
use Rattle.starlark_spec.specs.declared.error.TypeExprUnpackError.TheVariants as type_errors

pub data TypeFault : Type 0 where
  -- with the name of the form of expression
  InvalidType : Text → TypeFault
  EmptyListInType DotInType ExpectingPath : TypeFault
  -- with the path before `type`
  DotTypeBan : Text → TypeFault

-- the rules: for statements, calls, parameters and types, for parts that a dialect does not allow, and for where a statement may be
pub data Rule : Type 0 where
  Grammar : GrammarError → Rule
  Call : CallError → Rule
  Params : ParamsError → Rule
  TypeExpr : TypeFault → Rule
  Dialect : DialectError → Rule
  Place : PlaceError → Rule

-- the dialect has no types
abbrev pub Types : Rule
Types = Dialect dialects.Types

pub record Fault : Type 0 where
  pub rule : Rule
  pub span : Span

abbrev pub rule_fault : Rule → Span → Fault
rule_fault rule span = record { rule = rule; span = span }

abbrev pub grammar_fault : GrammarError → Span → Fault
grammar_fault error span = rule_fault (Grammar error) span

-- the rule of types that a span of the text breaks
abbrev pub type_rule : TypeFault → CodeSpan → Fault
type_rule fault span = rule_fault (TypeExpr fault) (span_of span)

-- the name of a form of expression
abbrev pub form_text : NoTypeForm → Text
form_text forms.Int = codes "int"
form_text forms.Float = codes "float"
form_text forms.String = codes "string literal"
form_text forms.Bytes = codes "bytes literal"
form_text forms.ListOfOne = codes "list of 1 element"
form_text forms.Indirection = codes "array indirection where array is not an identifier"
form_text forms.Operation = codes "bin op except `|`"
form_text forms.Call = codes "call"
form_text forms.Slice = codes "slice"
form_text forms.Lambda = codes "lambda"
form_text forms.Not = codes "not"
form_text forms.Minus = codes "minus"
form_text forms.Plus = codes "plus"
form_text forms.BitNot = codes "bit not"
form_text forms.If = codes "if"
form_text forms.Dict = codes "dict"
form_text forms.ListComprehension = codes "list comprehension"
form_text forms.DictComprehension = codes "dict comprehension"
form_text forms.FString = codes "f-string"

-- the rule of types that an error of the code reports
abbrev pub type_fault_of : TypeExprUnpackError → TypeFault
type_fault_of (type_errors.InvalidType word) = InvalidType word.now
type_fault_of type_errors.EmptyListInType = EmptyListInType
type_fault_of type_errors.DotInType = DotInType
type_fault_of type_errors.ExpectingPath = ExpectingPath
type_fault_of (type_errors.DotTypeBan path) = DotTypeBan (string_bytes path)
