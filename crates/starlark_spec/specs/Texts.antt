-- The message of each rule, which the `Display` of its error writes.
use Rattle.std.specs.Prelude.{◌++◌, codes}
use Rattle.starlark_lexer.specs.Tokens.{Text}
use Rattle.starlark_spec.specs.Faults.{TypeFault, InvalidType, EmptyListInType, DotInType, ExpectingPath, DotTypeBan}
use Rattle.starlark_spec.specs.Faults as faults
use Rattle.starlark_spec.specs.Faults.{Rule}
use Rattle.starlark_spec.specs.declared.error.GrammarError.{GrammarError}
use Rattle.starlark_spec.specs.declared.error.GrammarError.TheVariants as grammar
use Rattle.starlark_spec.specs.declared.error.CallError.{CallError}
use Rattle.starlark_spec.specs.declared.error.CallError.TheVariants as call
use Rattle.starlark_spec.specs.declared.error.ParamsError.{ParamsError}
use Rattle.starlark_spec.specs.declared.error.ParamsError.TheVariants as params
use Rattle.starlark_spec.specs.declared.error.DialectError.{DialectError}
use Rattle.starlark_spec.specs.declared.error.DialectError.TheVariants as dialect
use Rattle.starlark_spec.specs.declared.error.PlaceError.{PlaceError}
use Rattle.starlark_spec.specs.declared.error.PlaceError.TheVariants as place

abbrev pub grammar_text : GrammarError → Text
grammar_text grammar.InvalidLhs = codes "left-hand-side of assignment must take the form `a`, `a.b` or `a[b]`"
grammar_text grammar.InvalidModifyLhs = codes "left-hand-side of modifying assignment cannot be a list or tuple"
grammar_text grammar.TypeAnnotationOnAssignOp = codes "type annotations not allowed on augmented assignments"
grammar_text grammar.TypeAnnotationOnTupleAssign = codes "type annotations not allowed on multiple assignments"
grammar_text grammar.LoadRequiresAtLeastTwoArguments = codes "`load` statement requires at least two arguments"
grammar_text grammar.UnparenthesizedTupleTrailingComma = codes "unparenthesized tuple with trailing comma"
grammar_text grammar.LoadNameWithoutEqual = codes "Parse error: expected string literal in load statement"
grammar_text grammar.FStringConversion = codes "invalid f-string conversion specifier, expected 's' or 'r'"

abbrev pub call_text : CallError → Text
call_text call.PositionalAfterNonPositional = codes "positional argument after non positional"
call_text call.NamedAfterArgs = codes "named argument after *args or **kwargs"
call_text call.RepeatedName = codes "repeated named argument"
call_text call.ArgsAfterArgs = codes "Args array after another args or kwargs"
call_text call.MultipleKwargs = codes "Multiple kwargs dictionary in arguments"

abbrev pub params_text : ParamsError → Text
params_text params.TooMany = codes "Too many parameters"
params_text params.SlashFirst = codes "`/` cannot be first parameter"
params_text params.DuplicateName = codes "duplicated parameter name"
params_text params.AfterKwargs = codes "Parameter after kwargs"
params_text params.PositionalAfterNonPositional = codes "positional parameter after non positional"
params_text params.ArgsAfterArgs = codes "Args parameter after another args or kwargs parameter"
params_text params.MultipleSlash = codes "Multiple `/` in parameters"
params_text params.MultipleKwargs = codes "Multiple kwargs dictionary in parameters"
params_text params.StarLast = codes "`*` parameter must not be last"
params_text params.StarWithoutNamed = codes "`*` must be followed by named parameter"

abbrev pub type_text : TypeFault → Text
type_text (InvalidType form) = form ++ codes " expression is not allowed in type expression"
type_text EmptyListInType = codes "Empty list is not allowed in type expression"
type_text DotInType = codes "Only dot expression of form `ident.ident` is allowed in type expression"
type_text ExpectingPath = codes "Expecting path like `a.b.c`"
type_text (DotTypeBan path) = codes "`" ++ (path ++ (codes ".type` is not allowed in type expression, use `" ++ (path ++ codes "` instead")))

abbrev pub dialect_text : DialectError → Text
dialect_text dialect.Types = codes "type annotations are not allowed in this dialect"
dialect_text dialect.FStrings = codes "Your Starlark dialect must enable f-strings to use them"
dialect_text dialect.KeywordOnly = codes "* keyword-only-arguments is not allowed in this dialect"
dialect_text dialect.PositionalOnly = codes "/ positional-only-arguments is not allowed in this dialect"
dialect_text dialect.Def = codes "`def` is not allowed in this dialect"
dialect_text dialect.Load = codes "`load` is not allowed in this dialect"
dialect_text dialect.Ellipsis = codes "`...` is not allowed in this dialect"
dialect_text dialect.Lambda = codes "`lambda` is not allowed in this dialect"

abbrev pub place_error_text : PlaceError → Text
place_error_text place.ForAtTop = codes "`for` cannot be used outside `def` in this dialect"
place_error_text place.IfAtTop = codes "`if` cannot be used outside `def` in this dialect"
place_error_text place.BreakOutsideFor = codes "`break` cannot be used outside of a `for` loop"
place_error_text place.ContinueOutsideFor = codes "`continue` cannot be used outside of a `for` loop"
place_error_text place.ReturnOutsideDef = codes "`return` cannot be used outside of a `def` function"
place_error_text place.LoadNotAtTop = codes "`load` must only occur at the top of a module"

abbrev pub rule_text : Rule → Text
rule_text (faults.Grammar error) = grammar_text error
rule_text (faults.Call error) = call_text error
rule_text (faults.Params error) = params_text error
rule_text (faults.TypeExpr fault) = type_text fault
rule_text (faults.Dialect error) = dialect_text error
rule_text (faults.Place error) = place_error_text error
