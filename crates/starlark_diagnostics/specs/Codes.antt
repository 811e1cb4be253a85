-- The code of each kind of error and of each issue, and its name.
use Rattle.std.specs.Prelude.{codes}
use Rattle.starlark_lexer.specs.Tokens.{Text}
use Rattle.starlark_lexer.specs.declared.token.LexerErrorKind.{LexerErrorKind}
use Rattle.starlark_lexer.specs.declared.token.LexerErrorKind.TheVariants as lexer
use Rattle.starlark_spec.specs.Faults.{Rule, TypeFault}
use Rattle.starlark_spec.specs.Faults as faults
use Rattle.starlark_checks.specs.Kinds as kinds
use Rattle.starlark_checks.specs.Kinds.{Kind}
use Rattle.starlark_spec.specs.declared.error.GrammarError.{GrammarError}
use Rattle.starlark_spec.specs.declared.error.GrammarError.TheVariants as grammar
use Rattle.starlark_spec.specs.declared.error.CallError.{CallError}
use Rattle.starlark_spec.specs.declared.error.CallError.TheVariants as call
use Rattle.starlark_spec.specs.declared.error.ParamsError.{ParamsError}
use Rattle.starlark_spec.specs.declared.error.ParamsError.TheVariants as params
use Rattle.starlark_spec.specs.declared.error.DialectError.{DialectError}
use Rattle.starlark_spec.specs.declared.error.DialectError.TheVariants as dialect
use Rattle.starlark_spec.specs.declared.error.PlaceError.{PlaceError}
use Rattle.starlark_spec.specs.declared.error.PlaceError.TheVariants as place
use Rattle.starlark_diagnostics.specs.declared.code.Code.{Code}
use Rattle.starlark_diagnostics.specs.declared.code.Code.TheVariants as code

abbrev pub lexer_code : LexerErrorKind → Code
lexer_code lexer.InvalidCharacter = code.InvalidCharacter
lexer_code lexer.ReservedKeyword = code.ReservedKeyword
lexer_code lexer.InvalidNumber = code.InvalidNumber
lexer_code lexer.UnfinishedString = code.UnfinishedString
lexer_code lexer.InvalidEscape = code.InvalidEscape
lexer_code lexer.Indentation = code.Indentation
lexer_code lexer.InvalidFString = code.InvalidFString
lexer_code lexer.TooDeep = code.TooDeep
lexer_code lexer.Memory = code.OutOfMemory

abbrev pub grammar_code : GrammarError → Code
grammar_code grammar.InvalidLhs = code.InvalidLhs
grammar_code grammar.InvalidModifyLhs = code.InvalidModifyLhs
grammar_code grammar.TypeAnnotationOnAssignOp = code.TypeAnnotationOnAssignOp
grammar_code grammar.TypeAnnotationOnTupleAssign = code.TypeAnnotationOnTupleAssign
grammar_code grammar.LoadRequiresAtLeastTwoArguments = code.LoadRequiresAtLeastTwoArguments
grammar_code grammar.UnparenthesizedTupleTrailingComma = code.UnparenthesizedTupleTrailingComma
grammar_code grammar.LoadNameWithoutEqual = code.LoadNameWithoutEqual
grammar_code grammar.FStringConversion = code.FStringConversion

abbrev pub call_code : CallError → Code
call_code call.PositionalAfterNonPositional = code.CallPositionalAfterNonPositional
call_code call.NamedAfterArgs = code.CallNamedAfterArgs
call_code call.RepeatedName = code.CallRepeatedName
call_code call.ArgsAfterArgs = code.CallArgsAfterArgs
call_code call.MultipleKwargs = code.CallMultipleKwargs

abbrev pub params_code : ParamsError → Code
params_code params.TooMany = code.ParamsTooMany
params_code params.SlashFirst = code.ParamsSlashFirst
params_code params.DuplicateName = code.ParamsDuplicateName
params_code params.AfterKwargs = code.ParamsAfterKwargs
params_code params.PositionalAfterNonPositional = code.ParamsPositionalAfterNonPositional
params_code params.ArgsAfterArgs = code.ParamsArgsAfterArgs
params_code params.MultipleSlash = code.ParamsMultipleSlash
params_code params.MultipleKwargs = code.ParamsMultipleKwargs
params_code params.StarLast = code.ParamsStarLast
params_code params.StarWithoutNamed = code.ParamsStarWithoutNamed

abbrev pub type_code : TypeFault → Code
type_code (faults.InvalidType _) = code.InvalidType
type_code faults.EmptyListInType = code.EmptyListInType
type_code faults.DotInType = code.DotInType
type_code faults.ExpectingPath = code.ExpectingPath
type_code (faults.DotTypeBan _) = code.DotTypeBan

abbrev pub dialect_code : DialectError → Code
dialect_code dialect.Types = code.DialectTypes
dialect_code dialect.FStrings = code.DialectFStrings
dialect_code dialect.KeywordOnly = code.DialectKeywordOnly
dialect_code dialect.PositionalOnly = code.DialectPositionalOnly
dialect_code dialect.Def = code.DialectDef
dialect_code dialect.Load = code.DialectLoad
dialect_code dialect.Ellipsis = code.DialectEllipsis
dialect_code dialect.Lambda = code.DialectLambda

abbrev pub place_code : PlaceError → Code
place_code place.ForAtTop = code.ForAtTop
place_code place.IfAtTop = code.IfAtTop
place_code place.BreakOutsideFor = code.BreakOutsideFor
place_code place.ContinueOutsideFor = code.ContinueOutsideFor
place_code place.ReturnOutsideDef = code.ReturnOutsideDef
place_code place.LoadNotAtTop = code.LoadNotAtTop

abbrev pub rule_code : Rule → Code
rule_code (faults.Grammar error) = grammar_code error
rule_code (faults.Call error) = call_code error
rule_code (faults.Params error) = params_code error
rule_code (faults.TypeExpr fault) = type_code fault
rule_code (faults.Dialect error) = dialect_code error
rule_code (faults.Place error) = place_code error

abbrev pub code_of : Kind → Code
code_of kinds.TextTooLong = code.TextTooLong
code_of kinds.Memory = code.OutOfMemory
code_of (kinds.Lexer error) = lexer_code error.kind
code_of kinds.UnexpectedToken = code.UnexpectedToken
code_of kinds.UnexpectedEnd = code.UnexpectedEnd
code_of (kinds.Broken rule) = rule_code rule

abbrev pub code_name : Code → Text
code_name code.TextTooLong = codes "text-too-long"
code_name code.OutOfMemory = codes "out-of-memory"
code_name code.InvalidCharacter = codes "invalid-character"
code_name code.ReservedKeyword = codes "reserved-keyword"
code_name code.InvalidNumber = codes "invalid-number"
code_name code.UnfinishedString = codes "unfinished-string"
code_name code.InvalidEscape = codes "invalid-escape"
code_name code.Indentation = codes "indentation"
code_name code.InvalidFString = codes "invalid-f-string"
code_name code.TooDeep = codes "too-deep"
code_name code.UnexpectedToken = codes "unexpected-token"
code_name code.UnexpectedEnd = codes "unexpected-end"
code_name code.InvalidLhs = codes "invalid-lhs"
code_name code.InvalidModifyLhs = codes "invalid-modify-lhs"
code_name code.TypeAnnotationOnAssignOp = codes "type-annotation-on-assign-op"
code_name code.TypeAnnotationOnTupleAssign = codes "type-annotation-on-tuple-assign"
code_name code.LoadRequiresAtLeastTwoArguments = codes "load-requires-at-least-two-arguments"
code_name code.UnparenthesizedTupleTrailingComma = codes "unparenthesized-tuple-trailing-comma"
code_name code.LoadNameWithoutEqual = codes "load-name-without-equal"
code_name code.FStringConversion = codes "f-string-conversion"
code_name code.CallPositionalAfterNonPositional = codes "call-positional-after-non-positional"
code_name code.CallNamedAfterArgs = codes "call-named-after-args"
code_name code.CallRepeatedName = codes "call-repeated-name"
code_name code.CallArgsAfterArgs = codes "call-args-after-args"
code_name code.CallMultipleKwargs = codes "call-multiple-kwargs"
code_name code.ParamsTooMany = codes "params-too-many"
code_name code.ParamsSlashFirst = codes "params-slash-first"
code_name code.ParamsDuplicateName = codes "params-duplicate-name"
code_name code.ParamsAfterKwargs = codes "params-after-kwargs"
code_name code.ParamsPositionalAfterNonPositional = codes "params-positional-after-non-positional"
code_name code.ParamsArgsAfterArgs = codes "params-args-after-args"
code_name code.ParamsMultipleSlash = codes "params-multiple-slash"
code_name code.ParamsMultipleKwargs = codes "params-multiple-kwargs"
code_name code.ParamsStarLast = codes "params-star-last"
code_name code.ParamsStarWithoutNamed = codes "params-star-without-named"
code_name code.InvalidType = codes "invalid-type"
code_name code.EmptyListInType = codes "empty-list-in-type"
code_name code.DotInType = codes "dot-in-type"
code_name code.ExpectingPath = codes "expecting-path"
code_name code.DotTypeBan = codes "dot-type-ban"
code_name code.DialectTypes = codes "dialect-types"
code_name code.DialectFStrings = codes "dialect-f-strings"
code_name code.DialectKeywordOnly = codes "dialect-keyword-only"
code_name code.DialectPositionalOnly = codes "dialect-positional-only"
code_name code.DialectDef = codes "dialect-def"
code_name code.DialectLoad = codes "dialect-load"
code_name code.DialectEllipsis = codes "dialect-ellipsis"
code_name code.DialectLambda = codes "dialect-lambda"
code_name code.ForAtTop = codes "for-at-top"
code_name code.IfAtTop = codes "if-at-top"
code_name code.BreakOutsideFor = codes "break-outside-for"
code_name code.ContinueOutsideFor = codes "continue-outside-for"
code_name code.ReturnOutsideDef = codes "return-outside-def"
code_name code.LoadNotAtTop = codes "load-not-at-top"
code_name code.UnusedLoad = codes "unused-load"
code_name code.DuplicateKey = codes "duplicate-key"
code_name code.NotUtf8 = codes "not-utf8"
code_name code.Unreadable = codes "unreadable"
code_name code.NotSource = codes "not-source"
