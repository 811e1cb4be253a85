-- Messages on broken rules, and on what a dialect leaves out.
use Rattle.std.specs.Prelude.{◌≡◌, ◌++◌, Option, Some, None, codes, if◌then◌else◌}
use Rattle.starlark_lexer.specs.Dialects.{no_part, same_dialect, standard_parts}
use Rattle.starlark_lexer.specs.Places.{text_between}
use Rattle.starlark_lexer.specs.Tokens.{Text}
use Rattle.starlark_lexer.specs.declared.dialect.Dialect.{Dialect}
use Rattle.starlark_lexer.specs.declared.span.Span.{Span as CodeSpan}
use Rattle.starlark_spec.specs.Faults.{Rule, Call, Params, Dialect as LeftOut}
use Rattle.starlark_spec.specs.Texts.{rule_text}
use Rattle.starlark_spec.specs.declared.error.CallError.TheVariants as call
use Rattle.starlark_spec.specs.declared.error.DialectError.{DialectError}
use Rattle.starlark_spec.specs.declared.error.DialectError.TheVariants as dialect
use Rattle.starlark_spec.specs.declared.error.ParamsError.TheVariants as params
use Rattle.starlark_checks.specs.Refusals.{Place}

abbrev pub dialect_name : Dialect → Text
dialect_name d =
    if same_dialect d no_part then codes "the dialect `bare`"
    else (if same_dialect d standard_parts then codes "the dialect `standard`" else codes "this dialect")

-- a part of the language that a dialect may leave out
abbrev pub part_name : DialectError → Text
part_name dialect.Types = codes "type annotations"
part_name dialect.FStrings = codes "f-strings"
part_name dialect.KeywordOnly = codes "`*` without a name among parameters"
part_name dialect.PositionalOnly = codes "`/` among parameters"
part_name dialect.Def = codes "`def`"
part_name dialect.Load = codes "`load`"
part_name dialect.Ellipsis = codes "`...`"
part_name dialect.Lambda = codes "`lambda`"

abbrev pub dialect_message : Dialect → DialectError → Text
dialect_message d part = dialect_name d ++ (codes " has no " ++ part_name part)

-- the text, and the name at a span of a source, if there is one
abbrev pub text_with_name : Text → Text → Option CodeSpan → Text
text_with_name text source None = text
text_with_name text source (Some name) = text ++ (codes " `" ++ (text_between source name.begin.byte name.end.byte ++ codes "`"))

abbrev pub SaysName : Text → Place → Text → Type 0
SaysName text p message = (name : Option CodeSpan) × (message ≡ text_with_name text p.file.text name)

-- of a rule that is broken at a place
abbrev pub SaysRule : Dialect → Rule → Place → Text → Type 0
SaysRule d (LeftOut part) p message = message ≡ dialect_message d part
SaysRule d (Call call.RepeatedName) p message = SaysName (rule_text (Call call.RepeatedName)) p message
SaysRule d (Params params.DuplicateName) p message = SaysName (rule_text (Params params.DuplicateName)) p message
SaysRule d rule p message = message ≡ rule_text rule
