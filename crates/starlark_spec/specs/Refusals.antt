-- An error of the code, as an answer.
use Rattle.std.specs.Prelude.{string_bytes}
use Rattle.starlark_lexer.specs.Tokens.{span_of, fault_of}
use Rattle.starlark_spec.specs.Faults.{rule_fault, grammar_fault, type_rule, form_text, InvalidType}
use Rattle.starlark_spec.specs.Faults.{EmptyListInType, DotInType, ExpectingPath, DotTypeBan, Types}
use Rattle.starlark_spec.specs.Answers.{Answer}
use Rattle.starlark_spec.specs.Answers.Answer.{memory, lexer, unexpected_token, unexpected_end, broken_rule}
use Rattle.starlark_spec.specs.declared.refusal.Refusal.{Refusal}
use Rattle.starlark_spec.specs.declared.refusal.Refusal.TheVariants as refusals

abbrev pub refused : Refusal → Answer
refused refusals.Memory = memory
refused (refusals.Lexer e) = lexer (fault_of e)
refused (refusals.UnexpectedToken span) = unexpected_token (span_of span)
refused (refusals.UnexpectedEnd span) = unexpected_end (span_of span)
refused (refusals.Grammar error span) = broken_rule (grammar_fault error (span_of span))
refused (refusals.Types span) = broken_rule (rule_fault Types (span_of span))
refused (refusals.InvalidType form span) = broken_rule (type_rule (InvalidType (form_text form)) span)
refused (refusals.EmptyListInType span) = broken_rule (type_rule EmptyListInType span)
refused (refusals.DotInType span) = broken_rule (type_rule DotInType span)
refused (refusals.ExpectingPath span) = broken_rule (type_rule ExpectingPath span)
refused (refusals.DotTypeBan path) = broken_rule (type_rule (DotTypeBan (string_bytes path.value.0)) path.value.1)
