-- A diagnostic, whatever holds its texts.
use Rattle.std.specs.Prelude.{List, Option, map, option_map, string_bytes}
use Rattle.starlark_lexer.specs.Tokens.{Span, Text, span_of}
use Rattle.starlark_diagnostics.specs.declared.code.Code.{Code}
use Rattle.starlark_diagnostics.specs.declared.diagnostic.Severity.{Severity}
use Rattle.starlark_diagnostics.specs.declared.diagnostic.Note.{Note as CodeNote}
use Rattle.starlark_diagnostics.specs.declared.diagnostic.Diagnostic.{Diagnostic as CodeDiagnostic}

pub record Note : Type 0 where
  pub message : Text
  pub span : Option Span

pub record Diagnostic : Type 0 where
  pub code : Code
  pub severity : Severity
  pub message : Text
  pub span : Option Span
  pub notes : List Note

abbrev pub note_seen : CodeNote → Note
note_seen n = record { message = string_bytes n.message; span = option_map span_of n.span }

abbrev pub seen : CodeDiagnostic → Diagnostic
seen d =
    record {
      code = d.code;
      severity = d.severity;
      message = string_bytes d.message;
      span = option_map span_of d.span;
      notes = map note_seen d.notes.items;
    }
