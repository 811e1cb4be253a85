-- An error's kind, and where it is.
use Rattle.std.specs.Prelude.{Option, Some, None, option_map}
use denote.Ref.{Bor}
use Rattle.starlark_lexer.specs.Places.{File}
use Rattle.starlark_lexer.specs.Tokens.{Span, span_of}
use Rattle.starlark_lexer.specs.declared.codemap.FileSpan.{FileSpan}
use Rattle.starlark_lexer.specs.declared.span.Span.{Span as CodeSpan}
use Rattle.starlark_checks.specs.Kinds.{Kind, Memory, kind_of}
use Rattle.starlark_checks.specs.declared.error.kind.ErrorKind.{ErrorKind}

-- a span of a file
pub record Place : Type 0 where
  pub file : File
  pub span : Span

pub record Refusal : Type 0 where
  pub kind : Kind
  pub place : Option Place

abbrev pub place_of : FileSpan → Place
place_of s = record { file = s.file; span = span_of s.span }

abbrev pub place : Option (Bor FileSpan) → Option Place
place span = option_map (λ s. place_of s.now) span

abbrev pub refusal : ErrorKind → Option FileSpan → Refusal
refusal kind span = record { kind = kind_of kind; place = option_map place_of span }

abbrev pub without_place : Kind → Refusal
without_place kind = record { kind = kind; place = None }

abbrev pub at : Kind → Place → Refusal
at kind place = record { kind = kind; place = Some place }

abbrev pub in_file : Kind → File → CodeSpan → Refusal
in_file kind file span = at kind (record { file = file; span = span_of span })

abbrev pub out_of_memory : Refusal
out_of_memory = without_place Memory
