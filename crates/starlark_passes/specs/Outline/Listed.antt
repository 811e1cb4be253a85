-- What is listed of a file's module, as it is in memory.
use Rattle.std.specs.Prelude.{map}
use denote.Ref.{Bor}
use Rattle.starlark_lexer.specs.Places.{File}
use Rattle.starlark_lexer.specs.Tokens.{Span, Text, span_of}
use Rattle.starlark_lexer.specs.declared.codemap.FileSpan.{FileSpan}
use Rattle.starlark_passes.specs.Outline.Outline.{Load}
use Rattle.starlark_passes.specs.declared.outline.ast_load.AstLoad.{AstLoad}

abbrev pub in_file : {X : Type 0} → File → X → File × X
in_file file x = (file, x)

abbrev pub file_and_span : FileSpan → File × Span
file_and_span s = (s.file, span_of s.span)

abbrev pub symbol : Bor Text × Bor Text → Text × Text
symbol p = (p.0.now, p.1.now)

abbrev pub listed : AstLoad → File × Load
listed l = (l.span.file, record { span = span_of l.span.span; module_id = l.module_id.now; symbols = map symbol l.symbols.entries })
