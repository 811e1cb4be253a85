-- The lines and columns of a span.
use Rattle.std.specs.Prelude.{Option, Some, None, option_map}
use denote.Ref.{Bor}
use Rattle.starlark_lexer.specs.Places.{File, Place, place_of}
use Rattle.starlark_lexer.specs.ResolvedSpans.{place}
use Rattle.starlark_lexer.specs.Tokens.{Span}
use Rattle.starlark_lexer.specs.declared.codemap.ResolvedSpan.{ResolvedSpan}

pub record Ends : Type 0 where
  pub begin : Place
  pub end : Place

abbrev pub ends_in : File → Span → Ends
ends_in file span = record { begin = place_of file.text span.begin; end = place_of file.text span.end }

-- of a span of a file, if there are both
abbrev pub ends_of : Option File → Option Span → Option Ends
ends_of None span = None
ends_of (Some file) span = option_map (ends_in file) span

-- as the code holds them
abbrev pub resolved_ends : ResolvedSpan → Ends
resolved_ends ends = record { begin = place ends.begin; end = place ends.end }

abbrev pub file_of : Option (Bor File) → Option File
file_of codemap = option_map (λ c. c.now) codemap
