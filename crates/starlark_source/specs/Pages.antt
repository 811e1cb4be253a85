-- What is written on a page, up to the first failure.
use Rattle.std.specs.Prelude.{ℕ, ◌≡◌, ◌⊎◌, List as Seq, [], ◌∷◌, ◌++◌, map, Option, Some, None, string_bytes}
use Rattle.starlark_lexer.specs.Tokens.{Text, Span, span_of}
use Rattle.starlark_source.specs.declared.page.Page.{Page}
use Rattle.starlark_source.specs.declared.error.SourceError.{SourceError}
use Rattle.starlark_source.specs.declared.error.SourceError.TheVariants as errors

-- a byte of a text, or what no text denotes
pub data Mark : Type 0 where
  byte : ℕ → Mark
  fault : Span → Mark

abbrev pub Draft : Type 0
Draft = Seq Mark

abbrev pub say : Text → Draft
say text = map (λ b. byte b) text

-- the text so far, what was rejected, or out of memory
pub data State : Type 0 where
  writing : Text → State
  refused : Span → State
  out : State

abbrev pub failed_state : Text → Option SourceError → State
failed_state text None = writing text
failed_state text (Some (errors.NotSource s)) = refused (span_of s)
failed_state text (Some errors.Memory) = out

abbrev pub state_of : Page → State
state_of p = failed_state (string_bytes p.text) p.failure

abbrev pub after_mark : State → Mark → State
after_mark (writing text) (byte b) = writing (text ++ b ∷ [])
after_mark (writing text) (fault s) = refused s
after_mark (refused s) m = refused s
after_mark out m = out

-- the state after these marks
abbrev pub marked : State → Draft → State
marked s [] = s
marked s (m ∷ ms) = marked (after_mark s m) ms

-- a page has these marks in addition, unless memory ran out
pub record Wrote (old : Page) (marks : Draft) (new : Page) : Type 0 where
  pub reached : (state_of new ≡ out) ⊎ (state_of new ≡ marked (state_of old) marks)
