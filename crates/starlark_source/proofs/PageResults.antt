-- The final result of a page.
use Rattle.std.proofs.Common.{◌≡◌, ℕ, List, [], ◌∷◌, ◌++◌, replicate, Option, Some, None, Result, Ok, Err, String, Global, string_bytes, refl, sym, ap, ◌∙◌}
use Rattle.std.proofs.Common.{inl, inr, append_assoc, append-nil}
use Rattle.std.specs.Prelude.{IfOk, IfErr}
use Rattle.starlark_lexer.specs.Tokens.{Text, Span, span_of}
use Rattle.starlark_source.specs.declared.page.Page.{Page}
use Rattle.starlark_source.specs.declared.error.SourceError.{SourceError}
use Rattle.starlark_source.specs.declared.error.SourceError.TheVariants as errors
use Rattle.starlark_source.specs.Pieces.{Pieces, token, text_byte, blank, unsayable, escaped_in_format, joined, said, spelled}
use Rattle.starlark_source.specs.Pages.{Draft, State, Wrote, failed_state, fault, marked, out, refused, say, state_of, writing}
use Rattle.starlark_source.specs.Drafts.{draft}
use Rattle.starlark_source.specs.Lines.{FaultIs}
use Rattle.starlark_source.proofs.PageLemmas.{marked_append, refused_stays, said_so_far}

-- after this text
ended : Text → Result Text Span → State
ended text (Ok more) = writing (text ++ more)
ended text (Err s) = refused s

ended_joined : (text more : Text) (r : Result Text Span) → ended (text ++ more) r ≡ ended text (joined more r)
unfolding ended
ended_joined text more (Ok rest) = ap writing (append_assoc text more rest)
ended_joined text more (Err s) = refl

text_first : (text more : Text) (ms : Draft) (r : Result Text Span) → marked (writing (text ++ more)) ms ≡ ended (text ++ more) r
    → marked (writing text) (say more ++ ms) ≡ ended text (joined more r)
text_first text more ms r is =
    marked_append (writing text) (say more) ms ∙ ap (λ s. marked s ms) (said_so_far text more) ∙ is ∙ ended_joined text more r

marked_said : (text : Text) (ps : Pieces) → marked (writing text) (draft ps) ≡ ended text (said ps)
unfolding ended
marked_said text [] = ap writing (sym (append-nil text))
marked_said text (token t ∷ ps) = text_first text (spelled t) (draft ps) (said ps) (marked_said (text ++ spelled t) ps)
marked_said text (text_byte b ∷ ps) = text_first text (escaped_in_format b) (draft ps) (said ps) (marked_said (text ++ escaped_in_format b) ps)
marked_said text (blank n ∷ ps) = text_first text (replicate n 32) (draft ps) (said ps) (marked_said (text ++ replicate n 32) ps)
marked_said text (unsayable s ∷ ps) = refused_stays s (draft ps)

-- the last state, unless memory ran out
last : (p q : Page) (ps : Pieces) (s : State) → state_of p ≡ writing [] → Wrote p (draft ps) q → state_of q ≡ s → (s ≡ out → ⊥) → s ≡ ended [] (said ps)
last p q ps s begins wrote is some =
    elim wrote.reached [
      | inl o ↦ absurd (some (sym is ∙ o))
      | inr e ↦ sym is ∙ e ∙ ap (λ x. marked x (draft ps)) begins ∙ marked_said [] ps
    ]

said_ok : (text : Text) (r : Result Text Span) → writing text ≡ ended [] r → r ≡ Ok text
unfolding ended
said_ok text (Ok more) is = cc
said_ok text (Err s) is = cc

said_err : (x : Span) (r : Result Text Span) → refused x ≡ ended [] r → r ≡ Err x
unfolding ended
said_err x (Ok more) is = cc
said_err x (Err s) is = cc

pub finished : (p q : Page) (ps : Pieces) (r : Result (String Global) SourceError) → state_of p ≡ writing [] → Wrote p (draft ps) q
    → IfOk r (λ text. state_of q ≡ writing (string_bytes text)) → IfOk r (λ text. said ps ≡ Ok (string_bytes text))
finished p q ps (Ok text) begins wrote is =
    let writes : (writing (string_bytes text) ≡ out → ⊥) = λ e. cc in
    said_ok (string_bytes text) (said ps) (last p q ps _ begins wrote is writes)
finished p q ps (Err e) begins wrote is = tt

pub refused_as : (p q : Page) (ps : Pieces) (r : Result (String Global) SourceError) → state_of p ≡ writing [] → Wrote p (draft ps) q
    → IfErr r (λ e. state_of q ≡ failed_state [] (Some e)) → IfErr r (FaultIs (said ps))
refused_as p q ps (Ok text) begins wrote is = tt
refused_as p q ps (Err (errors.NotSource s)) begins wrote is =
    let refuses : (refused (span_of s) ≡ out → ⊥) = λ e. cc in
    said_err (span_of s) (said ps) (last p q ps _ begins wrote is refuses)
refused_as p q ps (Err errors.Memory) begins wrote is = tt
