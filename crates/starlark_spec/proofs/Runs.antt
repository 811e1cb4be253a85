-- Facts about the machine's runs.
use Rattle.std.proofs.Common.{◌≡◌, List, ◌∷◌, refl, sym, ◌∙◌, ap, subst}
use Rattle.starlark_lexer.specs.Tokens.{Lexeme}
use Rattle.starlark_lexer.specs.declared.dialect.DialectTypes.{DialectTypes}
use Rattle.starlark_spec.specs.Items.{Ending}
use Rattle.starlark_spec.specs.Grammar.{Nonterminal}
use Rattle.starlark_spec.specs.Machine.States.{State}
use Rattle.starlark_spec.specs.Machine.Sight.{look}
use Rattle.starlark_spec.specs.Machine.Moves.{Keep, Take, move}
use Rattle.starlark_spec.specs.Machine.Steps.{Config, config, next, step, Reaches, here, more, Clean, rests, steps_on}

module _ {b : Nonterminal} {z : Ending} where
  pub trans : {c d e : Config b} → Reaches z c d → Reaches z d e → Reaches z c e
  trans here r = r
  trans (more q) r = more (trans q r)

  -- a state without a further step is where a run from it ends
  pub stays : {c d : Config b} → Reaches z c d → step z c ≡ c → c ≡ d
  stays here h = refl
  stays (more q) h = sym h ∙ stays q (ap (step z) h)

  -- two runs from one state that have no further step end at one state
  pub same_end : {c d e : Config b} → Reaches z c d → Reaches z c e → step z d ≡ d → step z e ≡ e → d ≡ e
  same_end here r hb hc = stays r hb
  same_end (more q) here hb hc = sym (stays (more q) hc)
  same_end (more q) (more r) hb hc = same_end q r hb hc

  -- one step that keeps the first token, or consumes it
  pub leaves : {s t : State b} {c : Config b} (old : List Lexeme) → move s (look z old) ≡ Keep t → Reaches z (config t old) c → Reaches z (config s old) c
  leaves {s} {t} {c} old m q = more (subst (λ x. Reaches z x c) (sym (ap (λ k. next k (config s old)) m)) q)

  pub takes : {s t : State b} {c : Config b} (x : Lexeme) (rest : List Lexeme) → move s (look z (x ∷ rest)) ≡ Take t → Reaches z (config t rest) c
      → Reaches z (config s (x ∷ rest)) c
  takes {s} {t} {c} x rest m q = more (subst (λ y. Reaches z y c) (sym (ap (λ k. next k (config s (x ∷ rest))) m)) q)

  -- a clean run is a run
  pub runs : {types : DialectTypes} {c d : Config b} → Clean types z c d → Reaches z c d
  runs rests = here
  runs (steps_on f q) = more (runs q)
