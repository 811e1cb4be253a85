-- From the machine's runs over a cursor to its runs over lists of tokens.
use Rattle.std.proofs.Common.{◌≡◌, ℕ, List, [], ◌∷◌, ◌++◌, Option, Some, None, refl, sym, ◌∙◌, ap, subst}
use Rattle.starlark_lexer.specs.Tokens.{Lexeme}
use Rattle.starlark_lexer.specs.Lexer.{CodeLexeme}
use Rattle.starlark_lexer.specs.declared.dialect.DialectTypes.{DialectTypes}
use Rattle.starlark_spec.specs.Items.{Ending}
use Rattle.starlark_spec.specs.Grammar.{Nonterminal, RightSide, side_yield}
use Rattle.starlark_spec.specs.Grammar.Nonterminal.{Module}
use Rattle.starlark_spec.specs.Faults.{Fault}
use Rattle.starlark_spec.specs.Machine.States.{State}
use Rattle.starlark_spec.specs.Machine.Sight.{Sight, token, sight, Look, look, look_at}
use Rattle.starlark_spec.specs.Machine.Moves.{Move, Keep, Take, move}
use Rattle.starlark_spec.specs.Machine.Faults.{Moves, fault_at, judged}
use Rattle.starlark_spec.specs.Machine.ReadParts.{seen}
use Rattle.starlark_spec.specs.Machine.Steps.{config, next, step, Reaches, Reaches.here, Clean, Clean.rests, Clean.steps_on, Config}
use Rattle.starlark_spec.proofs.Runs.{leaves, takes as takes_token}
use Rattle.starlark_spec.proofs.Viable.{IsFair, IsFair.keeps as fair_keep, IsFair.takes as fair_take, IsFair.closes as fair_close, IsFair.opens as fair_open}
use Rattle.starlark_spec.proofs.Viable.{fair}
use Rattle.starlark_parse_cursor.specs.Reading.{At, Pulls}
use Rattle.starlark_parse_cursor.specs.Contract.{Goes, Goes.stays, Goes.keeps, Goes.takes}
use Rattle.starlark_parse_cursor.proofs.Calls.{Calls, pulled_last, pulled_first}

-- the end of the last of these, or the position before them
abbrev pub end_after : ℕ → List Lexeme → ℕ
end_after e [] = e
end_after e (x ∷ xs) = end_after x.span.end xs

pub no_fault : {b : Nonterminal} (o : Option Fault) (m k : Move b) → judged o m ≡ Moves k → (o ≡ None) × (m ≡ k)
no_fault None m k e = (refl, cc)
no_fault (Some f) m k e = cc

clean_step : {b : Nonterminal} {y : DialectTypes} {z : Ending} {s t : State b} {c : Config b} (old : List Lexeme) (m : Move b) → fault_at y s (look z old)
    ≡ None → move s (look z old) ≡ m → next m (config s old) ≡ config t old → Clean y z (config t old) c → Clean y z (config s old) c
clean_step {y = y} {z = z} {s = s} {c = c} old m f e n q = steps_on f (subst (λ x. Clean y z x c) (sym (ap (λ k. next k (config s old)) e ∙ n)) q)

clean_take : {b : Nonterminal} {y : DialectTypes} {z : Ending} {s t : State b} {c : Config b} (x : Lexeme) (rest : List Lexeme)
    → fault_at y s (look z (x ∷ rest)) ≡ None → move s (look z (x ∷ rest)) ≡ Take t → Clean y z (config t rest) c → Clean y z (config s (x ∷ rest)) c
clean_take {y = y} {z = z} {s = s} {c = c} x rest f e q = steps_on f (subst (λ k. Clean y z k c) (sym (ap (λ k. next k (config s (x ∷ rest))) e)) q)

-- the tokens that a run consumed, the same run over each list that continues after them, and the calls of the iterator
pub record TokenRun {S : Type 0} (steps : S → Option CodeLexeme → S → Type 0) (s : State Module) (a : At S) (t : State Module) (b : At S) : Type 0 where
  pub tokens : List Lexeme
  pub same_types : b.types ≡ a.types
  pub saw : (z : Ending) (rest : List Lexeme) → b.sight ≡ sight z rest → a.sight ≡ sight z (tokens ++ rest)
  pub run : (z : Ending) (rest : List Lexeme) → b.sight ≡ sight z rest → Reaches z (config s (tokens ++ rest)) (config t rest)
  pub clean : (z : Ending) (rest : List Lexeme) → b.sight ≡ sight z rest → Clean a.types z (config s (tokens ++ rest)) (config t rest)
  pub yields : (r : List Lexeme) → side_yield (seen t) r ≡ side_yield (seen s) (tokens ++ r)
  pub end_is : b.end ≡ end_after a.end tokens
  pub calls : (o : S) → Pulls steps o a.sight a.state → Calls steps o tokens b.sight b.state

kept : (w : RightSide) (l : Look) (t : State Module) (m : Move Module) → m ≡ Keep t → IsFair w l m → (r : List Lexeme) → side_yield (seen t) r ≡ side_yield w r
kept w l t (Keep u) e (fair_keep f n k) r = let same : u ≡ t = cc in subst (λ v. side_yield (seen v) r ≡ side_yield w r) same (f r)
kept w l t (Keep u) e (fair_close f n k) r = let same : u ≡ t = cc in subst (λ v. side_yield (seen v) r ≡ side_yield w r) same (f r)
kept w l t (Keep u) e (fair_open f n v k i) r = let same : u ≡ t = cc in subst (λ v. side_yield (seen v) r ≡ side_yield w r) same (f r)
kept w l t m e f r = cc

took : (w : RightSide) (x : Lexeme) (t : State Module) (m : Move Module) → m ≡ Take t → IsFair w (look_at (token x)) m → (r : List Lexeme)
    → side_yield (seen t) r ≡ side_yield w (x ∷ r)
took w x t (Take u) e (fair_take f n k i) r = let same : u ≡ t = cc in subst (λ v. side_yield (seen v) r ≡ side_yield w (x ∷ r)) same (f refl r)
took w x t m e f r = cc

module _ {S : Type 0} {steps : S → Option CodeLexeme → S → Type 0} where
  pub token_run : {s t : State Module} {a b : At S} → Goes steps s a t b → TokenRun steps s a t b
  token_run stays = record {
    tokens = [];
    same_types = refl;
    saw = λ z rest e. e;
    run = λ z rest e. here;
    clean = λ z rest e. rests;
    yields = λ r. refl;
    end_is = refl;
    calls = λ o p. pulled_last p;
  }
  token_run {s = s} {a = a} (keeps {t = t} h g) =
      let q = token_run g in
      let k = no_fault (fault_at a.types s (look_at a.sight)) (move s (look_at a.sight)) (Keep t) h in record {
        tokens = q.tokens;
        same_types = q.same_types;
        saw = q.saw;
        run = λ z rest e. leaves (q.tokens ++ rest) (ap (λ k. move s (look_at k)) (sym (q.saw z rest e)) ∙ k.1) (q.run z rest e);
        clean = λ z rest e. clean_step (q.tokens ++ rest) (Keep t) (ap (λ k. fault_at a.types s (look_at k)) (sym (q.saw z rest e)) ∙ k.0)
            (ap (λ k. move s (look_at k)) (sym (q.saw z rest e)) ∙ k.1) refl (q.clean z rest e);
        yields = λ r. q.yields r ∙ kept (seen s) (look_at a.sight) t (move s (look_at a.sight)) k.1 (fair s (look_at a.sight)) _;
        end_is = q.end_is;
        calls = q.calls;
      }
  token_run {s = s} {a = a} (takes {t = t} {u = u} {x = x} v h g) =
      let q = token_run g in
      let k = no_fault (fault_at a.types s (look_at (token x))) (move s (look_at (token x))) (Take t) h in record {
        tokens = x ∷ q.tokens;
        same_types = q.same_types ∙ v.same_types;
        saw = λ z rest e. v.sees;
        run = λ z rest e. takes_token x (q.tokens ++ rest) k.1 (q.run z rest e);
        clean = λ z rest e. clean_take x (q.tokens ++ rest) k.0 k.1 (subst (λ (y : DialectTypes). Clean y z (config t (q.tokens ++ rest)) (config u rest))
            v.same_types (q.clean z rest e));
        yields = λ r. q.yields r ∙ took (seen s) x t (move s (look_at (token x))) k.1 (fair s (look_at (token x))) _;
        end_is = q.end_is ∙ ap (λ e. end_after e q.tokens) v.end_is;
        calls = λ o p. pulled_first (subst (λ (k : Sight). Pulls steps o k a.state) v.sees p) (q.calls a.state v.pulls);
      }
