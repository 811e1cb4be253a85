-- Steps past what is done, if it breaks no rule and if it breaks one.
use Rattle.std.proofs.Common.{◌≡◌, Bool, true, false, if◌then◌else◌, Option, Some, None, refl, sym, ◌∙◌, ap, subst}
use Rattle.starlark_lexer.specs.Lexer.{CodeLexeme}
use Rattle.starlark_lexer.specs.declared.dialect.DialectTypes.{DialectTypes}
use Rattle.starlark_spec.specs.Faults.{Fault}
use Rattle.starlark_spec.specs.Answers.{Answer}
use Rattle.starlark_spec.specs.Answers.Answer.{memory, broken_rule}
use Rattle.starlark_spec.specs.Grammar.{Nonterminal, Derivation}
use Rattle.starlark_spec.specs.Grammar.Nonterminal.{Module}
use Rattle.starlark_spec.specs.Machine.States.{Place, State}
use Rattle.starlark_spec.specs.Machine.States.State.{done}
use Rattle.starlark_spec.specs.Machine.Sight.{Look, token, look_at}
use Rattle.starlark_spec.specs.Machine.Moves.{Move, Keep, Take, move_done}
use Rattle.starlark_spec.specs.Machine.Faults.{Moves, Refuses, ruled, judged, in_time, node_fault}
use Rattle.starlark_lexer.specs.Tokens.{Lexeme}
use Rattle.starlark_parse_cursor.specs.Reading.{At, Advances}
use Rattle.starlark_parse_cursor.specs.Contract.{Goes, Goes.stays, Goes.keeps, Goes.takes, FailsFrom, FailsFrom.breaks}
use Rattle.starlark_parse_cursor.proofs.Paths.{wants}

-- the move of what is done, if it breaks no rule
pub unbroken : {b n : Nonterminal} (types : DialectTypes) (d : Derivation n) (p : Place b n) (l : Look) {m : Move b} → node_fault types n d l ≡ None
    → move_done d p l ≡ m → ruled types (done d p) l ≡ Moves m
unbroken {n = n} types d p l h k = ap (λ f. judged (in_time l.no_memory f) (move_done d p l)) h ∙ ap (λ m. Moves m) k

pub refused : {b n : Nonterminal} (types : DialectTypes) (d : Derivation n) (p : Place b n) (l : Look) {f : Fault} → l.no_memory ≡ false
    → node_fault types n d l ≡ Some f → ruled types (done d p) l ≡ Refuses f
refused {n = n} types d p l w h = ap (λ x. judged (in_time x (node_fault types n d l)) (move_done d p l)) w
    ∙ ap (λ x. judged (in_time false x) (move_done d p l)) h

module _ {S : Type 0} {steps : S → Option CodeLexeme → S → Type 0} where
  -- past what is done, at the same cursor
  pub passes : {n : Nonterminal} {d : Derivation n} {p : Place Module n} {t u : State Module} {a c : At S} → node_fault a.types n d (look_at a.sight) ≡ None
      → move_done d p (look_at a.sight) ≡ Keep t → Goes steps t a u c → Goes steps (done d p) a u c
  passes {d = d} {p = p} {a = a} h k g = keeps (unbroken a.types d p (look_at a.sight) h k) g

  -- past what is done and a token
  pub passes_token : {n : Nonterminal} {d : Derivation n} {p : Place Module n} {t u : State Module} {a m c : At S} {x : Lexeme} → Advances steps a x m
      → node_fault a.types n d (look_at (token x)) ≡ None → move_done d p (look_at (token x)) ≡ Take t → Goes steps t m u c → Goes steps (done d p) a u c
  passes_token {d = d} {p = p} {a = a} {x = x} v h k g = takes v (unbroken a.types d p (look_at (token x)) h k) g

  breaks_unless : {I : Type 0} {n : Nonterminal} {from : I → State Module} {a b : At S} {r : Answer} (w : Bool) (f : Fault) (d : Derivation n)
      (p : I → Place Module n) → (look_at b.sight).no_memory ≡ w
      → r ≡ (if w then memory else broken_rule f) → node_fault b.types n d (look_at b.sight) ≡ Some f → ((i : I) → Goes steps (from i) a (done d (p i)) b)
      → FailsFrom steps from a b r
  breaks_unless {from = from} {a = a} {b = b} true f d p k h e path = subst (λ x. FailsFrom steps from a b x) (sym h) (wants (λ i. done d (p i)) path)
  breaks_unless {b = b} false f d p k h e path = breaks f h (λ i. record {
    state = done d (p i);
    goes = path i;
    refuses = refused b.types d (p i) (look_at b.sight) k e;
  })

  -- a refusal if what is done breaks a rule, or memory ran out for the item after
  pub rule_breaks : {I : Type 0} {n : Nonterminal} {from : I → State Module} {a b : At S} {r : Answer} (f : Fault) (d : Derivation n) (p : I → Place Module n)
      → r ≡ (if (look_at b.sight).no_memory then memory else broken_rule f) → node_fault b.types n d (look_at b.sight) ≡ Some f
      → ((i : I) → Goes steps (from i) a (done d (p i)) b) → FailsFrom steps from a b r
  rule_breaks {b = b} f d p h e path = breaks_unless (look_at b.sight).no_memory f d p refl h e path

  -- a dialect's treatment of types is unchanged
  pub same_types : {s t : State Module} {a b : At S} → Goes steps s a t b → b.types ≡ a.types
  same_types stays = refl
  same_types (keeps h g) = same_types g
  same_types (takes v h g) = same_types g ∙ v.same_types
