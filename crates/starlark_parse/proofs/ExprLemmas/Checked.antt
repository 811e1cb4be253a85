-- Refusals when a rule is tested, in the form in which the code's answers cite them.
use Rattle.std.proofs.Common.{◌≡◌, ℕ, Bool, true, false, if◌then◌else◌, Option, Some, refl, sym, ◌∙◌, ap, subst}
use Rattle.starlark_lexer.specs.Lexer.{CodeLexeme}
use Rattle.starlark_spec.specs.Faults.{Fault}
use Rattle.starlark_spec.specs.Answers.{Answer}
use Rattle.starlark_spec.specs.Answers.Answer.{module_of, memory, lexer, unexpected_token, unexpected_end, broken_rule}
use Rattle.starlark_spec.specs.Refusals.{refused}
use Rattle.starlark_spec.specs.Grammar.{Nonterminal, Derivation}
use Rattle.starlark_spec.specs.Grammar.Nonterminal.{Module}
use Rattle.starlark_spec.specs.Machine.States.{Place, State}
use Rattle.starlark_spec.specs.Machine.States.State.{done}
use Rattle.starlark_spec.specs.Machine.Sight.{look_at}
use Rattle.starlark_spec.specs.Machine.Faults.{Refuses, node_fault, ruled}
use Rattle.starlark_parse_build.specs.Check.Checks.{Names, NamesFault}
use Rattle.starlark_spec.specs.declared.refusal.Refusal.{Refusal}
use Rattle.starlark_parse_cursor.specs.Reading.{At}
use Rattle.starlark_parse_cursor.specs.Contract.{Goes, FailsFrom, FailsFrom.breaks, Found}
use Rattle.starlark_parse_cursor.proofs.Paths.{wants}
use Rattle.starlark_parse.specs.Expr.Contract.{checked}

-- the meaning of an answer that names a fault: that memory ran out, or which rule is broken
data Told (f : Option Fault) (x : Answer) : Type 0 where
  wanted : x ≡ memory → Told f x
  broken : (e : Fault) → x ≡ broken_rule e → f ≡ Some e → Told f x

told : (f : Option Fault) (x : Answer) → NamesFault f x → Told f x
told f memory names = wanted refl
told f (broken_rule e) names = broken e refl names
told f (module_of s) names = absurd names
told f (lexer e) names = absurd names
told f (unexpected_token span) names = absurd names
told f (unexpected_end span) names = absurd names

if_same : {A : Type 0} (b : Bool) (x : A) → (if b then x else x) ≡ x
if_same true x = refl
if_same false x = refl

module _ {S : Type 0} {steps : S → Option CodeLexeme → S → Type 0} where
  -- a refusal if a rule is broken, or memory ran out for the item after it
  pub rule_fails : {I : Type 0} {from : I → State Module} {a b : At S} {r : Answer} (w : Bool) (f : Fault) (s : I → State Module)
      → (look_at b.sight).no_memory ≡ w
      → r ≡ (if w then memory else broken_rule f) → ((i : I) → Goes steps (from i) a (s i) b)
      → (w ≡ false → (i : I) → ruled b.types (s i) (look_at b.sight) ≡ Refuses f) → FailsFrom steps from a b r
  rule_fails {from = from} {a = a} {b = b} true f s k h g m = subst (λ x. FailsFrom steps from a b x) (sym h) (wants s g)
  rule_fails false f s k h g m = breaks f h (λ i. record { state = s i; goes = g i; refuses = m refl i })

  -- the same if a node is done that breaks a rule
  pub node_fails : {I : Type 0} {n : Nonterminal} {from : I → State Module} {a b : At S} {r : Answer} (f : Fault) (d : Derivation n) (place : I
      → Place Module n) → node_fault b.types n d (look_at b.sight) ≡ Some f
      → r ≡ (if (look_at b.sight).no_memory then memory else broken_rule f) → ((i : I) → Goes steps (from i) a (done d (place i)) b)
      → FailsFrom steps from a b r
  node_fails f d place k h g = rule_fails _ f (λ i. done d (place i)) refl h g (λ w i. rw (w, k) refl)

  -- the same if that was found by a check, or memory ran out for it
  pub check_fails : {I : Type 0} {n : Nonterminal} {from : I → State Module} {a b : At S} {r : Answer} {f : Option Fault} (x : Refusal) (d : Derivation n)
      (place : I → Place Module n) → Names f x → r ≡ checked x b
      → node_fault b.types n d (look_at b.sight) ≡ f → ((i : I) → Goes steps (from i) a (done d (place i)) b) → FailsFrom steps from a b r
  check_fails {from = from} {a = a} {b = b} {r = r} {f = f} x d place names h k g = go (told f (refused x) names)
    where
      go : Told f (refused x) → FailsFrom steps from a b r
      go (wanted m) =
          subst (λ z. FailsFrom steps from a b z) (sym (h ∙ ap (λ z. if (look_at b.sight).no_memory then memory else z) m
          ∙ if_same (look_at b.sight).no_memory memory)) (wants (λ i. done d (place i)) g)
      go (broken e m is) = node_fails e d place (k ∙ is) (h ∙ ap (λ z. if (look_at b.sight).no_memory then memory else z) m) g

  -- memory ran out for what was read
  pub found_wants : {n : Nonterminal} {from : Place Module n → State Module} {begin : ℕ} {Means : Derivation n → Type 0} {a b : At S}
      → Found steps from begin Means a b → FailsFrom steps from a b memory
  found_wants d = wants (λ p. done d.derivation p) d.goes

  -- memory ran out when nothing was consumed
  pub wants_same : {I : Type 0} {from : I → State Module} {a m b : At S} → b ≡ m → FailsFrom steps from a m memory → FailsFrom steps from a b memory
  wants_same {from = from} {a = a} e f = subst (λ x. FailsFrom steps from a x memory) (sym e) f
