-- Words that are due, the next last.
use Rattle.std.proofs.Common.{◌≡◌, ◌<◌, arith, Bool, true, false, List, [], ◌∷◌, ◌++◌, length, length-append, reverse, refl, sym, ◌∙◌, ap}
use Rattle.std.proofs.lemmas.List.{reverse-append}
use Rattle.starlark_lexer.specs.declared.kind.Kind.{Kind}
use Rattle.starlark_expected.specs.declared.word.Word.{Word}
use Rattle.starlark_expected.specs.declared.reply.Step.{Step}
use Rattle.starlark_expected.specs.declared.reply.Step.TheVariants as steps
use Rattle.starlark_expected.specs.declared.due.Says.TheVariants as says
use Rattle.starlark_expected.specs.Words.{Reply, Takes, Passes, Refuses, Does, reply, Outcome, named_by, after_reply, outcome}
use Rattle.starlark_expected.specs.MayFollow.{IsSaid, IsTaken}

no_pass : {a : Bool} → steps.Passes ≡ steps.Takes a → ⊥
no_pass e = cc

no_refusal : {a : Bool} → steps.Refuses ≡ steps.Takes a → ⊥
no_refusal e = cc

passed_refused : steps.Passes ≡ steps.Refuses → ⊥
passed_refused e = cc

same_argument : {a b : Bool} → steps.Takes a ≡ steps.Takes b → a ≡ b
same_argument e = cc

-- the words with one more, which is the next
one_more : (words others : List Word) (word : Word) (named : Bool) (k : Kind) → words ≡ others ++ word ∷ []
    → outcome (reverse words) named k ≡ after_reply (reply word named k) k (reverse others) (outcome (reverse others) named k)
one_more words others word named k e = ap (λ l. outcome l named k) (ap reverse e ∙ reverse-append others (word ∷ []))

pub said_takes : (r : Reply) (k : Kind) (due old new : List Word) (passed o : Outcome) (step : Step) (a : Bool) → o ≡ after_reply r k due passed
    → Does r step old new → step ≡ steps.Takes a → IsSaid o says.Takes
said_takes (Takes words argument) k due old new passed o step a e d s = rw e refl
said_takes Passes k due old new passed o step a e d s = absurd (no_pass (sym d.0 ∙ s))
said_takes Refuses k due old new passed o step a e d s = absurd (no_refusal (sym d ∙ s))

pub said_refuses : (r : Reply) (k : Kind) (due old new : List Word) (passed o : Outcome) (step : Step) → o ≡ after_reply r k due passed
    → Does r step old new → step ≡ steps.Refuses → IsSaid o says.Refuses
said_refuses (Takes words argument) k due old new passed o step e d s = absurd (no_refusal (sym s ∙ d.0))
said_refuses Passes k due old new passed o step e d s = absurd (passed_refused (sym d.0 ∙ s))
said_refuses Refuses k due old new passed o step e d s = rw e refl

pub is_passed : (r : Reply) (k : Kind) (due old new : List Word) (passed : Outcome) (step : Step) → Does r step old new → step ≡ steps.Passes
    → (after_reply r k due passed ≡ passed) × (new ≡ old)
is_passed (Takes words argument) k due old new passed step d s = absurd (no_pass (sym s ∙ d.0))
is_passed Passes k due old new passed step d s = (refl, d.1)
is_passed Refuses k due old new passed step d s = absurd (passed_refused (sym s ∙ d))

pub is_taken : (r : Reply) (k : Kind) (old new : List Word) (passed o : Outcome) (step : Step) (a named : Bool) → o ≡ after_reply r k (reverse old) passed
    → Does r step old new → step ≡ steps.Takes a → named ≡ named_by a k → IsTaken o true (reverse new) named
is_taken (Takes words argument) k old new passed o step a named e d s n =
    rw e (refl, ap reverse d.1 ∙ reverse-append old words, n ∙ ap (λ b. named_by b k) (same_argument (sym s ∙ d.0)))
is_taken Passes k old new passed o step a named e d s n = absurd (no_pass (sym d.0 ∙ s))
is_taken Refuses k old new passed o step a named e d s n = absurd (no_refusal (sym d ∙ s))

pub is_refused : (r : Reply) (k : Kind) (due old new words : List Word) (passed o : Outcome) (step : Step) (named : Bool) → o ≡ after_reply r k due passed
    → Does r step old new → step ≡ steps.Refuses → IsTaken o false words named
is_refused (Takes words argument) k due old new due_then passed o step named e d s = absurd (no_refusal (sym s ∙ d.0))
is_refused Passes k due old new due_then passed o step named e d s = absurd (passed_refused (sym d.0 ∙ s))
is_refused Refuses k due old new due_then passed o step named e d s = rw e refl

-- the words without the next are fewer
pub fewer : (words others new : List Word) (word : Word) → words ≡ others ++ word ∷ [] → new ≡ others → length new < length words
fewer words others new word e h = omega (arith, ap length e, ap length h, length-append others (word ∷ []))

module _ (first words others old new : List Word) (word : Word) (named : Bool) (k : Kind) (step : Step) (e : words ≡ others ++ word ∷ []) where
  abbrev so : outcome (reverse first) named k ≡ outcome (reverse words) named k
      → outcome (reverse first) named k ≡ after_reply (reply word named k) k (reverse others) (outcome (reverse others) named k)
  so i = i ∙ one_more words others word named k e

  pub ask_takes : (a : Bool) → outcome (reverse first) named k ≡ outcome (reverse words) named k → Does (reply word named k) step old new
      → step ≡ steps.Takes a → IsSaid (outcome (reverse first) named k) says.Takes
  ask_takes a i d s = said_takes (reply word named k) k (reverse others) old new _ _ step a (so i) d s

  pub ask_refuses : outcome (reverse first) named k ≡ outcome (reverse words) named k → Does (reply word named k) step old new
      → step ≡ steps.Refuses → IsSaid (outcome (reverse first) named k) says.Refuses
  ask_refuses i d s = said_refuses (reply word named k) k (reverse others) old new _ _ step (so i) d s

  pub ask_passes : outcome (reverse first) named k ≡ outcome (reverse words) named k → Does (reply word named k) step old new
      → step ≡ steps.Passes → outcome (reverse first) named k ≡ outcome (reverse others) named k
  ask_passes i d s = so i ∙ (is_passed (reply word named k) k (reverse others) old new _ step d s).0

module _ (o : Outcome) (words others new : List Word) (word : Word) (named : Bool) (k : Kind) (step : Step) (e : words ≡ others ++ word ∷ [])
    (i : o ≡ outcome (reverse words) named k) (d : Does (reply word named k) step others new) where
  abbrev then_so : o ≡ after_reply (reply word named k) k (reverse others) (outcome (reverse others) named k)
  then_so = i ∙ one_more words others word named k e

  pub take_takes : (a now : Bool) → step ≡ steps.Takes a → now ≡ named_by a k → IsTaken o true (reverse new) now
  take_takes a now s n = is_taken (reply word named k) k others new _ o step a now then_so d s n

  pub take_refuses : (now : Bool) → step ≡ steps.Refuses → IsTaken o false (reverse new) now
  take_refuses now s = is_refused (reply word named k) k (reverse others) others new (reverse new) _ o step now then_so d s

  pub take_passes : step ≡ steps.Passes → o ≡ outcome (reverse new) named k
  take_passes s =
      let p = is_passed (reply word named k) k (reverse others) others new (outcome (reverse others) named k) step d s in
      then_so ∙ p.0 ∙ ap (λ l. outcome (reverse l) named k) (sym p.1)

  pub take_fewer : step ≡ steps.Passes → length new < length words
  take_fewer s = fewer words others new word e (is_passed (reply word named k) k (reverse others) others new (outcome (reverse others) named k) step d s).1
