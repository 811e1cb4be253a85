-- What is returned for a word, from what is returned for its parts.
use Rattle.std.proofs.Common.{◌≡◌, Bool, true, false, List, Some, None, Result, Ok, Err, IfOk, refl, sym, subst, if◌then◌else◌, ◌++◌}
use Rattle.starlark_lexer.specs.declared.kind.Kind.{Kind}
use Rattle.starlark_spec.proofs.Constructors.{not_true, not_false}
use Rattle.starlark_expected.specs.declared.word.Word.{Word}
use Rattle.starlark_expected.specs.declared.reply.Step.{Step}
use Rattle.starlark_expected.proofs.Starts.{begun_after}
use Rattle.starlark_expected.specs.Words.{Start, Begins, must, Does, reply, required_step, Reply, follow}

module _ {E : Type 0} (done : Result Step E) (named : Bool) (k : Kind) (old new : List Word) where
  pub by_word : {w v : Word} → w ≡ v → IfOk done (λ step. Does (reply v named k) step old new) → IfOk done (λ step. Does (reply w named k) step old new)
  by_word e h = subst (λ x. IfOk done (λ step. Does (reply x named k) step old new)) (sym e) h

module _ {E : Type 0} (o : Start) (begun : Result Bool E) (done : Result Step E) (old new : List Word) where
  does_so : (r : Result Bool E) → IfOk r (λ b. Begins o b old new) → (p : Start) → p ≡ o → IfOk (required_step r) (λ step. Does (must false p) step old new)
  does_so (Err e) h p same = tt
  does_so (Ok b) h p same = by_start p b (subst (λ q. Begins q b old new) (sym same) h)
    where
      by_start : (q : Start) (c : Bool) → Begins q c old new → IfOk (required_step {E = E} (Ok c)) (λ step. Does (must false q) step old new)
      by_start (Some words) true g = (refl, g.1)
      by_start None false g = refl
      by_start (Some words) false g = not_true g.0
      by_start None true g = not_false g

  pub does_required : done ≡ required_step begun → IfOk begun (λ b. Begins o b old new) → IfOk done (λ step. Does (must false o) step old new)
  does_required e h = subst (λ d. IfOk d (λ step. Does (must false o) step old new)) (sym e) (does_so begun h o refl)

  pub by_required : (named : Bool) (k : Kind) {w v : Word} → w ≡ v → reply v named k ≡ must false o → done ≡ required_step begun
      → IfOk begun (λ b. Begins o b old new) → IfOk done (λ step. Does (reply w named k) step old new)
  by_required named k {v = v} e f g h =
      by_word done named k old new e (subst (λ r. IfOk done (λ step. Does r step old new)) (sym f) (does_required g h))

-- of two replies, by a test
module _ {E : Type 0} (done : Result Step E) (old new : List Word) where
  pub chosen : (c : Bool) (x y : Reply) → c ≡ true → IfOk done (λ step. Does x step old new) → IfOk done (λ step. Does (if c then x else y) step old new)
  chosen c x y e h = subst (λ b. IfOk done (λ step. Does (if b then x else y) step old new)) (sym e) h

  pub otherwise : (c : Bool) (x y : Reply) → c ≡ false → IfOk done (λ step. Does y step old new) → IfOk done (λ step. Does (if c then x else y) step old new)
  otherwise c x y e h = subst (λ b. IfOk done (λ step. Does (if b then x else y) step old new)) (sym e) h

-- a part after other words
pub does_after : {E : Type 0} (o : Start) (begun : Result Bool E) (done : Result Step E) (old mid new words : List Word) → mid ≡ old ++ words
    → done ≡ required_step begun → IfOk begun (λ b. Begins o b mid new) → IfOk done (λ step. Does (must false (follow words o)) step old new)
does_after o begun done old mid new words e f h =
    does_required (follow words o) begun done old new f (begun_after begun o words old mid new e h (follow words o) refl)
