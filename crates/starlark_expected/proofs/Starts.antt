-- What is due once operands have begun, with all their tails at once.
use Rattle.std.proofs.Common.{◌≡◌, Bool, true, false, List, [], ◌∷◌, ◌++◌, Some, None, Result, Ok, Err, IfOk, refl, sym, ◌∙◌, ap, subst, append_assoc}
use Rattle.starlark_lexer.specs.declared.kind.Kind.{Kind}
use Rattle.starlark_lexer.specs.declared.kind.Kind.TheVariants as kinds
use Rattle.starlark_lexer.specs.Kinds.{is}
use Rattle.starlark_expected.specs.declared.word.Level.{Level}
use Rattle.starlark_expected.specs.declared.word.Level.TheVariants.{Or, And, BitOr, Xor, BitAnd, Shift, Add, Multiply}
use Rattle.starlark_expected.specs.declared.word.Word.{Word}
use Rattle.starlark_expected.specs.declared.word.Word.TheVariants.{ComparisonTail, OperatorTail}
use Rattle.starlark_expected.specs.Words.{Start, follow, Begins, level, loose, operator_tails, operands_start, not_start, unary_start, comp_start}
use Rattle.starlark_spec.proofs.Constructors.{not_false, not_true}

-- parts that begin with one another
follow_more : (x : Word) (words : List Word) (o p : Start) → p ≡ follow words o → follow (x ∷ []) p ≡ follow (x ∷ words) o
follow_more x words None p e = ap (follow (x ∷ [])) e
follow_more x words (Some l) p e = ap (follow (x ∷ [])) e

multiply_tails : (k : Kind) → operands_start (level Multiply) k ≡ follow (operator_tails Multiply) (unary_start k)
multiply_tails k = refl

add_tails : (k : Kind) → operands_start (level Add) k ≡ follow (operator_tails Add) (unary_start k)
add_tails k = follow_more (OperatorTail Add) (operator_tails Multiply) (unary_start k) _ (multiply_tails k)

shift_tails : (k : Kind) → operands_start (level Shift) k ≡ follow (operator_tails Shift) (unary_start k)
shift_tails k = follow_more (OperatorTail Shift) (operator_tails Add) (unary_start k) _ (add_tails k)

bit_and_tails : (k : Kind) → operands_start (level BitAnd) k ≡ follow (operator_tails BitAnd) (unary_start k)
bit_and_tails k = follow_more (OperatorTail BitAnd) (operator_tails Shift) (unary_start k) _ (shift_tails k)

xor_tails : (k : Kind) → operands_start (level Xor) k ≡ follow (operator_tails Xor) (unary_start k)
xor_tails k = follow_more (OperatorTail Xor) (operator_tails BitAnd) (unary_start k) _ (bit_and_tails k)

bit_or_tails : (k : Kind) → operands_start (level BitOr) k ≡ follow (operator_tails BitOr) (unary_start k)
bit_or_tails k = follow_more (OperatorTail BitOr) (operator_tails Xor) (unary_start k) _ (xor_tails k)

tight : (l : Level) (k : Kind) → loose l ≡ false → operands_start (level l) k ≡ follow (operator_tails l) (unary_start k)
tight Multiply k h = multiply_tails k
tight Add k h = add_tails k
tight Shift k h = shift_tails k
tight BitAnd k h = bit_and_tails k
tight Xor k h = xor_tails k
tight BitOr k h = bit_or_tails k
tight l k h = not_false h

and_tails : (k : Kind) → operands_start (level And) k ≡ follow (operator_tails And) (not_start k)
and_tails k = refl

not_tight : (l : Level) (k : Kind) → loose l ≡ true → operands_start (level l) k ≡ follow (operator_tails l) (not_start k)
not_tight And k h = and_tails k
not_tight Or k h = follow_more (OperatorTail Or) (operator_tails And) (not_start k) _ (and_tails k)
not_tight l k h = not_true h

-- the same words, pushed before the part
begins_after : (o : Start) (words : List Word) (b : Bool) (old mid new : List Word) → mid ≡ old ++ words → Begins o b mid new
    → Begins (follow words o) b old new
begins_after None words b old mid new e h = h
begins_after (Some l) words b old mid new e h = (h.0, h.1 ∙ ap (λ m. m ++ l) e ∙ append_assoc old words l)

module _ {E : Type 0} (begun : Result Bool E) (o : Start) (words old mid new : List Word) (e : mid ≡ old ++ words)
    (h : IfOk begun (λ b. Begins o b mid new)) where
  pub begun_after : (p : Start) → p ≡ follow words o → IfOk begun (λ b. Begins p b old new)
  begun_after p same = by_result begun h
    where
      by_result : (r : Result Bool E) → IfOk r (λ b. Begins o b mid new) → IfOk r (λ b. Begins p b old new)
      by_result (Err x) g = tt
      by_result (Ok b) g = subst (λ q. Begins q b old new) (sym same) (begins_after o words b old mid new e g)

not_so : (j : Kind) (c : Bool) → is j kinds.Not ≡ c → c ≡ false → not_start j ≡ comp_start j
not_so j c g f = rw (g, f) refl

module _ {E : Type 0} (begun : Result Bool E) (k : Kind) (old mid new : List Word) {words : List Word} where
  pub begins_loose : (l : Level) → loose l ≡ true → mid ≡ old ++ words → words ≡ operator_tails l → IfOk begun (λ b. Begins (not_start k) b mid new)
      → IfOk begun (λ b. Begins (operands_start (level l) k) b old new)
  begins_loose l f e t h =
      begun_after begun (not_start k) (operator_tails l) old mid new (e ∙ ap (λ w. old ++ w) t) h (operands_start (level l) k) (not_tight l k f)

  pub begins_tight : (l : Level) → loose l ≡ false → mid ≡ old ++ words → words ≡ operator_tails l → IfOk begun (λ b. Begins (unary_start k) b mid new)
      → IfOk begun (λ b. Begins (operands_start (level l) k) b old new)
  begins_tight l f e t h =
      begun_after begun (unary_start k) (operator_tails l) old mid new (e ∙ ap (λ w. old ++ w) t) h (operands_start (level l) k) (tight l k f)

  pub begins_comparison : {first : List Word} → is k kinds.Not ≡ false → first ≡ old ++ ComparisonTail ∷ [] → mid ≡ first ++ words
      → words ≡ operator_tails BitOr
      → IfOk begun (λ b. Begins (unary_start k) b mid new) → IfOk begun (λ b. Begins (not_start k) b old new)
  begins_comparison f c e t h =
      begun_after begun (unary_start k) (ComparisonTail ∷ operator_tails BitOr) old mid new
      (e ∙ ap (λ w. w ++ words) c ∙ append_assoc old (ComparisonTail ∷ []) words ∙ ap (λ w. old ++ ComparisonTail ∷ w) t) h (not_start k)
      (not_so k (is k kinds.Not) refl f ∙ follow_more ComparisonTail (operator_tails BitOr) (unary_start k) _ (bit_or_tails k))
