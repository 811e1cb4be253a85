-- The kinds of faults, which do not depend on spans.
use Rattle.std.proofs.Common.{◌≡◌, List as Seq, [], ◌∷◌, ◌++◌, refl, sym, ap, ap₂, ◌∙◌, Bool, true, false, not, Option, Some, None}
use Rattle.std.specs.Prelude.{map, option_map, option_to_list}
use Rattle.std.specs.List.{list_any}
use Rattle.std.specs.Option.{option_or}
use Rattle.std.proofs.lemmas.List.{map-append}
use Rattle.starlark_lexer.specs.Tokens.{Span}
use Rattle.starlark_spec.specs.Faults.{Fault, rule_fault as fault, Rule}
use Rattle.starlark_checks.specs.Faults.{fault_if, first_fault}
use Rattle.starlark_validate.specs.KeptTreeFaults.{listed_if}

abbrev pub kind_of : Fault → Rule
kind_of f = f.rule

abbrev pub kinds : Seq Fault → Seq Rule
kinds fs = map kind_of fs

abbrev pub kind_in : Option Fault → Option Rule
kind_in o = option_map kind_of o

pub both_same : (a b c d : Seq Fault) → kinds a ≡ kinds c → kinds b ≡ kinds d → kinds (a ++ b) ≡ kinds (c ++ d)
both_same a b c d p q = map-append kind_of a b ∙ ap₂ (λ (xs ys : Seq Rule). xs ++ ys) p q ∙ sym (map-append kind_of c d)

pub listed_same : (o o' : Option Fault) → kind_in o ≡ kind_in o' → kinds (option_to_list o) ≡ kinds (option_to_list o')
listed_same None None e = refl
listed_same (Some f) (Some g) e = cc
listed_same None (Some g) e = absurd (cc)
listed_same (Some f) None e = absurd (cc)

-- if the tests are equal, so is what is rejected
pub if_same : (b b' : Bool) (k : Rule) (s s' : Span) → b ≡ b' → kind_in (fault_if b (fault k s)) ≡ kind_in (fault_if b' (fault k s'))
if_same true true k s s' e = refl
if_same false false k s s' e = refl
if_same true false k s s' e = absurd (cc)
if_same false true k s s' e = absurd (cc)

pub listed_if_same : (b b' : Bool) (k : Rule) (s s' : Span) → b ≡ b' → kinds (listed_if b (fault k s)) ≡ kinds (listed_if b' (fault k s'))
listed_if_same b b' k s s' e = listed_same (fault_if b (fault k s)) (fault_if b' (fault k s')) (if_same b b' k s s' e)

pub or_same : (a a' b b' : Option Fault) → kind_in a ≡ kind_in a' → kind_in b ≡ kind_in b' → kind_in (option_or a b) ≡ kind_in (option_or a' b')
or_same None None b b' e f = f
or_same (Some x) (Some y) b b' e f = e
or_same None (Some y) b b' e f = absurd (cc)
or_same (Some x) None b b' e f = absurd (cc)

module _ {A : Type 0} (u : A → A) where
  pub any_same : (p q : A → Bool) → ((x : A) → p (u x) ≡ q x) → (xs : Seq A) → list_any p (map u xs) ≡ list_any q xs
  any_same p q h [] = refl
  any_same p q h (x ∷ xs) = rw (h x, any_same p q h xs) refl

  pub first_same : (after : Seq A → A → Option Fault) → ((before : Seq A) (x : A) → kind_in (after (map u before) (u x)) ≡ kind_in (after before x))
      → (before xs : Seq A)
      → kind_in (first_fault after (map u before) (map u xs)) ≡ kind_in (first_fault after before xs)
  first_same after h before [] = refl
  first_same after h before (x ∷ xs) = or_same (after (map u before) (u x)) (after before x) (first_fault after (map u before ++ u x ∷ []) (map u xs))
      (first_fault after (before ++ x ∷ []) xs)
      (h before x)
      (ap (λ (before' : Seq A). kind_in (first_fault after before' (map u xs))) (sym (map-append u before (x ∷ [])))
      ∙ first_same after h (before ++ x ∷ []) xs)
