-- The faults of what is made of parts.
use Rattle.std.proofs.Common.{◌≡◌, Option, Some, None, Result, Ok, Err, refl, sym, ap, subst, ◌∙◌, IsErrAnd}
use Rattle.std.specs.Option.{option_or}
use Rattle.starlark_spec.specs.Faults.{Fault}
use Rattle.starlark_spec.specs.Targets.{map_ok, both}
use Rattle.starlark_spec.specs.Machine.Faults.{fault_of}
use Rattle.starlark_spec.specs.Answers.{Answer}
use Rattle.starlark_spec.specs.Answers.Answer.{module_of, memory, lexer, unexpected_token, unexpected_end, broken_rule}
use Rattle.starlark_spec.specs.Refusals.{refused}
use Rattle.starlark_parse_build.specs.Check.Checks.{Finds, Names, NamesFault}
use Rattle.starlark_spec.specs.declared.refusal.Refusal.{Refusal}
use Rattle.starlark_spec.specs.declared.refusal.Refusal.TheVariants.{Memory}

pub fault_map : {A B : Type 0} (f : A → B) (r : Result A Fault) → fault_of (map_ok f r) ≡ fault_of r
fault_map f (Ok x) = refl
fault_map f (Err e) = refl

pub fault_both : {A B C : Type 0} (f : A → B → C) (a : Result A Fault) (b : Result B Fault) → fault_of (both f a b) ≡ option_or (fault_of a) (fault_of b)
fault_both f (Ok x) b = fault_map (f x) b
fault_both f (Err e) b = refl

-- a fault that names one thing names another with the same fault
answer_same : (f g : Option Fault) (a : Answer) → ((x : Fault) → f ≡ Some x → g ≡ Some x) → NamesFault f a → NamesFault g a
answer_same f g memory same names = tt
answer_same f g (broken_rule fault) same names = same fault names
answer_same f g (module_of s) same names = absurd names
answer_same f g (lexer fault) same names = absurd names
answer_same f g (unexpected_token span) same names = absurd names
answer_same f g (unexpected_end span) same names = absurd names

pub names_same : (f g : Option Fault) (e : Refusal) → ((x : Fault) → f ≡ Some x → g ≡ Some x) → Names f e → Names g e
names_same f g e same names = answer_same f g (refused e) same names

-- the fault of the first of two is that of both
pub names_first : (f g : Option Fault) (e : Refusal) → Names f e → Names (option_or f g) e
names_first f g e names = names_same f (option_or f g) e (λ x is. ap (λ o. option_or o g) is) names

-- equal faults are found alike
pub finds_same : {A : Type 0} (f g : Option Fault) (r : Result A Refusal) → f ≡ g → Finds f r → Finds g r
finds_same f g r same finds = subst (λ x. Finds x r) same finds

-- an error that is passed on
pub found_alike : {Y : Type 0} (f : Option Fault) (e : Refusal) (whole : Result Y Refusal) → Names f e → IsErrAnd whole (λ y. y ≡ e) → Finds f whole
found_alike f e (Ok y) names is = absurd is
found_alike f e (Err y) names is = subst (λ x. Names f x) (sym is) names

-- out of memory
pub found_memory : {Y : Type 0} (f : Option Fault) (whole : Result Y Refusal) → IsErrAnd whole (λ y. y ≡ Memory) → Finds f whole
found_memory f whole is = found_alike f Memory whole tt is

-- none in the first of two: what is found in the second is found in both
pub finds_second : {A : Type 0} (f g whole : Option Fault) (r : Result A Refusal) → f ≡ None → option_or f g ≡ whole → Finds g r → Finds whole r
finds_second f g whole r none is finds = finds_same g whole r (sym (ap (λ o. option_or o g) none) ∙ is) finds

-- what is there without a fault
pub no_fault : {A : Type 0} (r : Result A Fault) (x : A) → r ≡ Ok x → fault_of r ≡ None
no_fault r x is = ap fault_of is
