-- The comparison of kinds of arguments.
use denote.Enum.Bare.{same_true, sameb}
use Rattle.std.proofs.Common.{◌≡◌, Bool, true, false, not, rules, refl, sym, subst}
use Rattle.starlark_checks.proofs.Negations.{not_false, not_true}
use Rattle.starlark_checks.specs.contracts.call.ArgumentKind.{the_type}
use Rattle.starlark_checks.specs.declared.call.ArgumentKind.{ArgumentKind}
use Rattle.starlark_checks.specs.declared.call.ArgumentKind.TheVariants as kind

same_self : (x : ArgumentKind) → true ≡ sameb the_type x x
same_self kind.Positional = refl
same_self kind.Named = refl
same_self kind.Star = refl
same_self kind.StarStar = refl

contrary : (b : Bool) → true ≡ b → b ≡ false → ⊥
contrary true is isnt = cc
contrary false is isnt = cc

pub kinds_agree : (x y : ArgumentKind) → sameb the_type x y ≡ true → x ≡ y
kinds_agree x y is = same_true the_type (search rules) x y is

pub kinds_same : (x y : ArgumentKind) → false ≡ not (sameb the_type x y) → x ≡ y
kinds_same x y is = kinds_agree x y (not_false (sameb the_type x y) is)

pub kinds_differ : (x y : ArgumentKind) → sameb the_type x y ≡ false → x ≡ y → ⊥
kinds_differ x y isnt same = let S : ArgumentKind → Type 0 = λ z. sameb the_type x z ≡ false in
    contrary (sameb the_type x x) (same_self x) (subst S (sym same) isnt)

pub kinds_other : (x y : ArgumentKind) → true ≡ not (sameb the_type x y) → x ≡ y → ⊥
kinds_other x y is = kinds_differ x y (not_true (sameb the_type x y) is)
