-- What is found of a subcommand, from its two parts.
use Rattle.std.proofs.Common.{◌≡◌, Option, Some, None, List, option_map, arith, refl, subst, sym}
use Rattle.std.specs.Prelude.{IsSomeAnd}
use Rattle.clap.specs.Words.{Row, Text, first_of}
use Rattle.starlark_cli.specs.Tool.Words.{Has, HasRequest}
use Rattle.starlark_cli.specs.declared.tool.request.Request.{Request}

pub both_parts : {B X Y : Type 0} (f : B → X × Y) (o : Option B) (n : X) (r : Y) → Some n ≡ option_map (λ b. (f b).0) o
    → Some r ≡ option_map (λ p. p.1) (option_map f o) → option_map f o ≡ Some (n, r)
both_parts f None n r p q = cc
both_parts f (Some b) n r p q = grind arith

pub no_parts : {B X Y : Type 0} (f : B → X × Y) (o : Option B) → None ≡ option_map (λ b. (f b).0) o → option_map f o ≡ None
no_parts f None p = refl
no_parts f (Some b) p = cc

-- a request of what is equal
pub request_in_both : (p q : Text × List Row) (r : Request) → Some p ≡ Some q → HasRequest q.0 q.1 r → HasRequest p.0 p.1 r
request_in_both p q r same h =
    let both : p ≡ q = cc in
    subst (λ (x : Text × List Row). HasRequest x.0 x.1 r) (sym both) h

-- an option whose value is known
pub has_value : (option : Text) (rows : List Row) (word : Text) (P : Text → Type 0) → Some word ≡ first_of option rows → P word → Has option rows P
has_value option rows word P same p = subst (λ (o : Option Text). IsSomeAnd o P) same p

pub value_has : (option : Text) (rows : List Row) (word : Text) (P : Text → Type 0) → Some word ≡ first_of option rows → Has option rows P → P word
value_has option rows word P same h = subst (λ (o : Option Text). IsSomeAnd o P) (sym same) h

pub no_value : (option : Text) (rows : List Row) (P : Text → Type 0) → None ≡ first_of option rows → Has option rows P → ⊥
no_value option rows P same h = subst (λ (o : Option Text). IsSomeAnd o P) (sym same) h
