-- Which arguments a call may have (Starlark specification, "Function and method calls").
use Rattle.std.specs.Prelude.{◌≡◌, List as Seq, [], ◌∷◌, ◌++◌, map, Bool, true, false, not, Option, Some, None, IfSome, Result}
use Rattle.std.specs.List.{All, IsDistinct, list_any}
use Rattle.std.specs.Option.{option_or}
use Rattle.std.specs.Str.{bytes_eq}
use Rattle.starlark_lexer.specs.Tokens.{Text}
use Rattle.starlark_lexer.specs.declared.span.Spanned.{Spanned}
use Rattle.starlark_tree.specs.Ast as t
use Rattle.starlark_tree.specs.Ast.{Payloads, Argument}
use Rattle.starlark_tree.specs.Views.{argument_of}
use Rattle.starlark_tree.specs.declared.ast.ArgumentP.{ArgumentP}
use Rattle.starlark_spec.specs.Faults.{Fault}
use Rattle.starlark_checks.specs.Faults.{fault_if, first_fault, miscalled, unless_fault}
use Rattle.starlark_checks.specs.declared.call.ArgumentKind.{ArgumentKind}
use Rattle.starlark_checks.specs.declared.call.ArgumentKind.TheVariants as kind
use Rattle.starlark_spec.specs.declared.error.CallError.{CallError}
use Rattle.starlark_spec.specs.declared.error.CallError.TheVariants as rule

module _ {P : Payloads} where
  abbrev pub kind_of : Argument P → ArgumentKind
  kind_of (t.Positional s e) = kind.Positional
  kind_of (t.Named s w e) = kind.Named
  kind_of (t.Star s e) = kind.Star
  kind_of (t.StarStar s e) = kind.StarStar

  abbrev pub is_positional : Argument P → Bool
  is_positional (t.Positional s e) = true
  is_positional _ = false

  -- `*e` or `**e`
  abbrev pub is_unpacked : Argument P → Bool
  is_unpacked (t.Star s e) = true
  is_unpacked (t.StarStar s e) = true
  is_unpacked _ = false

  abbrev pub is_star_star : Argument P → Bool
  is_star_star (t.StarStar s e) = true
  is_star_star _ = false

  abbrev pub has_name : Text → Argument P → Bool
  has_name text (t.Named s w e) = bytes_eq w.text text
  has_name text _ = false

  -- the names, in order
  abbrev pub names : Seq (Argument P) → Seq Text
  names [] = []
  names (t.Positional s e ∷ rest) = names rest
  names (t.Named s w e ∷ rest) = w.text ∷ names rest
  names (t.Star s e ∷ rest) = names rest
  names (t.StarStar s e ∷ rest) = names rest

  -- the first of them, if there is one, is of another kind
  abbrev pub Stops : ArgumentKind → Seq (Argument P) → Type 0
  Stops k [] = Unit {0}
  Stops k (a ∷ rest) = kind_of a ≡ k → ⊥

  -- the first of the two is not allowed after the second
  abbrev pub must_precede : Argument P → Argument P → Bool
  must_precede (t.Positional s e) a = not (is_positional a)
  must_precede (t.Named s w e) a = is_unpacked a
  must_precede (t.Star s e) a = is_unpacked a
  must_precede (t.StarStar s e) a = is_star_star a

  -- the rule that the argument breaks if it is after one that it must precede
  abbrev pub rule_of : Argument P → CallError
  rule_of (t.Positional s e) = rule.PositionalAfterNonPositional
  rule_of (t.Named s w e) = rule.NamedAfterArgs
  rule_of (t.Star s e) = rule.ArgsAfterArgs
  rule_of (t.StarStar s e) = rule.MultipleKwargs

  -- an argument after one that it must precede
  abbrev pub misplaced : Seq (Argument P) → Argument P → Option Fault
  misplaced before a = fault_if (list_any (must_precede a) before) (miscalled (rule_of a) (t.argument_span a))

  -- a name that an earlier argument has
  abbrev pub repeated : Seq (Argument P) → Argument P → Option Fault
  repeated before (t.Named s w e) = fault_if (list_any (has_name w.text) before) (miscalled rule.RepeatedName w.span)
  repeated before _ = None

  abbrev pub argument_fault : Seq (Argument P) → Argument P → Option Fault
  argument_fault before a = option_or (misplaced before a) (repeated before a)

  abbrev pub call_fault : Seq (Argument P) → Option Fault
  call_fault arguments = first_fault argument_fault [] arguments

  -- the arguments, or their first fault from the left
  abbrev pub checked : Seq (Argument P) → Result (Seq (Argument P)) Fault
  checked arguments = unless_fault (call_fault arguments) arguments

abbrev pub optional : {A : Type 0} → Option A → Seq A
optional None = []
optional (Some x) = x ∷ []

module _ {P A B C D E : Type 0} where
  abbrev pub IsOfKind : ArgumentKind → Spanned (ArgumentP P A B C D E) → Type 0
  IsOfKind k a = kind_of (argument_of a) ≡ k

  -- the arguments are the four parts in order, each of its kind, and no name comes twice
  pub record Splits (args pos named : Seq (Spanned (ArgumentP P A B C D E))) (star star_star : Option (Spanned (ArgumentP P A B C D E))) : Type 0 where
    pub joined : args ≡ pos ++ (named ++ (optional star ++ optional star_star))
    pub positional : All (IsOfKind kind.Positional) pos
    pub by_name : All (IsOfKind kind.Named) named
    pub distinct : IsDistinct bytes_eq (names (map argument_of named))
    pub one_star : IfSome star (IsOfKind kind.Star)
    pub one_star_star : IfSome star_star (IsOfKind kind.StarStar)

  -- the arguments are four such parts
  pub record HasParts (args : Seq (Spanned (ArgumentP P A B C D E))) : Type 0 where
    pub pos : Seq (Spanned (ArgumentP P A B C D E))
    pub named : Seq (Spanned (ArgumentP P A B C D E))
    pub star : Option (Spanned (ArgumentP P A B C D E))
    pub star_star : Option (Spanned (ArgumentP P A B C D E))
    pub splits : Splits args pos named star star_star
