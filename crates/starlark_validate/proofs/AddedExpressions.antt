-- Expressions are added to those that were found.
use Rattle.std.proofs.Common.{◌≡◌, ℕ, ◌<◌, ◌+◌, List, [], ◌∷◌, ◌++◌, length, get_or, take, map, Result, Ok, Err, sym, ap, ◌∙◌, append_assoc, append-nil}
use Rattle.std.specs.List.{flat_map}
use Rattle.std.specs.declared.alloc.AllocError.{AllocError}
use Rattle.std.proofs.lemmas.List.{map_push, take_more}
use Rattle.std.proofs.lemmas.List.Concat.{flat_map-append}
use denote.Ref.{Bor}
use Rattle.starlark_lexer.specs.declared.span.Spanned.{Spanned}
use Rattle.starlark_tree.specs.declared.ast.ExprP.{ExprP}
use Rattle.starlark_tree.specs.Ast as t
use Rattle.starlark_tree.specs.Places.{behind}
use Rattle.starlark_tree.specs.Views.{expression_of, payloads}
use Rattle.starlark_validate.specs.Walks.Children.{Adds}

module _ {P A B C D E : Type 0} {before after : List (Bor (Spanned (ExprP P A B C D E)))} where
  pub then : {V W F : Type 0} {x : W} {ps qs : List (t.Expression (payloads A B C D E))} {last : List (Bor (Spanned (ExprP P A B C D E)))} {answer : Result V F}
      → Adds {V = W} {F = F} before after ps (Ok x) → Adds after last qs answer → Adds before last (ps ++ qs) answer
  then {ps = ps} {qs = qs} {answer = Ok y} p q = record { adds = q.adds ∙ ap (λ rs. rs ++ qs) p.adds ∙ append_assoc (map (behind expression_of) before) ps qs }
  then {answer = Err e} p q = record { adds = tt }

  pub at_places : {V F : Type 0} {ps qs : List (t.Expression (payloads A B C D E))} {answer : Result V F} → ps ≡ qs → Adds before after ps answer
      → Adds before after qs answer
  at_places {answer = Ok x} e p = record { adds = p.adds ∙ ap (λ qs. map (behind expression_of) before ++ qs) e }
  at_places {answer = Err y} e p = record { adds = tt }

-- what a loop has added so far
abbrev pub SoFar : {P A B C D E : Type 0} → List (Bor (Spanned (ExprP P A B C D E))) → List (Bor (Spanned (ExprP P A B C D E)))
    → List (t.Expression (payloads A B C D E)) → Type 0
SoFar before after places = Adds {V = Unit {0}} {F = AllocError} before after places (Ok tt)

-- a loop over a list, for each of whose items its expressions are added
module _ {K X : Type 0} (places : K → List X) (xs : List K) (i : ℕ) (x : K) (within : i < length xs) (is : x ≡ get_or xs i x) where
  pub grown : flat_map places (take i xs) ++ places x ≡ flat_map places (take (i + 1) xs)
  grown =
      sym (ap (flat_map places) (take_more xs i x within ∙ ap (λ (y : K). take i xs ++ y ∷ []) (sym is))
      ∙ flat_map-append places (take i xs) (x ∷ [])
      ∙ ap (λ (ys : List X). flat_map places (take i xs) ++ ys) (append-nil (places x)))

-- the same if each item is one expression
module _ {K X : Type 0} (place : K → X) (xs : List K) (i : ℕ) (x : K) (within : i < length xs) (is : x ≡ get_or xs i x) where
  pub grown_by_one : map place (take i xs) ++ place x ∷ [] ≡ map place (take (i + 1) xs)
  grown_by_one = sym (ap (map place) (take_more xs i x within ∙ ap (λ (y : K). take i xs ++ y ∷ []) (sym is)) ∙ map_push place (take i xs) x)
