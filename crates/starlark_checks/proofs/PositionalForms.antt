-- Counting the positional parameters, one entry after another.
use Rattle.std.proofs.Common.{◌≡◌, ℕ, ◌<◌, ◌≤◌, ◌+◌, List as Seq, ◌∷◌, map, length, drop, get_or, refl, ap, sym, ◌∙◌, arith, ◌⊎◌, inl, inr}
use Rattle.std.proofs.Common.{Option, Box, Global}
use Rattle.std.proofs.lemmas.List.{at_drop_all}
use Rattle.starlark_lexer.specs.Tokens.{span_of}
use Rattle.starlark_lexer.specs.declared.span.Spanned.{Spanned}
use Rattle.starlark_tree.specs.Ast.{Parameter}
use Rattle.starlark_tree.specs.Views.{parameter_of, parameter_seen, payloads}
use Rattle.starlark_tree.specs.declared.ast.AssignIdentP.{AssignIdentP}
use Rattle.starlark_tree.specs.declared.ast.ParameterP
use Rattle.starlark_tree.specs.declared.ast.TypeExprP.{TypeExprP}
use Rattle.starlark_checks.specs.Parameters.{positional}
use Rattle.starlark_checks.proofs.ParameterForms.{first_left}

one_more : (n m r all : ℕ) → n + m ≡ all → m ≡ 1 + r → (n + 1) + r ≡ all
one_more n m r all h e = omega arith

no_more : (n m all : ℕ) → n + m ≡ all → m ≡ 0 → n ≡ all
no_more n m all h e = omega arith

pub still_within : (n i : ℕ) → n ≤ i → n ≤ i + 1
still_within n i h = omega arith

pub one_within : (n i : ℕ) → n ≤ i → n + 1 ≤ i + 1
one_within n i h = omega arith

module _ {P A B C D E : Type 0} (xs : Seq (Spanned (ParameterP.ParameterP P A B C D E))) (i : ℕ) (n all : ℕ)
    (counted : n + positional (map parameter_of (drop i xs)) ≡ all) where
  -- after the last entry
  pub all_counted : length xs ≤ i → n ≡ all
  all_counted past = no_more n _ all counted (at_drop_all (λ ys. positional (map parameter_of ys)) xs i past)

  module _ (a : Spanned (ParameterP.ParameterP P A B C D E)) (within : i < length xs) (is : a ≡ get_or xs i a) where
    abbrev left : Seq (Parameter (payloads A B C D E))
    left = map parameter_of (drop (i + 1) xs)

    at_entry : n + positional (parameter_of a ∷ left) ≡ all
    at_entry = ap (λ ps. n + positional ps) (sym (first_left parameter_of xs i a within is)) ∙ counted

    pub plain_counted : {w : _} {ty default : _} → a.node ≡ ParameterP.Normal' w ty default → (n + 1) + positional (map parameter_of (drop (i + 1) xs)) ≡ all
    plain_counted e = one_more n _ _ all at_entry (ap (λ p. positional (parameter_seen (span_of a.span) p ∷ left)) e)

    pub slash_counted : a.node ≡ ParameterP.Slash → n + positional (map parameter_of (drop (i + 1) xs)) ≡ all
    slash_counted e = ap (λ p. n + positional (parameter_seen (span_of a.span) p ∷ left)) (sym e) ∙ at_entry

    other_counted : {node : ParameterP.ParameterP P A B C D E} → a.node ≡ node → positional (parameter_seen (span_of a.span) node ∷ left) ≡ 0 → n ≡ all
    other_counted e none = no_more n _ all at_entry (ap (λ p. positional (parameter_seen (span_of a.span) p ∷ left)) e ∙ none)

    -- `*`, `*name` or `**name`
    pub rest_counted : (a.node ≡ ParameterP.NoArgs)
        ⊎ (((w : Spanned (AssignIdentP P A B C D E)) × (ty : Option (Box (Spanned (TypeExprP P A B C D E)) Global)) × (a.node ≡ ParameterP.Args w ty))
        ⊎ ((w : Spanned (AssignIdentP P A B C D E)) × (ty : Option (Box (Spanned (TypeExprP P A B C D E)) Global)) × (a.node ≡ ParameterP.KwArgs w ty)))
        → n ≡ all
    rest_counted (inl e) = other_counted e refl
    rest_counted (inr (inl (w, ty, e))) = other_counted e refl
    rest_counted (inr (inr (w, ty, e))) = other_counted e refl
