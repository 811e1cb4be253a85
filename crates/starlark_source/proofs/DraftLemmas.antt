-- Pieces as marks on a page: what is written one after another, in parentheses, and as lists.
use Rattle.std.proofs.Common.{◌≡◌, ℕ, List, [], ◌∷◌, ◌++◌, codes, map, refl, ap, ◌∙◌}
use Rattle.std.specs.List.{flat_map}
use Rattle.std.proofs.lemmas.Grind.{flat_map-append}
use Rattle.starlark_lexer.specs.Tokens.{Comma, ClosingRound, ClosingSquare, ClosingCurly}
use Rattle.starlark_tree.specs.Operators.{operator_text}
use Rattle.starlark_tree.specs.declared.ast.operator.BinOp.{BinOp}
use Rattle.starlark_tree.specs.declared.ast.operator.BinOp.TheVariants as op
use Rattle.starlark_source.specs.Pieces.{Pieces, token, comma, listed, in_tuple, in_round, in_square, in_curly, bare}
use Rattle.starlark_source.specs.Pages.{Mark, byte, Draft, say}
use Rattle.starlark_source.specs.Drafts.{piece_marks, draft, drafts}
use Rattle.starlark_source.specs.Drafted.{tuple_drafts, bare_drafts}
use Rattle.starlark_source.specs.Source.{operator}

pub draft_two : (a b : Pieces) → draft (a ++ b) ≡ draft a ++ draft b
draft_two a b = flat_map-append piece_marks a b

pub draft_three : (a b c : Pieces) → draft (a ++ (b ++ c)) ≡ draft a ++ (draft b ++ draft c)
draft_three a b c = draft_two a (b ++ c) ∙ ap (λ l. draft a ++ l) (draft_two b c)

pub draft_four : (a b c d : Pieces) → draft (a ++ (b ++ (c ++ d))) ≡ draft a ++ (draft b ++ (draft c ++ draft d))
draft_four a b c d = draft_two a (b ++ (c ++ d)) ∙ ap (λ l. draft a ++ l) (draft_three b c d)

pub draft_five : (a b c d e : Pieces) → draft (a ++ (b ++ (c ++ (d ++ e)))) ≡ draft a ++ (draft b ++ (draft c ++ (draft d ++ draft e)))
draft_five a b c d e = draft_two a (b ++ (c ++ (d ++ e))) ∙ ap (λ l. draft a ++ l) (draft_four b c d e)

pub round_draft : (ps : Pieces) → draft (in_round ps) ≡ say (codes "(") ++ (draft ps ++ say (codes ")"))
round_draft ps = ap (λ l. byte 40 ∷ l) (draft_two ps (token ClosingRound ∷ []))

pub square_draft : (ps : Pieces) → draft (in_square ps) ≡ say (codes "[") ++ (draft ps ++ say (codes "]"))
square_draft ps = ap (λ l. byte 91 ∷ l) (draft_two ps (token ClosingSquare ∷ []))

pub curly_draft : (ps : Pieces) → draft (in_curly ps) ≡ say (codes "{") ++ (draft ps ++ say (codes "}"))
curly_draft ps = ap (λ l. byte 123 ∷ l) (draft_two ps (token ClosingCurly ∷ []))

pub operator_draft : (o : BinOp) → draft (operator o) ≡ say (operator_text o)
operator_draft op.Or = refl
operator_draft op.And = refl
operator_draft op.Equal = refl
operator_draft op.NotEqual = refl
operator_draft op.Less = refl
operator_draft op.Greater = refl
operator_draft op.LessOrEqual = refl
operator_draft op.GreaterOrEqual = refl
operator_draft op.In = refl
operator_draft op.NotIn = refl
operator_draft op.Subtract = refl
operator_draft op.Add = refl
operator_draft op.Multiply = refl
operator_draft op.Percent = refl
operator_draft op.Divide = refl
operator_draft op.FloorDivide = refl
operator_draft op.BitAnd = refl
operator_draft op.BitOr = refl
operator_draft op.BitXor = refl
operator_draft op.LeftShift = refl
operator_draft op.RightShift = refl

module _ {X : Type 0} (source : X → Pieces) (one : X → Draft) (same : (x : X) → draft (source x) ≡ one x) where
  more_draft : (xs : List X) → draft (flat_map (λ (p : Pieces). comma ++ p) (map source xs)) ≡ flat_map (λ (x : X). say (codes ", ") ++ one x) xs
  more_draft [] = refl
  more_draft (x ∷ xs) =
      draft_two (comma ++ source x) (flat_map (λ (p : Pieces). comma ++ p) (map source xs))
      ∙ ap (λ l. (say (codes ", ") ++ l) ++ draft (flat_map (λ (p : Pieces). comma ++ p) (map source xs))) (same x)
      ∙ ap (λ l. (say (codes ", ") ++ one x) ++ l) (more_draft xs)

  pub listed_draft : (xs : List X) → draft (listed (map source xs)) ≡ drafts one (codes ", ") xs
  listed_draft [] = refl
  listed_draft (x ∷ xs) =
      draft_two (source x) (flat_map (λ (p : Pieces). comma ++ p) (map source xs))
      ∙ ap (λ l. l ++ draft (flat_map (λ (p : Pieces). comma ++ p) (map source xs))) (same x)
      ∙ ap (λ l. one x ++ l) (more_draft xs)

  pub tuple_draft : (xs : List X) → draft (in_tuple (map source xs)) ≡ tuple_drafts one xs
  tuple_draft [] = refl
  tuple_draft (x ∷ []) = draft_two (source x) (token Comma ∷ []) ∙ ap (λ l. l ++ say (codes ",")) (same x)
  tuple_draft (x ∷ y ∷ xs) = listed_draft (x ∷ y ∷ xs)

  pub bare_draft : (xs : List X) → draft (bare (map source xs)) ≡ bare_drafts one xs
  bare_draft [] = refl
  bare_draft (x ∷ []) = round_draft (in_tuple (source x ∷ [])) ∙ ap (λ l. say (codes "(") ++ (l ++ say (codes ")"))) (tuple_draft (x ∷ []))
  bare_draft (x ∷ y ∷ xs) = listed_draft (x ∷ y ∷ xs)
