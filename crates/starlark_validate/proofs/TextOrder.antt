-- What is inside an expression, in the order of the text.
use Rattle.std.proofs.Common.{◌≡◌, ◌<◌, ℕ, arith, List as Seq, [], ◌∷◌, ◌++◌, length, get_or, map, length-append, append-nil, refl, sym, ◌∙◌, ap}
use Rattle.std.specs.List.{flat_map}
use Rattle.std.proofs.lemmas.Grind.{flat_map-append}
use Rattle.std.proofs.lemmas.List.Folds.{flat_map-map, length-flat_map-take}
use Rattle.starlark_tree.specs.Ast as t
use Rattle.starlark_tree.specs.Ast.{Payloads}
use Rattle.starlark_tree.specs.Inside.{inside, below}
use Rattle.starlark_tree.specs.Places.{for_exprs, clauses_exprs, expr_children}
use Rattle.starlark_tree.proofs.InsideLemmas.{below_children}
use Rattle.starlark_validate.specs.Walks.InText.{children_in_text}

module _ {P : Payloads} where
  abbrev all : Seq (t.Expression P) → Seq (t.Expression P)
  all es = flat_map inside es

  -- the order of the text does not change any length
  text_length : (shape : t.Shape P) → length (all (children_in_text shape)) ≡ length (all (expr_children shape))
  text_length (t.Tuple es) = refl
  text_length (t.Dot e w) = refl
  text_length (t.Call e xs) = refl
  text_length (t.Index a i) = refl
  text_length (t.Index2 a i j) = refl
  text_length (t.Slice a start stop step) = refl
  text_length (t.Identifier w p) = refl
  text_length (t.Lambda ps e p) = refl
  text_length (t.Constant l) = refl
  text_length (t.Not e) = refl
  text_length (t.Minus e) = refl
  text_length (t.Plus e) = refl
  text_length (t.BitNot e) = refl
  text_length (t.Op l op r) = refl
  text_length (t.If c v w) = omega (
    arith,
    length-append (inside c) (inside v ++ (inside w ++ [])),
    length-append (inside v) (inside w ++ []),
    length-append (inside v) (inside c ++ (inside w ++ [])),
    length-append (inside c) (inside w ++ []),
  )
  text_length (t.List es) = refl
  text_length (t.Dict ps) = refl
  text_length (t.ListComprehension e for cs) =
      let clauses = for_exprs for ++ clauses_exprs cs in
      omega (
        arith,
        ap length (flat_map-append inside clauses (e ∷ [])),
        length-append (all clauses) (all (e ∷ [])),
        ap length (append-nil (inside e)),
        length-append (inside e) (all clauses),
      )
  text_length (t.DictComprehension k v for cs) =
      let clauses = for_exprs for ++ clauses_exprs cs in
      omega (
        arith,
        ap length (flat_map-append inside clauses (k ∷ v ∷ [])),
        length-append (all clauses) (all (k ∷ v ∷ [])),
        length-append (inside k) (inside v ++ []),
        ap length (append-nil (inside v)),
        length-append (inside k) (inside v ++ all clauses),
        length-append (inside v) (all clauses),
      )
  text_length (t.FString s w es) = refl

-- a child contains less than its expression: the measure of a walk
pub child_falls : {P : Payloads} {R : Type 0} (seen : R → t.Expression P) (rs : Seq R) (i : ℕ) (r : R) (span : _) (shape : t.Shape P)
    → i < length rs → r ≡ get_or rs i r → map seen rs ≡ children_in_text shape → length (inside (seen r)) < length (inside (t.expression span shape))
child_falls seen rs i r span shape within is same =
    let fits = length-flat_map-take (λ x. inside (seen x)) rs i r within in
    let whole : length (flat_map (λ x. inside (seen x)) rs) ≡ length (below shape) =
    ap length (sym (flat_map-map inside seen rs)) ∙ ap (λ es. length (flat_map inside es)) same ∙ text_length shape ∙ sym (ap length (below_children shape)) in
    let there : length (inside (seen r)) ≡ length (inside (seen (get_or rs i r))) = ap (λ x. length (inside (seen x))) is in
    omega (arith, fits, whole, there)
