-- What is written of lists.
use Rattle.std.proofs.Common.{◌≡◌, List, [], ◌∷◌, ◌++◌, append_assoc, append-nil, map, sym, ap, ◌∙◌}
use Rattle.std.specs.Prelude.{flat_map}
use Rattle.std.proofs.lemmas.List.Folds.{flat_map-map}
use Rattle.starlark_lexer.specs.Places.{File}
use Rattle.starlark_lexer.specs.Tokens.{Text}
use Rattle.starlark_passes.specs.Outline.Listed.{in_file}

-- what is listed of a file writes as what it was listed from
pub lines_of_list : {A X : Type 0} (line : File → X → Text) (seen : A → File × X) (xs : List A) (file : File) (ys : List X)
    → map seen xs ≡ map (in_file file) ys → flat_map (line file) ys ≡ flat_map (λ a. line (seen a).0 (seen a).1) xs
lines_of_list {A = A} {X = X} line seen xs file ys same =
    let each : File × X → Text = λ p. line p.0 p.1 in
    sym (sym (flat_map-map each seen xs) ∙ ap (flat_map each) same ∙ flat_map-map each (in_file file) ys)

-- one more part of those that are left
pub left_more : {X : Type 0} (f : X → Text) (s t : List X) (x : X) (before after whole : Text) → s ≡ x ∷ t → after ≡ before ++ f x
    → before ++ flat_map f s ≡ whole → after ++ flat_map f t ≡ whole
left_more f s t x before after whole split added invariant =
    ap (λ l. l ++ flat_map f t) added ∙ append_assoc before (f x) (flat_map f t) ∙ ap (λ l. before ++ flat_map f l) (sym split) ∙ invariant

pub left_none : {X : Type 0} (f : X → Text) (s : List X) (before whole : Text) → s ≡ [] → before ++ flat_map f s ≡ whole → before ≡ whole
left_none f s before whole none invariant = sym (append-nil before) ∙ ap (λ l. before ++ flat_map f l) (sym none) ∙ invariant
