-- The lines of what is listed of a module.
use Rattle.std.proofs.Common.{◌≡◌, List, map, sym, ap, ◌∙◌}
use Rattle.std.specs.Prelude.{flat_map}
use Rattle.std.proofs.lemmas.List.Folds.{flat_map-map}
use Rattle.starlark_syntax.specs.lexer.Places.{File}
use Rattle.starlark_syntax.specs.lexer.Tokens.{Text}
use Rattle.starlark_syntax.specs.outline.Listed.{in_file}

-- what is listed of a file is written like what it was listed from
pub lines_of_list : {A X : Type 0} (lines : File → X → Text) (seen : A → File × X) (xs : List A) (file : File) (ys : List X)
    → map seen xs ≡ map (in_file file) ys → flat_map (lines file) ys ≡ flat_map (λ a. lines (seen a).0 (seen a).1) xs
lines_of_list {A = A} {X = X} lines seen xs file ys same =
    let each : File × X → Text = λ p. lines p.0 p.1 in
    sym (sym (flat_map-map each seen xs) ∙ ap (flat_map each) same ∙ flat_map-map each (in_file file) ys)
