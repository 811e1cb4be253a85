-- The texts of several things in a row.
use Rattle.std.specs.Prelude.{List as Seq, [], ◌∷◌, ◌++◌, codes}
use Rattle.std.specs.List.{join_by}
use Rattle.starlark_lexer.specs.Tokens.{Text}

-- separated by commas
abbrev pub comma_separated : {X : Type 0} → (X → Text) → Seq X → Text
comma_separated text xs = join_by text (codes ", ") xs

-- the same, with a comma after a single one
abbrev pub tuple_parts : {X : Type 0} → (X → Text) → Seq X → Text
tuple_parts text [] = []
tuple_parts text (x ∷ []) = text x ++ codes ","
tuple_parts text (x ∷ y ∷ xs) = comma_separated text (x ∷ y ∷ xs)

abbrev pub listed : Seq Text → Text
listed texts = comma_separated (λ text. text) texts

abbrev pub in_tuple : Seq Text → Text
in_tuple texts = tuple_parts (λ text. text) texts
