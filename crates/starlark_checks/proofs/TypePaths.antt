-- Paths in memory, and their text.
use Rattle.std.proofs.Common.{◌≡◌, ℕ, ◌<◌, ◌≤◌, ◌+◌, List as Seq, [], ◌∷◌, ◌++◌, map, length, take, get_or, codes, String, Global, string_bytes, ap, sym}
use Rattle.std.proofs.Common.{append_assoc, ◌∙◌}
use Rattle.std.specs.List.{flat_map}
use Rattle.std.proofs.lemmas.List.{map-append, take_more, take_all, flat_map_more}
use Rattle.std.proofs.lemmas.List.Folds.{flat_map-map}
use denote.Ref.{Bor}
use Rattle.starlark_lexer.specs.Tokens.{Text, span_of}
use Rattle.starlark_lexer.specs.declared.span.Spanned.{Spanned}
use Rattle.starlark_tree.specs.Ast.{Word}
use Rattle.starlark_tree.specs.Views.{word, word_at}
use Rattle.starlark_spec.specs.Types as types
use Rattle.starlark_checks.specs.TypeViews.{path_seen}
use Rattle.starlark_checks.specs.declared.type_expr.TypePathP.{TypePathP}

abbrev pub name_after : Spanned (Bor Text) → Word
name_after w = word_at w.node.now (span_of w.span)

abbrev pub after_point : Spanned (Bor Text) → Text
after_point w = codes "." ++ w.node.now

-- one more name
pub names_more : (xs : Seq (Spanned (Bor Text))) (w : Spanned (Bor Text)) (name : Spanned (String Global)) → w.node.now ≡ string_bytes name.node
    → w.span ≡ name.span
    → map name_after (xs ++ w ∷ []) ≡ map name_after xs ++ word name ∷ []
names_more xs w name text span =
    map-append name_after xs (w ∷ [])
    ∙ ap (λ t. map name_after xs ++ word_at t (span_of w.span) ∷ []) text
    ∙ ap (λ s. map name_after xs ++ word_at (string_bytes name.node) (span_of s) ∷ []) span

-- the text of one more name, after a dot
pub text_more : (before : Text) (xs : Seq (Spanned (Bor Text))) (i : ℕ) (x : Spanned (Bor Text)) (start pointed named : Text) → i < length xs
    → x ≡ get_or xs i x
    → start ≡ before ++ flat_map after_point (take i xs) → pointed ≡ start ++ codes "." → named ≡ pointed ++ x.node.now
    → named ≡ before ++ flat_map after_point (take (i + 1) xs)
text_more before xs i x start pointed named within is so_far point name =
    let all : pointed ≡ (before ++ flat_map after_point (take i xs)) ++ codes "." = point ∙ ap (λ t. t ++ codes ".") so_far in
    name ∙ ap (λ t. t ++ x.node.now) all
    ∙ append_assoc (before ++ flat_map after_point (take i xs)) (codes ".") x.node.now
    ∙ flat_map_more after_point before (take i xs) x
    ∙ ap (λ y. before ++ flat_map after_point (take i xs ++ y ∷ [])) is
    ∙ ap (λ ys. before ++ flat_map after_point ys) (sym (take_more xs i x within))

-- the text of all names
pub text_whole : {P A B C D E : Type 0} (path : TypePathP P A B C D E) (xs : Seq (Spanned (Bor Text))) (i : ℕ) → length xs ≤ i → xs ≡ path.rem.items
    → string_bytes path.first.now.node.ident ++ flat_map after_point (take i xs) ≡ types.path_text (path_seen path)
text_whole path xs i end same =
    ap (λ ys. string_bytes path.first.now.node.ident ++ flat_map after_point ys) (take_all i xs end ∙ same)
    ∙ ap (λ t. string_bytes path.first.now.node.ident ++ t) (sym (flat_map-map (λ (w : Word). codes "." ++ w.text) name_after path.rem.items))
