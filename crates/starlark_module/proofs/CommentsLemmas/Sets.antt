-- Sets of names, through their texts.
use Rattle.std.proofs.Common.{◌≡◌, ℕ, ◌+◌, ◌<◌, Bool, true, false, cond, ◌||◌, List, length, take, get_or, map, String, string_bytes, Any, IsTrue, Contains}
use Rattle.std.proofs.Common.{◌↔◌, refl, sym, ap, ap₂, ◌∙◌}
use Rattle.std.specs.Str.{bytes_eq}
use Rattle.std.proofs.lemmas.List.Folds.{Any-from_list_any, list_any-from_Any, list_any_more}
use Rattle.std.proofs.lemmas.Bool.Decides.{Decides-like, same_from_decides}
use Rattle.std.proofs.lemmas.Slice.Eq.{bytes_eq-Decides}
use Rattle.starlark_module.proofs.CommentsLemmas.Quantified.{contains_made, made_contains}
use Rattle.starlark_module.specs.Comments.Names.{is_listed}

one_or : (a b : Bool) → cond b true a ≡ (a || b)
one_or true true = refl
one_or true false = refl
one_or false true = refl
one_or false false = refl

turned : (xs ys : List ℕ) → bytes_eq xs ys ≡ bytes_eq ys xs
turned xs ys = same_from_decides (bytes_eq xs ys) (bytes_eq ys xs) (bytes_eq-Decides xs ys) (Decides-like (bytes_eq ys xs) sym sym (bytes_eq-Decides ys xs))

-- one more name of a list is added to a set
pub one_more_name : {A : Type 0} (text : List ℕ) (ns : List (String A)) (i : ℕ) (n : String A) → i < length ns → n ≡ get_or ns i n → {k : List ℕ}
    → k ≡ string_bytes n → {before after : Bool}
    → before ≡ is_listed text (take i ns) → after ≡ cond (bytes_eq k text) true before → after ≡ is_listed text (take (i + 1) ns)
one_more_name text ns i n within n_is {k} same {before} earlier put =
    put ∙ one_or before (bytes_eq k text) ∙ ap₂ (λ a b. a || b) earlier (turned k text ∙ ap (bytes_eq text) (same ∙ ap string_bytes n_is))
    ∙ sym (list_any_more (λ m. bytes_eq text (string_bytes m)) ns i n within)

-- a name is listed exactly if it is the text of one of the strings
pub listed-Contains : {A : Type 0} {r : Bool} (text : List ℕ) (ns : List (String A)) → r ≡ is_listed text ns → IsTrue r ↔ (Contains (map string_bytes ns) text)
listed-Contains {A} text ns is = (
  λ yes. contains_made string_bytes ns text (same (Any-from_list_any (λ n. bytes_eq text (string_bytes n)) ns (sym is ∙ yes))),
  λ among. is ∙ list_any-from_Any (λ n. bytes_eq text (string_bytes n)) ns (tested (made_contains string_bytes ns text among)),
)
  where
    same : Any (λ (n : String A). bytes_eq text (string_bytes n) ≡ true) ns → Any (λ n. string_bytes n ≡ text) ns
    same (k, n, within, n_is, h) = (k, n, within, n_is, sym ((bytes_eq-Decides text (string_bytes n)).0 h))

    tested : Any (λ (n : String A). string_bytes n ≡ text) ns → Any (λ n. bytes_eq text (string_bytes n) ≡ true) ns
    tested (k, n, within, n_is, h) = (k, n, within, n_is, (bytes_eq-Decides text (string_bytes n)).1 (sym h))
