-- Sets of texts, through their owners.
use Rattle.std.proofs.Common.{◌≡◌, Bool, true, false, List, [], ◌∷◌, ◌++◌, ◌||◌, map, fold, if◌then◌else◌, refl, sym, ap, ◌∙◌}
use Rattle.std.specs.List.{flat_map, list_any}
use Rattle.std.specs.Str.{bytes_eq}
use Rattle.std.proofs.lemmas.Bool.{cond-true, cond-false}
use Rattle.std.proofs.lemmas.List.{map-append}
use Rattle.std.proofs.lemmas.List.Folds.{flat_map-map, list_any-append}
use Rattle.std.proofs.lemmas.Slice.Eq.{bytes_eq-Decides}
use Rattle.indexmap.specs.IndexSet.{insert_key, insert_all}
use Rattle.starlark_lexer.specs.Tokens.{Text}
use Rattle.starlark_tree.specs.Ast.{LoadArg, Payloads}
use Rattle.starlark_tree.specs.Signatures.{merge}
use Rattle.starlark_passes.specs.Lint.LintIssues.{is_among, unused_symbol}

module _ {X : Type 0} (text : X → Text) where
  pub any_text : (p : Text → Bool) (xs : List X) → list_any (λ x. p (text x)) xs ≡ list_any p (map text xs)
  any_text p [] = refl
  any_text p (x ∷ xs) = ap (λ b. p (text x) || b) (any_text p xs)

  -- the texts of a set after an insert
  pub texts_inserted : (ks : List X) (k : X) → map text (insert_key (λ a b. bytes_eq (text a) (text b)) ks k) ≡ insert_key bytes_eq (map text ks) (text k)
  texts_inserted ks k = by (list_any (λ x. bytes_eq (text k) (text x)) ks) (list_any (bytes_eq (text k)) (map text ks)) (any_text (bytes_eq (text k)) ks)
    where
      by : (b c : Bool) → b ≡ c → map text (if b then ks else ks ++ k ∷ []) ≡ (if c then map text ks else map text ks ++ text k ∷ [])
      by true true e = refl
      by false false e = map-append text ks (k ∷ [])
      by true false e = absurd (cc)
      by false true e = absurd (cc)

  pub all_inserted : (ks : List Text) (xs : List X) → fold (λ ks x. insert_key bytes_eq ks (text x)) ks xs ≡ insert_all bytes_eq ks (map text xs)
  all_inserted ks [] = refl
  all_inserted ks (x ∷ xs) = all_inserted (insert_key bytes_eq ks (text x)) xs

-- a text that is there is unchanged
pub insert_present : (ks : List Text) (k : Text) → is_among k ks ≡ true → insert_key bytes_eq ks k ≡ ks
insert_present ks k h = cond-true _ _ _ h

either_way : (a b : Bool) → (a || (b || false)) ≡ (b || a)
either_way true true = refl
either_way true false = refl
either_way false true = refl
either_way false false = refl

in_turn : (a b c : Bool) → ((b || a) || c) ≡ (a || (b || c))
in_turn true true c = refl
in_turn true false c = refl
in_turn false true c = refl
in_turn false false c = refl

-- a text that is equal to one that is there is there
there_already : (n k : Text) (ks : List Text) → is_among k ks ≡ true → is_among n ks ≡ (bytes_eq n k || is_among n ks)
there_already n k ks h = by (bytes_eq n k) refl
  where
    by : (b : Bool) → bytes_eq n k ≡ b → is_among n ks ≡ (b || is_among n ks)
    by true e = ap (λ (m : Text). is_among m ks) ((bytes_eq-Decides n k).0 e) ∙ h
    by false e = refl

-- what is among the texts after an insert
pub among_inserted : (n : Text) (ks : List Text) (k : Text) → is_among n (insert_key bytes_eq ks k) ≡ is_among n (k ∷ ks)
among_inserted n ks k = by (is_among k ks) refl
  where
    by : (b : Bool) → is_among k ks ≡ b → is_among n (if b then ks else ks ++ k ∷ []) ≡ (bytes_eq n k || is_among n ks)
    by true e = there_already n k ks e
    by false e = list_any-append (bytes_eq n) ks (k ∷ []) ∙ either_way (is_among n ks) (bytes_eq n k)

among_all : (n : Text) (ks xs : List Text) → is_among n (insert_all bytes_eq ks xs) ≡ (is_among n ks || is_among n xs)
among_all n ks [] = by (is_among n ks)
  where
    by : (b : Bool) → b ≡ (b || false)
    by true = refl
    by false = refl
among_all n ks (x ∷ xs) =
    among_all n (insert_key bytes_eq ks x) xs ∙ ap (λ b. b || is_among n xs) (among_inserted n ks x) ∙ in_turn (is_among n ks) (bytes_eq n x) (is_among n xs)

-- a set of the names can replace their list
unused_by_set : {P : Payloads} (names : List Text) (symbols : List (LoadArg P)) → flat_map (unused_symbol (insert_all bytes_eq [] names)) symbols
    ≡ flat_map (unused_symbol names) symbols
unused_by_set names [] = refl
unused_by_set names (a ∷ others) =
    λ i. (if among_all a.local.text [] names i then [] else merge a.local.span a.their.span ∷ []) ++ unused_by_set names others i

-- the symbols whose names are not in the set are those that are not read
pub unused_found : {A : Type 0} {P : Payloads} (seen : A → LoadArg P) (held : List A) (keys names : List Text) (symbols : List (LoadArg P))
    → keys ≡ insert_all bytes_eq [] names → map seen held ≡ symbols → flat_map (λ s. unused_symbol keys (seen s)) held ≡ flat_map (unused_symbol names) symbols
unused_found seen held keys names symbols set same =
    sym (flat_map-map (unused_symbol keys) seen held) ∙ ap (flat_map (unused_symbol keys)) same ∙ ap (λ ks. flat_map (unused_symbol ks) symbols) set
    ∙ unused_by_set names symbols

module _ {P : Payloads} (names : List Text) (a : LoadArg P) where
  pub told_unread : is_among a.local.text names ≡ false → unused_symbol names a ≡ merge a.local.span a.their.span ∷ []
  told_unread h = cond-false _ _ _ h

  pub told_read : is_among a.local.text names ≡ true → unused_symbol names a ≡ []
  told_read h = cond-true _ _ _ h
