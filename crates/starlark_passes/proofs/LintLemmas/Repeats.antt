-- Keys that are tested one after another.
use Rattle.std.proofs.Common.{◌≡◌, ℕ, ◌<◌, ◌≤◌, ◌+◌, Bool, true, false, List, [], ◌∷◌, ◌++◌, ◌||◌, length, drop, get_or, not, if◌then◌else◌, refl, sym, ap}
use Rattle.std.proofs.Common.{◌∙◌, append-nil}
use Rattle.std.specs.List.{flat_map}
use Rattle.std.specs.Str.{bytes_eq}
use Rattle.std.proofs.lemmas.List.{drop_all, drop_more}
use Rattle.indexmap.specs.IndexSet.{insert_key}
use Rattle.starlark_lexer.specs.Tokens.{Span, Text}
use Rattle.starlark_tree.specs.Ast.{Word}
use Rattle.starlark_passes.specs.Lint.LintIssues.{is_among, repeats}
use Rattle.starlark_passes.proofs.LintLemmas.Texts.{among_inserted}

-- only the texts before matter
same_before : (earlier other : List Text) → ((n : Text) → is_among n earlier ≡ is_among n other) → (ks : List Word) → repeats earlier ks ≡ repeats other ks
same_before earlier other h [] = refl
same_before earlier other h (k ∷ ks) =
    λ i. (if h k.text i then k.span ∷ [] else []) ++ same_before (k.text ∷ earlier) (k.text ∷ other) (λ n. ap (λ b. bytes_eq n k.text || b) (h n)) ks i

later_is : (seen : List Text) (k : Text) (later : List Word) → repeats (insert_key bytes_eq seen k) later ≡ repeats (k ∷ seen) later
later_is seen k later = same_before (insert_key bytes_eq seen k) (k ∷ seen) (λ n. among_inserted n seen k) later

-- a key that is new
pub first_of_its_text : (seen after : List Text) (k : Word) (later : List Word) → after ≡ insert_key bytes_eq seen k.text → is_among k.text seen ≡ false
    → repeats after later ≡ repeats seen (k ∷ later)
first_of_its_text seen after k later e new = ap (λ s. repeats s later) e ∙ later_is seen k.text later
    ∙ sym (ap (λ b. (if b then k.span ∷ [] else []) ++ repeats (k.text ∷ seen) later) new)

-- a key that is not a string literal
pub again : (seen after : List Text) (k : Word) (later : List Word) → after ≡ insert_key bytes_eq seen k.text → is_among k.text seen ≡ true
    → k.span ∷ repeats after later ≡ repeats seen (k ∷ later)
again seen after k later e old =
    ap (λ s. k.span ∷ repeats s later) e ∙ ap (λ l. k.span ∷ l) (later_is seen k.text later)
    ∙ sym (ap (λ b. (if b then k.span ∷ [] else []) ++ repeats (k.text ∷ seen) later) old)

-- the next of the items whose keys are tested
pub next_key : {X : Type 0} (key : X → List Word) (xs : List X) (i : ℕ) (x : X) → i < length xs → x ≡ get_or xs i x → flat_map key (drop i xs) ≡ key x
    ++ flat_map key (drop (i + 1) xs)
next_key key xs i x within is = ap (flat_map key) (drop_more xs i x within) ∙ ap (λ y. key y ++ flat_map key (drop (i + 1) xs)) (sym is)

pub no_more_keys : {X : Type 0} (key : X → List Word) (xs : List X) (i : ℕ) (seen : List Text) (found all : List Span) → length xs ≤ i
    → found ++ repeats seen (flat_map key (drop i xs)) ≡ all → found ≡ all
no_more_keys key xs i seen found all end h = sym (append-nil found) ∙ sym (ap (λ ys. found ++ repeats seen (flat_map key ys)) (drop_all i xs end)) ∙ h

pub is_old : (among new : Bool) → new ≡ not among → new ≡ false → among ≡ true
is_old true new e h = refl
is_old false new e h = absurd (cc)

pub is_first : (among new : Bool) → new ≡ not among → new ≡ true → among ≡ false
is_first true new e h = absurd (cc)
is_first false new e h = refl
