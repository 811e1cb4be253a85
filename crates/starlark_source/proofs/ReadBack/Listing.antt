-- Lists with commas between their elements.
use Rattle.std.proofs.Common.{List as Seq, [], ◌∷◌, ◌++◌, map, flat_map, refl, sym, ap, ◌∙◌, append_assoc, append-nil}
use Rattle.std.specs.Bool.{⊤}
use Rattle.std.proofs.lemmas.List.{map-append}
use Rattle.starlark_lexer.specs.Tokens.{nowhere}
use Rattle.starlark_spec.specs.Grammar.{Nonterminal, ElementKind, ElementOf}
use Rattle.starlark_spec.specs.Grammar.Nonterminal.{CommaList, OptionalList}
use Rattle.starlark_spec.specs.Grammar.Derivation.{comma_list_one, comma_list_more, optional_list_none, optional_list_plain}
use Rattle.starlark_spec.specs.Trees.{TreeOf, ElementTree, element_tree, tree}
use Rattle.starlark_source.specs.Pieces.{Pieces, comma, listed}
use Rattle.starlark_source.proofs.ReadBack.Writing.{Sayable, split, Reads, none_written, followed, after, spaced, reads_as}

-- each of these, if a text denotes it, is read as the value at its index
abbrev pub Offers : (n : Nonterminal) {A : Type 0} → (TreeOf n → A) → Seq Pieces → Seq A → Type 0
Offers n look [] [] = ⊤
Offers n look (p ∷ ps) (x ∷ xs) = (Sayable p → Reads n look p x) × Offers n look ps xs
Offers n look _ _ = ⊥

module _ {k : ElementKind} {n : Nonterminal} {A : Type 0} (u : ElementOf k n) (look : ElementTree k → A) where
  pub first_element : {p : Pieces} {x : A} → Reads n (λ v. look (element_tree u v)) p x → Reads (CommaList k) (λ vs. map look vs) p (x ∷ [])
  first_element r = record { derivation = comma_list_one u r.derivation; writes = r.writes; looks = ap (λ y. y ∷ []) r.looks }

  pub next_element : {ps q : Pieces} {xs : Seq A} {y : A} → Reads (CommaList k) (λ vs. map look vs) ps xs → Reads n (λ v. look (element_tree u v)) q y
      → Reads (CommaList k) (λ vs. map look vs) (ps ++ (comma ++ q)) (xs ++ y ∷ [])
  next_element {xs = xs} l r = record {
    derivation = comma_list_more u l.derivation nowhere r.derivation;
    writes = followed l.writes (after (spaced 1 r.writes));
    looks = map-append look (tree l.derivation) (element_tree u (tree r.derivation) ∷ [])
        ∙ ap (λ ys. ys ++ look (element_tree u (tree r.derivation)) ∷ []) l.looks ∙ ap (λ y. xs ++ y ∷ []) r.looks;
  }

  pub more_elements : (qs : Seq Pieces) (ys : Seq A) {ps : Pieces} {xs : Seq A} → Reads (CommaList k) (λ vs. map look vs) ps xs
      → Offers n (λ v. look (element_tree u v)) qs ys → Sayable (flat_map (λ q. comma ++ q) qs)
      → Reads (CommaList k) (λ vs. map look vs) (ps ++ flat_map (λ q. comma ++ q) qs) (xs ++ ys)
  more_elements [] [] {ps = ps} {xs = xs} l o h = reads_as (sym (append-nil ps)) (sym (append-nil xs)) l
  more_elements [] (y ∷ ys) l o h = absurd o
  more_elements (q ∷ qs) [] l o h = absurd o
  more_elements (q ∷ qs) (y ∷ ys) {ps = ps} {xs = xs} l o h =
      let parts = split (comma ++ q) (flat_map (λ q. comma ++ q) qs) h in
      reads_as (append_assoc ps (comma ++ q) (flat_map (λ q. comma ++ q) qs)) (append_assoc xs (y ∷ []) ys)
      (more_elements qs ys (next_element l (o.0 parts.0)) o.1 parts.1)

  pub comma_list : (p : Pieces) (ps : Seq Pieces) (x : A) (xs : Seq A) → Offers n (λ v. look (element_tree u v)) (p ∷ ps) (x ∷ xs) → Sayable (listed (p ∷ ps))
      → Reads (CommaList k) (λ vs. map look vs) (listed (p ∷ ps)) (x ∷ xs)
  comma_list p ps x xs o h =
      let parts = split p (flat_map (λ q. comma ++ q) ps) h in
      more_elements ps xs (first_element (o.0 parts.0)) o.1 parts.1

  pub optional_list : (ps : Seq Pieces) (xs : Seq A) → Offers n (λ v. look (element_tree u v)) ps xs → Sayable (listed ps)
      → Reads (OptionalList k) (λ vs. map look vs) (listed ps) xs
  optional_list [] [] o h = record { derivation = optional_list_none; writes = none_written; looks = refl }
  optional_list [] (x ∷ xs) o h = absurd o
  optional_list (p ∷ ps) [] o h = absurd o
  optional_list (p ∷ ps) (x ∷ xs) o h =
      let l = comma_list p ps x xs o h in record { derivation = optional_list_plain l.derivation; writes = l.writes; looks = l.looks }
