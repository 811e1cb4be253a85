-- What is visible of a list of statements, one after another.
use Rattle.std.proofs.Common.{◌≡◌, ℕ, ◌<◌, ◌≤◌, ◌+◌, List, [], ◌∷◌, ◌++◌, length, take, get_or, map, max, Vec, Global, Bool, true, false, if◌then◌else◌, ap}
use Rattle.std.proofs.Common.{refl, sym, ◌∙◌, append_assoc, append-nil, arith}
use Rattle.std.specs.Prelude.{Option, filter_map}
use Rattle.std.specs.List.{flat_map}
use Rattle.std.specs.Str.{bytes_eq}
use Rattle.std.proofs.lemmas.List.{map-append, take_more, take_all}
use Rattle.std.proofs.lemmas.List.Elements.{filter_map-append}
use Rattle.std.proofs.lemmas.List.Sums.{fold-append}
use Rattle.std.proofs.lemmas.Grind.{flat_map-append}
use denote.Param.Weighed.{most, at_most}
use denote.Ref.{Bor}
use Rattle.indexmap.specs.IndexMap.{insert_entry}
use Rattle.starlark_lexer.specs.Places.{File}
use Rattle.starlark_lexer.specs.Tokens.{Text}
use Rattle.starlark_lexer.specs.declared.span.Spanned.{Spanned}
use Rattle.starlark_tree.specs.declared.ast.LoadArgP.{LoadArgP}
use Rattle.starlark_tree.specs.declared.ast.StmtP
use Rattle.starlark_tree.specs.declared.ast.StmtP.TheViews.{sized-Statements}
use Rattle.starlark_tree.specs.Views.{load_arg_of, statement_of, all_statements}
use Rattle.starlark_tree.proofs.Rows.{statements_seen_of}
use Rattle.starlark_passes.specs.Outline.Listed.{in_file, symbol}
use Rattle.starlark_passes.specs.Outline.Outline.{top_statements, all_top, load_of, loads, locations, all_locations, symbols_of, with_symbol}

-- one more part of a list, of each of which something is visible
pub one_more : {X Y : Type 0} (f : X → List Y) (xs : List X) (i : ℕ) (x : X) (before so_far after : List Y)
    → i < length xs → x ≡ get_or xs i x → so_far ≡ before ++ flat_map f (take i xs) → after ≡ so_far ++ f x → after ≡ before ++ flat_map f (take (i + 1) xs)
one_more f xs i x before so_far after within is invariant added =
    added ∙ ap (λ l. l ++ f x) invariant ∙ append_assoc before (flat_map f (take i xs)) (f x)
    ∙ ap (λ l. before ++ l) (sym (ap (flat_map f) (take_more xs i x within) ∙ flat_map-append f (take i xs) (get_or xs i x ∷ [])
    ∙ ap (λ l. flat_map f (take i xs) ++ l) (append-nil (f (get_or xs i x))) ∙ ap (λ y. flat_map f (take i xs) ++ f y) (sym is)))

-- all parts of a list
pub all_parts : {X Y : Type 0} (f : X → List Y) (xs ys : List X) (i : ℕ) (before after all : List Y)
    → length xs ≤ i → xs ≡ ys → all ≡ flat_map f ys → after ≡ before ++ flat_map f (take i xs) → after ≡ before ++ all
all_parts f xs ys i before after all end same is invariant =
    invariant ∙ ap (λ l. before ++ flat_map f l) (take_all i xs end ∙ same) ∙ ap (λ l. before ++ l) (sym is)

-- what was added in two steps
pub both_added : {Y : Type 0} (before middle after : List Y) (y : Y) (ys : List Y)
    → middle ≡ before ++ y ∷ [] → after ≡ middle ++ ys → after ≡ before ++ y ∷ ys
both_added before middle after y ys first second = second ∙ ap (λ l. l ++ ys) first ∙ append_assoc before (y ∷ []) ys

mapped_parts : {X Y Z : Type 0} (h : Y → Z) (f : X → List Y) (xs : List X) → map h (flat_map f xs) ≡ flat_map (λ x. map h (f x)) xs
mapped_parts h f [] = refl
mapped_parts h f (x ∷ xs) = map-append h (f x) (flat_map f xs) ∙ ap (λ l. map h (f x) ++ l) (mapped_parts h f xs)

kept_parts : {X Y Z : Type 0} (h : Y → Option Z) (f : X → List Y) (xs : List X) → filter_map h (flat_map f xs) ≡ flat_map (λ x. filter_map h (f x)) xs
kept_parts h f [] = refl
kept_parts h f (x ∷ xs) = filter_map-append h (f x) (flat_map f xs) ∙ ap (λ l. filter_map h (f x) ++ l) (kept_parts h f xs)

-- the largest measure in a list, as in the size of a value that contains it
below_most : {X : Type 0} (μ : X → ℕ) (xs : List X) (i : ℕ) (d : X) (a : ℕ) → i < length xs → a ≤ μ (get_or xs i d) → a < max (most μ xs) 0 + 1
below_most μ xs i d a p q = let h = at_most μ xs i d p in omega arith

module _ {P A B C D E : Type 0} where
  part_smaller : (v : Vec (Spanned (StmtP.StmtP P A B C D E)) Global) (i : ℕ) (d : Spanned (StmtP.StmtP P A B C D E))
      → i < length v.items → StmtP.size-StmtP P A B C D E (get_or v.items i d).node < StmtP.size-StmtP P A B C D E (StmtP.Statements v)
  part_smaller v i d p = rw (sized-Statements P A B C D E v) (below_most _ v.items i d _ p (omega arith))

  -- a statement of a list is smaller than the list's
  pub part_falls : (v : Vec (Spanned (StmtP.StmtP P A B C D E)) Global) (xs : List (Spanned (StmtP.StmtP P A B C D E))) (i : ℕ)
      (s : Spanned (StmtP.StmtP P A B C D E)) (whole : StmtP.StmtP P A B C D E) (t : ℕ)
      → i < length xs → s ≡ get_or xs i s → xs ≡ v.items → whole ≡ StmtP.Statements v → max (StmtP.size-StmtP P A B C D E whole) 0 ≡ t
      → max (StmtP.size-StmtP P A B C D E s.node) 0 < t
  part_falls v xs i s whole t p e f w q =
      let h = rw (← w) at (part_smaller v i s (rw f at p)) in
      let k : StmtP.size-StmtP P A B C D E s.node < StmtP.size-StmtP P A B C D E whole = rw (← f, ← e) at h in
      omega (arith, k, q)

  all_top_of : (xs : List (Spanned (StmtP.StmtP P A B C D E))) → all_top (all_statements xs) ≡ flat_map (λ s. top_statements (statement_of s)) xs
  all_top_of [] = refl
  all_top_of (x ∷ xs) = ap (λ l. top_statements (statement_of x) ++ l) (all_top_of xs)

  all_locations_of : (xs : List (Spanned (StmtP.StmtP P A B C D E))) → all_locations (all_statements xs) ≡ flat_map (λ s. locations (statement_of s)) xs
  all_locations_of [] = refl
  all_locations_of (x ∷ xs) = ap (λ l. locations (statement_of x) ++ l) (all_locations_of xs)

  -- what is visible of a statement that is a list: what is visible of each of the list
  pub block_top : (s : Spanned (StmtP.StmtP P A B C D E)) (v : Vec (Spanned (StmtP.StmtP P A B C D E)) Global) → s.node ≡ StmtP.Statements v
      → top_statements (statement_of s) ≡ flat_map (λ s. top_statements (statement_of s)) v.items
  block_top s v is = rw (is, statements_seen_of v) (all_top_of v.items)

  pub block_loads : (file : File) (s : Spanned (StmtP.StmtP P A B C D E)) (v : Vec (Spanned (StmtP.StmtP P A B C D E)) Global) → s.node ≡ StmtP.Statements v
      → map (in_file file) (loads (statement_of s)) ≡ flat_map (λ s. map (in_file file) (loads (statement_of s))) v.items
  block_loads file s v is =
      ap (λ l. map (in_file file) (filter_map load_of l)) (block_top s v is)
      ∙ ap (map (in_file file)) (kept_parts load_of (λ s. top_statements (statement_of s)) v.items)
      ∙ mapped_parts (in_file file) (λ s. loads (statement_of s)) v.items

  pub block_locations : (file : File) (s : Spanned (StmtP.StmtP P A B C D E)) (v : Vec (Spanned (StmtP.StmtP P A B C D E)) Global) → s.node ≡ StmtP.Statements v
      → map (in_file file) (locations (statement_of s)) ≡ flat_map (λ s. map (in_file file) (locations (statement_of s))) v.items
  block_locations file s v is =
      ap (map (in_file file)) (rw (is, statements_seen_of v) (all_locations_of v.items)) ∙ mapped_parts (in_file file) (λ s. locations (statement_of s)) v.items

-- the texts of a map's entries after an insert
pub inserted : (es : List (Bor Text × Bor Text)) (k v : Bor Text)
    → map symbol (insert_entry (λ a b. bytes_eq a.now b.now) es k v) ≡ insert_entry bytes_eq (map symbol es) k.now v.now
inserted [] k v = refl
inserted (e ∷ es) k v = by (bytes_eq k.now e.0.now) (inserted es k v)
  where
    by : (b : Bool) → map symbol (insert_entry (λ a b. bytes_eq a.now b.now) es k v) ≡ insert_entry bytes_eq (map symbol es) k.now v.now
        → map symbol (if b then (e.0, v) ∷ es else e ∷ insert_entry (λ a b. bytes_eq a.now b.now) es k v)
        ≡ (if b then (e.0.now, v.now) ∷ map symbol es else symbol e ∷ insert_entry bytes_eq (map symbol es) k.now v.now)
    by true h = refl
    by false h = ap (λ l. symbol e ∷ l) h

-- one more symbol of a load
pub one_more_symbol : {P A B C D E : Type 0} (xs : List (LoadArgP P A B C D E)) (i : ℕ) (x : LoadArgP P A B C D E) (so_far after : List (Text × Text))
    → i < length xs → x ≡ get_or xs i x → so_far ≡ symbols_of (map load_arg_of (take i xs))
    → after ≡ with_symbol so_far (load_arg_of x) → after ≡ symbols_of (map load_arg_of (take (i + 1) xs))
one_more_symbol xs i x so_far after within is invariant added =
    added ∙ ap (λ l. with_symbol l (load_arg_of x)) invariant
    ∙ sym (ap (λ l. symbols_of (map load_arg_of l)) (take_more xs i x within ∙ ap (λ y. take i xs ++ y ∷ []) (sym is))
    ∙ ap symbols_of (map-append load_arg_of (take i xs) (x ∷ [])) ∙ fold-append with_symbol [] (map load_arg_of (take i xs)) (load_arg_of x ∷ []))
