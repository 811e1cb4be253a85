-- A comment that joins those of its block.
use Rattle.std.proofs.Common.{◌≡◌, Bool, true, false, cond, List, [], ◌∷◌, ◌++◌, length, map, Option, Some, None, option_map, unwrap_or, nat_lt, refl, sym}
use Rattle.std.proofs.Common.{ap, ◌∙◌, subst, arith}
use Rattle.std.proofs.lemmas.Bool.{lt-ltb}
use Rattle.std.proofs.lemmas.List.{append-nil, length_push, map-append}
use Rattle.std.proofs.lemmas.Grind.{flat_map-append}
use Rattle.std.proofs.lemmas.List.Sums.{fold_push}
use Rattle.std.specs.Bool.{⊤}
use Rattle.starlark_lexer.specs.Places.{line_of}
use Rattle.starlark_lexer.specs.Tokens.{Span, Text}
use Rattle.starlark_module.specs.Comments.Comments.{Comment}
use Rattle.starlark_module.specs.Comments.Building.{suppressing}
use Rattle.starlark_module.specs.Comments.Suppressions.{joined, names_in, is_empty, line_around, suppression_by, all_names, token_span, lines_span, last_line}
use Rattle.starlark_module.specs.Comments.Suppressions.{last_of}
use Rattle.starlark_tree.specs.Signatures.{merge, merge_all}

-- ---- options

abbrev IsNothing : {A : Type 0} → Option A → Type 0
IsNothing None = ⊤
IsNothing (Some x) = ⊥

pub not_none : {A B : Type 0} (x : A) → Some x ≡ None → B
not_none x e = absurd (subst IsNothing (sym e) tt)

module _ {A B : Type 0} (f : A → B) where
  pub none_mapped : (o : Option A) → None ≡ option_map f o → o ≡ None
  none_mapped None e = refl
  none_mapped (Some x) e = not_none (f x) (sym e)

  pub some_mapped : (o : Option A) (y : B) → Some y ≡ option_map f o → (x : A) × (o ≡ Some x) × (y ≡ f x)
  some_mapped None y e = not_none y e
  some_mapped (Some x) y e = (x, refl, ap (λ o. unwrap_or o y) e)

-- ---- which comments join

module _ (c : Comment) where
  none_more : (b : Bool) (d : Comment) (ds : List Comment) → (joined ds ≡ None → joined (ds ++ c ∷ []) ≡ joined (c ∷ []))
      → cond b (joined ds) (Some (d, ds)) ≡ None → cond b (joined (ds ++ c ∷ [])) (Some (d, ds ++ c ∷ [])) ≡ joined (c ∷ [])
  none_more true d ds rest e = rest e
  none_more false d ds rest e = not_none (d, ds) e

  pub joined_first : (cs : List Comment) → joined cs ≡ None → joined (cs ++ c ∷ []) ≡ joined (c ∷ [])
  joined_first [] e = refl
  joined_first (d ∷ ds) e = none_more (is_empty (names_in d.text)) d ds (joined_first ds) e

  some_more : (b : Bool) (d : Comment) (ds : List Comment) (p : Comment × List Comment)
      → (joined ds ≡ Some p → joined (ds ++ c ∷ []) ≡ Some (p.0, p.1 ++ c ∷ []))
      → cond b (joined ds) (Some (d, ds)) ≡ Some p → cond b (joined (ds ++ c ∷ [])) (Some (d, ds ++ c ∷ [])) ≡ Some (p.0, p.1 ++ c ∷ [])
  some_more true d ds p rest e = rest e
  some_more false d ds p rest e = ap (option_map (λ (q : Comment × List Comment). (q.0, q.1 ++ c ∷ []))) e

  pub joined_more : (cs : List Comment) (p : Comment × List Comment) → joined cs ≡ Some p → joined (cs ++ c ∷ []) ≡ Some (p.0, p.1 ++ c ∷ [])
  joined_more [] p e = not_none p (sym e)
  joined_more (d ∷ ds) p e = some_more (is_empty (names_in d.text)) d ds p (joined_more ds p) e

-- ---- what they suppress

last_pushed : {A : Type 0} (c d : A) (ds : List A) → last_of d (ds ++ c ∷ []) ≡ c
last_pushed c d [] = refl
last_pushed c d (e ∷ es) = last_pushed c e es

pub suppression_first : (text : Text) (c : Comment) → suppression_by text c [] ≡ suppressing text (names_in c.text) c.span (line_around text c.span.begin)
    (line_of text c.span.begin) false
suppression_first text c = ap (λ names. suppressing text names c.span (line_around text c.span.begin) (line_of text c.span.begin) false)
    (append-nil (names_in c.text))

module _ (text : Text) (d c : Comment) (ds : List Comment) where
  several : nat_lt 0 (length (ds ++ c ∷ [])) ≡ true
  several = let longer = length_push ds c in lt-ltb _ _ (omega (arith, longer))

  spans_more : (span : Comment → Span) → merge_all (span d) (map span (ds ++ c ∷ [])) ≡ merge (merge_all (span d) (map span ds)) (span c)
  spans_more span = ap (merge_all (span d)) (map-append span ds (c ∷ [])) ∙ fold_push merge (span d) (map span ds) (span c)

  pub lines_more : lines_span text d (ds ++ c ∷ []) ≡ merge (lines_span text d ds) (line_around text c.span.begin)
  lines_more = spans_more (λ e. line_around text e.span.begin)

  pub suppression_more : suppression_by text d (ds ++ c ∷ []) ≡ suppressing text (all_names text d ds ++ names_in c.text)
      (merge (token_span text d ds) c.span) (merge (lines_span text d ds) (line_around text c.span.begin)) (line_of text c.span.begin) true
  suppression_more =
      let names_are = flat_map-append (λ e. names_in e.text) (d ∷ ds) (c ∷ []) ∙ ap (λ names. all_names text d ds ++ names) (append-nil (names_in c.text)) in
      let token_is = spans_more (λ e. e.span) in
      let last_is = ap (λ (e : Comment). line_of text e.span.begin) (last_pushed c d ds) in
      let one = ap (λ names. suppressing text names (token_span text d (ds ++ c ∷ [])) (lines_span text d (ds ++ c ∷ [])) (last_line text d (ds ++ c ∷ []))
      (nat_lt 0 (length (ds ++ c ∷ [])))) names_are in
      let two = ap (λ token. suppressing text (all_names text d ds ++ names_in c.text) token (lines_span text d (ds ++ c ∷ []))
      (last_line text d (ds ++ c ∷ [])) (nat_lt 0 (length (ds ++ c ∷ [])))) token_is in
      let three = ap (λ lines. suppressing text (all_names text d ds ++ names_in c.text) (merge (token_span text d ds) c.span) lines
      (last_line text d (ds ++ c ∷ [])) (nat_lt 0 (length (ds ++ c ∷ [])))) lines_more in
      let four = ap (λ last. suppressing text (all_names text d ds ++ names_in c.text) (merge (token_span text d ds) c.span)
      (merge (lines_span text d ds) (line_around text c.span.begin)) last (nat_lt 0 (length (ds ++ c ∷ [])))) last_is in
      let five = ap (suppressing text (all_names text d ds ++ names_in c.text) (merge (token_span text d ds) c.span)
      (merge (lines_span text d ds) (line_around text c.span.begin)) (line_of text c.span.begin)) several in
      one ∙ two ∙ three ∙ four ∙ five
