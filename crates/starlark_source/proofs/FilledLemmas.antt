-- Formats with expressions in their holes, mark by mark.
use Rattle.std.proofs.Common.{◌≡◌, ℕ, zero, suc, ◌+◌, ◌-◌, ◌<◌, ◌≤◌, ◌==◌, ◌&&◌, Bool, true, false, if◌then◌else◌, List, [], ◌∷◌, ◌++◌, codes, map, length}
use Rattle.std.proofs.Common.{take, drop, get_or, refl, sym, ap, ◌∙◌, append_assoc, append-nil, get_or-drop, length-drop, arith}
use Rattle.std.specs.List.{flat_map}
use Rattle.std.proofs.lemmas.Bool.{eqb-true}
use Rattle.std.proofs.lemmas.List.{drop_all, drop_more, drop-drop, map-append, take_all}
use Rattle.std.proofs.lemmas.Grind.{flat_map-append}
use Rattle.starlark_lexer.specs.Tokens.{Text, Span, FStringExprEnd}
use Rattle.starlark_lexer.specs.declared.span.Spanned.{Spanned}
use Rattle.starlark_tree.specs.declared.ast.ExprP.{ExprP}
use Rattle.starlark_tree.specs.Views.{shape_seen}
use Rattle.starlark_tree.proofs.Runs.{run_more}
use Rattle.starlark_source.specs.declared.page.Page.{Page}
use Rattle.starlark_source.specs.declared.format.Mark.{Mark}
use Rattle.starlark_source.specs.declared.format.Mark.TheVariants as marks
use Rattle.starlark_source.specs.Pieces.{Pieces, token, escaped, escaped_in_format}
use Rattle.starlark_source.specs.Formats.{as_repr, mark_of, placed, marked_source, filled_after}
use Rattle.starlark_source.specs.Pages.{byte, fault, Draft, say, Wrote}
use Rattle.starlark_source.specs.Drafts.{draft}
use Rattle.starlark_source.specs.Source.{kept_apart, shape_begins_with_brace, shape_source}
use Rattle.starlark_source.specs.Drafted.{drafted_expr, drafted_filled, drafted_hole, drafted_rest, hole_source}
use Rattle.starlark_source.proofs.PageLemmas.{wrote_as, wrote_append, wrote_to_fault}
use Rattle.starlark_source.proofs.DraftLemmas.{draft_two}

-- this many bytes are skipped
after_skip : (s : Span) (k : ℕ) (xs : Text) (es : List Pieces) → k ≤ length xs → filled_after s k xs es ≡ filled_after s 0 (drop k xs) es
after_skip s zero xs es within = refl
after_skip s (suc k) [] es within = absurd (omega arith)
after_skip s (suc k) (x ∷ xs) es within = after_skip s k xs es (omega arith)

later : (at : ℕ) → (at + 1) + 1 ≡ at + 2
later at = omega arith

later_two : (at : ℕ) → (at + 1) + 2 ≡ at + 3
later_two at = omega arith

last_left : (at : ℕ) → (at + 1) + 3 ≡ at + 4
last_left at = omega arith

first_left : (at : ℕ) → (at + 1) + 0 ≡ at + 1
first_left at = omega arith

marks_at : (f : Text) (at : ℕ)
    → mark_of (get_or f at 0) (get_or (drop (at + 1) f) 0 0) (get_or (drop (at + 1) f) 1 0) (get_or (drop (at + 1) f) 2 0)
    ≡ mark_of (get_or f at 0) (get_or f (at + 1) 0) (get_or f (at + 2) 0) (get_or f (at + 3) 0)
marks_at f at =
    ap (λ x. mark_of (get_or f at 0) x (get_or (drop (at + 1) f) 1 0) (get_or (drop (at + 1) f) 2 0))
    (get_or-drop (at + 1) f 0 0 ∙ ap (λ n. get_or f n 0) (first_left at))
    ∙ ap (λ x. mark_of (get_or f at 0) (get_or f (at + 1) 0) x (get_or (drop (at + 1) f) 2 0))
    (get_or-drop (at + 1) f 1 0 ∙ ap (λ n. get_or f n 0) (later at))
    ∙ ap (λ x. mark_of (get_or f at 0) (get_or f (at + 1) 0) (get_or f (at + 2) 0) x)
    (get_or-drop (at + 1) f 2 0 ∙ ap (λ n. get_or f n 0) (later_two at))

-- what is left, by the mark at its start
pub rest_at : (s : Span) (f : Text) (at : ℕ) (es : List Pieces) (m : Mark) → at < length f
    → m ≡ mark_of (get_or f at 0) (get_or f (at + 1) 0) (get_or f (at + 2) 0) (get_or f (at + 3) 0)
    → filled_after s 0 (drop at f) es ≡ marked_source s m (get_or f at 0) es (λ k. filled_after s k (drop (at + 1) f))
rest_at s f at es m within is =
    ap (λ xs. filled_after s 0 xs es) (drop_more f at 0 within)
    ∙ ap (λ n. marked_source s n (get_or f at 0) es (λ k. filled_after s k (drop (at + 1) f))) (marks_at f at ∙ sym is)

no_text : (u v w : Bool) → marks.Text ≡ (if u then marks.Brace else if v then marks.Hole else if w then marks.ReprHole else marks.Broken) → ⊥
no_text true v w is = cc
no_text false true w is = cc
no_text false false true is = cc
no_text false false false is = cc

plain_tests : (t u : Bool) (a b c d : Bool) (x : Text)
    → marks.Text ≡ (if t then (if a then marks.Brace else if b then marks.Hole else if c then marks.ReprHole else marks.Broken)
    else if u then (if d then marks.Brace else marks.Broken) else marks.Text)
    → (if t then codes "{{" else if u then codes "}}" else x) ≡ x
plain_tests true u a b c d x is = absurd (no_text a b c is)
plain_tests false true a b c true x is = cc
plain_tests false true a b c false x is = cc
plain_tests false false a b c d x is = refl

-- a byte that is not a brace
plain_byte : (a b c d : ℕ) → marks.Text ≡ mark_of a b c d → escaped_in_format a ≡ escaped a
plain_byte a b c d is = plain_tests (a == 123) (a == 125) (b == 123) (b == 125) (b == 33 && (c == 114 && d == 125)) (b == 125) (escaped a) is

brace_tests : (t u : Bool) (a b c d : Bool) (x : Text) (X : Type 0)
    → marks.Brace ≡ (if t then (if a then marks.Brace else if b then marks.Hole else if c then marks.ReprHole else marks.Broken)
    else if u then (if d then marks.Brace else marks.Broken) else marks.Text)
    → (t ≡ true → a ≡ true → X) → (t ≡ false → u ≡ true → d ≡ true → X) → X
brace_tests true u true b c d x X is one two = one refl refl
brace_tests true u false true c d x X is one two = cc
brace_tests true u false false true d x X is one two = cc
brace_tests true u false false false d x X is one two = cc
brace_tests false true a b c true x X is one two = two refl refl refl
brace_tests false true a b c false x X is one two = cc
brace_tests false false a b c d x X is one two = cc

two_braces : (a b x : ℕ) → a ≡ x → b ≡ x → escaped_in_format x ≡ escaped x ++ escaped x → escaped_in_format a ≡ escaped a ++ escaped b
two_braces a b x is_a is_b same = ap escaped_in_format is_a ∙ same ∙ ap (λ l. l ++ escaped x) (sym (ap escaped is_a))
    ∙ ap (λ l. escaped a ++ l) (sym (ap escaped is_b))

-- two braces are one of the text
doubled_byte : (a b c d : ℕ) → marks.Brace ≡ mark_of a b c d → escaped_in_format a ≡ escaped a ++ escaped b
doubled_byte a b c d is =
    brace_tests (a == 123) (a == 125) (b == 123) (b == 125) (b == 33 && (c == 114 && d == 125)) (b == 125) (escaped a) _ is
    (λ t u. two_braces a b 123 (eqb-true a 123 t) (eqb-true b 123 u) refl)
    (λ _ t u. two_braces a b 125 (eqb-true a 125 t) (eqb-true b 125 u) refl)

-- a run that is longer by one byte
run_said : (f : Text) (start at : ℕ) → start ≤ at → at < length f
    → say (flat_map escaped (take ((at + 1) - start) (drop start f))) ≡ say (flat_map escaped (take (at - start) (drop start f)))
    ++ say (escaped (get_or f at 0))
run_said f start at low within =
    ap (λ t. say (flat_map escaped t)) (run_more f start at low within)
    ∙ ap say (flat_map-append escaped (take (at - start) (drop start f)) (get_or f at 0 ∷ [])
    ∙ ap (λ l. flat_map escaped (take (at - start) (drop start f)) ++ l) (append-nil (escaped (get_or f at 0))))
    ∙ map-append (λ b. byte b) (flat_map escaped (take (at - start) (drop start f))) (escaped (get_or f at 0))

none_left : (n : ℕ) → n - n ≡ 0
none_left n = omega arith

module _ {P A B C D E : Type 0} (s : Span) (f : Text) (vs : List (Spanned (ExprP P A B C D E))) where
  pub text_step : (start at used : ℕ) → start ≤ at → at < length f
      → marks.Text ≡ mark_of (get_or f at 0) (get_or f (at + 1) 0) (get_or f (at + 2) 0) (get_or f (at + 3) 0)
      → drafted_rest s f vs start (at + 1) used ≡ drafted_rest s f vs start at used
  text_step start at used low within is =
      let es = map hole_source (drop used vs) in
      let run = say (flat_map escaped (take (at - start) (drop start f))) in
      let rest = draft (filled_after s 0 (drop (at + 1) f) es) in
      ap (λ l. l ++ rest) (run_said f start at low within) ∙ append_assoc run (say (escaped (get_or f at 0))) rest
      ∙ ap (λ t. run ++ (say t ++ rest)) (sym (plain_byte (get_or f at 0) (get_or f (at + 1) 0) (get_or f (at + 2) 0) (get_or f (at + 3) 0) is))
      ∙ ap (λ ps. run ++ draft ps) (sym (rest_at s f at es marks.Text within is))

  pub brace_step : (start at used : ℕ) → start ≤ at → at + 1 < length f
      → marks.Brace ≡ mark_of (get_or f at 0) (get_or f (at + 1) 0) (get_or f (at + 2) 0) (get_or f (at + 3) 0)
      → drafted_rest s f vs start (at + 2) used ≡ drafted_rest s f vs start at used
  brace_step start at used low within is =
      let es = map hole_source (drop used vs) in
      let a = get_or f at 0 in
      let b = get_or f (at + 1) 0 in
      let run = say (flat_map escaped (take (at - start) (drop start f))) in
      let rest = draft (filled_after s 0 (drop (at + 2) f) es) in
      ap (λ n. say (flat_map escaped (take (n - start) (drop start f))) ++ rest) (sym (later at))
      ∙ ap (λ l. l ++ rest) (run_said f start (at + 1) (omega arith) within ∙ ap (λ l. l ++ say (escaped b)) (run_said f start at low (omega arith)))
      ∙ ap (λ l. l ++ rest) (append_assoc run (say (escaped a)) (say (escaped b)) ∙ ap (λ l. run ++ l) (sym (map-append (λ b. byte b) (escaped a) (escaped b))))
      ∙ append_assoc run (say (escaped a ++ escaped b)) rest
      ∙ ap (λ t. run ++ (say t ++ rest)) (sym (doubled_byte (get_or f at 0) (get_or f (at + 1) 0) (get_or f (at + 2) 0) (get_or f (at + 3) 0) is))
      ∙ ap (λ n. run ++ (say (escaped_in_format a) ++ draft (filled_after s 0 (drop n f) es))) (sym (later at))
      ∙ ap (λ xs. run ++ (say (escaped_in_format a) ++ draft (filled_after s 0 xs es))) (sym (drop-drop 1 (at + 1) f))
      ∙ ap (λ ps. run ++ (say (escaped_in_format a) ++ draft ps)) (sym (after_skip s 1 (drop (at + 1) f) es (some_left f at within)))
      ∙ ap (λ ps. run ++ draft ps) (sym (rest_at s f at es marks.Brace (omega arith) is))
    where
      some_left : (f : Text) (at : ℕ) → at + 1 < length f → 1 ≤ length (drop (at + 1) f)
      some_left f at within = rw length-drop (omega arith)

  -- an expression in its hole, and what comes after it
  placed_written : (conversion : Pieces) (end : Text) → ((ps : Pieces) → draft (conversion ++ (token FStringExprEnd ∷ ps)) ≡ say end ++ draft ps)
      → (more : List Pieces → Pieces) (ws : List (Spanned (ExprP P A B C D E))) (p q r : Page)
      → Wrote p (drafted_hole s end ws) q → Wrote q (draft (more (map hole_source (drop 1 ws)))) r
      → Wrote p (draft (placed s conversion (map hole_source ws) more)) r
  placed_written conversion end ends more [] p q r v w = wrote_to_fault p q r [] s _ v w
  placed_written conversion end ends more (e ∷ ws) p q r v w =
      let h = hole_source e in
      let rest = draft (more (map hole_source ws)) in
      wrote_as p r _ _ (wrote_append p q r _ _ v w)
      (ap (λ l. byte 123 ∷ l) (append_assoc (draft h) (say end) rest ∙ ap (λ l. draft h ++ l) (sym (ends (more (map hole_source ws))))
      ∙ sym (draft_two h (conversion ++ (token FStringExprEnd ∷ more (map hole_source ws))))))

  -- a hole is filled, and the rest comes after it
  pub place_step : (m : Mark) (k : ℕ) (conversion : Pieces) (end : Text)
      → ((b : ℕ) (es : List Pieces) (more : ℕ → List Pieces → Pieces) → marked_source s m b es more ≡ placed s conversion es (more k))
      → ((ps : Pieces) → draft (conversion ++ (token FStringExprEnd ∷ ps)) ≡ say end ++ draft ps)
      → (start at used : ℕ) (p q r t : Page) → at < length f → k ≤ length (drop (at + 1) f)
      → m ≡ mark_of (get_or f at 0) (get_or f (at + 1) 0) (get_or f (at + 2) 0) (get_or f (at + 3) 0)
      → Wrote p (say (flat_map escaped (take (at - start) (drop start f)))) q → Wrote q (drafted_hole s end (drop used vs)) r
      → (n : ℕ) → at + 1 + k ≡ n → Wrote r (drafted_rest s f vs n n (used + 1)) t
      → Wrote p (drafted_rest s f vs start at used) t
  place_step m k conversion end is_place ends start at used p q r t within some is u v n there w =
      let es = map hole_source (drop used vs) in
      let next : Wrote r (draft (filled_after s k (drop (at + 1) f) (map hole_source (drop 1 (drop used vs))))) t =
      wrote_as r t _ _ w (nothing_before n f (draft (filled_after s 0 (drop n f) (map hole_source (drop (used + 1) vs))))
      ∙ ap (λ i. draft (filled_after s 0 (drop i f) (map hole_source (drop (used + 1) vs)))) (sym there)
      ∙ ap (λ xs. draft (filled_after s 0 xs (map hole_source (drop (used + 1) vs)))) (sym (drop-drop k (at + 1) f))
      ∙ ap (λ ws. draft (filled_after s 0 (drop k (drop (at + 1) f)) (map hole_source ws))) (sym (drop-drop 1 used vs))
      ∙ ap draft (sym (after_skip s k (drop (at + 1) f) (map hole_source (drop 1 (drop used vs))) some))) in
      let filled = placed_written conversion end ends (filled_after s k (drop (at + 1) f)) (drop used vs) q r t v next in
      wrote_append p q t _ _ u (wrote_as q t _ _ filled
      (ap draft (sym (is_place (get_or f at 0) es (λ k. filled_after s k (drop (at + 1) f))) ∙ sym (rest_at s f at es m within is))))
    where
      nothing_before : (n : ℕ) (f : Text) (d : Draft) → say (flat_map escaped (take (n - n) (drop n f))) ++ d ≡ d
      nothing_before n f d = ap (λ k. say (flat_map escaped (take k (drop n f))) ++ d) (none_left n)

  hole_ends : (ps : Pieces) → draft ([] ++ (token FStringExprEnd ∷ ps)) ≡ say (codes "}") ++ draft ps
  hole_ends ps = refl

  repr_ends : (ps : Pieces) → draft (as_repr ++ (token FStringExprEnd ∷ ps)) ≡ say (codes "!r}") ++ draft ps
  repr_ends ps = refl

  pub hole_step : (start at used : ℕ) (p q r t : Page) → at + 2 ≤ length f
      → marks.Hole ≡ mark_of (get_or f at 0) (get_or f (at + 1) 0) (get_or f (at + 2) 0) (get_or f (at + 3) 0)
      → Wrote p (say (flat_map escaped (take (at - start) (drop start f)))) q → Wrote q (drafted_hole s (codes "}") (drop used vs)) r
      → Wrote r (drafted_rest s f vs (at + 2) (at + 2) (used + 1)) t → Wrote p (drafted_rest s f vs start at used) t
  hole_step start at used p q r t within is u v w =
      place_step marks.Hole 1 [] (codes "}") (λ b es more. refl) hole_ends start at used p q r t (omega arith) (rw length-drop (omega arith)) is u v (at + 2)
      (later at) w

  pub repr_step : (start at used : ℕ) (p q r t : Page) → at + 4 ≤ length f
      → marks.ReprHole ≡ mark_of (get_or f at 0) (get_or f (at + 1) 0) (get_or f (at + 2) 0) (get_or f (at + 3) 0)
      → Wrote p (say (flat_map escaped (take (at - start) (drop start f)))) q → Wrote q (drafted_hole s (codes "!r}") (drop used vs)) r
      → Wrote r (drafted_rest s f vs (at + 4) (at + 4) (used + 1)) t → Wrote p (drafted_rest s f vs start at used) t
  repr_step start at used p q r t within is u v w =
      place_step marks.ReprHole 3 as_repr (codes "!r}") (λ b es more. refl) repr_ends start at used p q r t (omega arith) (rw length-drop (omega arith)) is u
      v (at + 4) (last_left at) w

  pub broken_step : (start at used : ℕ) (p q r : Page) → at < length f
      → marks.Broken ≡ mark_of (get_or f at 0) (get_or f (at + 1) 0) (get_or f (at + 2) 0) (get_or f (at + 3) 0)
      → Wrote p (say (flat_map escaped (take (at - start) (drop start f)))) q → Wrote q (fault s ∷ []) r → Wrote p (drafted_rest s f vs start at used) r
  broken_step start at used p q r within is u v =
      wrote_as p r _ _ (wrote_append p q r _ _ u v)
      (ap (λ ps. say (flat_map escaped (take (at - start) (drop start f))) ++ draft ps)
      (sym (rest_at s f at (map hole_source (drop used vs)) marks.Broken within is)))

  -- at the end of the format
  at_end : (start at used : ℕ) → length f ≤ at → start ≤ at → drafted_rest s f vs start at used
      ≡ say (flat_map escaped (drop start f)) ++ draft (filled_after s 0 [] (map hole_source (drop used vs)))
  at_end start at used end low =
      ap (λ xs. say (flat_map escaped (take (at - start) (drop start f))) ++ draft (filled_after s 0 xs (map hole_source (drop used vs)))) (drop_all at f end)
      ∙ ap (λ xs. say (flat_map escaped xs) ++ draft (filled_after s 0 [] (map hole_source (drop used vs))))
      (take_all (at - start) (drop start f) (rw length-drop (omega arith)))

  pub all_used : (start at used : ℕ) (p q : Page) → length f ≤ at → start ≤ at → length vs ≤ used
      → Wrote p (say (flat_map escaped (drop start f))) q → Wrote p (drafted_rest s f vs start at used) q
  all_used start at used p q end low none w =
      wrote_as p q _ _ w (sym (at_end start at used end low
      ∙ ap (λ ws. say (flat_map escaped (drop start f)) ++ draft (filled_after s 0 [] (map hole_source ws))) (drop_all used vs none)
      ∙ append-nil (say (flat_map escaped (drop start f)))))

  one_unused : (ws : List (Spanned (ExprP P A B C D E))) → 0 < length ws → draft (filled_after s 0 [] (map hole_source ws)) ≡ fault s ∷ []
  one_unused [] some = absurd (omega arith)
  one_unused (w ∷ ws) some = refl

  pub some_unused : (start at used : ℕ) (p q r : Page) → length f ≤ at → start ≤ at → used < length vs
      → Wrote p (say (flat_map escaped (drop start f))) q → Wrote q (fault s ∷ []) r → Wrote p (drafted_rest s f vs start at used) r
  some_unused start at used p q r end low some v w =
      wrote_as p r _ _ (wrote_append p q r _ _ v w)
      (sym (at_end start at used end low ∙ ap (λ l. say (flat_map escaped (drop start f)) ++ l) (one_unused (drop used vs) (rw length-drop (omega arith)))))

  -- the whole format is what is left at its start
  pub whole_rest : drafted_rest s f vs 0 0 0 ≡ drafted_filled s f vs
  unfolding drafted_filled
  whole_rest = refl

  -- an expression in its hole
  pub hole_there : (end : Text) (i : ℕ) (v : Spanned (ExprP P A B C D E)) → i < length vs → v ≡ get_or vs i v
      → say (codes "{") ++ (draft (hole_source v) ++ say end) ≡ drafted_hole s end (drop i vs)
  hole_there end i v some is =
      ap (λ x. say (codes "{") ++ (draft (hole_source x) ++ say end)) is ∙ ap (drafted_hole s end) (sym (drop_more vs i v some))

  pub hole_missing : (end : Text) (i : ℕ) → length vs ≤ i → fault s ∷ [] ≡ drafted_hole s end (drop i vs)
  hole_missing end i none = ap (drafted_hole s end) (sym (drop_all i vs none))

  -- a space before a brace
  pub opened : (end : Text) (v : Spanned (ExprP P A B C D E))
      → say (if shape_begins_with_brace (shape_seen v.node) then codes "{ " else codes "{") ++ (drafted_expr v.node ++ say end)
      ≡ say (codes "{") ++ (draft (hole_source v) ++ say end)
  unfolding drafted_expr hole_source
  opened end v = apart (shape_begins_with_brace (shape_seen v.node))
    where
      apart : (b : Bool) → say (if b then codes "{ " else codes "{") ++ (draft (shape_source (shape_seen v.node)) ++ say end)
          ≡ say (codes "{") ++ (draft (kept_apart b (shape_source (shape_seen v.node))) ++ say end)
      apart true = refl
      apart false = refl
