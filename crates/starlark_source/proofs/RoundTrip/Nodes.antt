-- The nodes of a derivation break no rule exactly if its targets are targets and its types are types.
use Rattle.std.proofs.Common.{◌≡◌, List as Seq, [], ◌∷◌, ◌++◌, map, Bool, true, false, Option, Some, None, Result, Ok, Err, ◌⊎◌, inl, inr, refl, sym, ap, ◌∙◌}
use Rattle.std.proofs.Common.{subst, append_assoc, is_some}
use Rattle.std.specs.Bool.{⊤}
use Rattle.std.specs.Prelude.{is_ok}
use Rattle.starlark_lexer.specs.Tokens.{Lexeme, lexeme}
use Rattle.starlark_lexer.specs.declared.dialect.DialectTypes.{DialectTypes}
use Rattle.starlark_lexer.specs.declared.dialect.DialectTypes.TheVariants.{Disable}
use Rattle.starlark_tree.specs.Ast.{no_payload, Expression, expression_span}
use Rattle.starlark_spec.specs.Faults.{Fault, rule_fault, grammar_fault, Types}
use Rattle.starlark_spec.specs.Types.{reading}
use Rattle.starlark_spec.specs.Targets.{target}
use Rattle.starlark_spec.specs.Assignments.{assigned_target}
use Rattle.starlark_spec.specs.Grammar.{Nonterminal, Derivation, Derives, Node, node, RightSide, right_side, side_yield, yield_of}
use Rattle.starlark_spec.specs.Grammar.RightSide.{nothing, word, ◌⨾◌, marked, tokens_end}
use Rattle.starlark_spec.specs.Grammar.Nonterminal.{Module}
use Rattle.starlark_spec.specs.Grammar.Derivation.{for_loop, for_clause, small_assign, list_comma, vars_comma, sym_alone, conversion_absent, conversion_name}
use Rattle.starlark_spec.specs.Grammar.Derivation.{note_test}
use Rattle.starlark_spec.specs.Trees.{assign_operator, conversion_of, tree}
use Rattle.starlark_spec.specs.Nodes.{Occurrence, shifted, occurrences, IsMember}
use Rattle.starlark_spec.specs.Rules.{Breaks, comma_after_list, comma_after_variables, name_alone, no_conversion, other_conversion, no_types, no_type}
use Rattle.starlark_spec.specs.Rules.{no_assignment, no_target_in_loop, no_target_in_clause}
use Rattle.starlark_spec.specs.ByNodes.{NoneBreaks}
use Rattle.starlark_source.specs.Unspanned.{unspanned}
use Rattle.starlark_source.proofs.ReadBack.Writing.{keeps, node_keeps}
use Rattle.starlark_source.proofs.RoundTrip.TypeReadings.{reading_same}
use Rattle.starlark_source.proofs.RoundTrip.TypeNotes.{note_of, notes, Kept, all_unspanned}

-- ---- occurrences

at_front : {A : Type 0} (x : A) (xs ys : Seq A) → IsMember x xs → IsMember x (xs ++ ys)
at_front x [] ys i = absurd i
at_front x (y ∷ xs) ys (inl e) = inl e
at_front x (y ∷ xs) ys (inr i) = inr (at_front x xs ys i)

at_back : {A : Type 0} (x : A) (xs ys : Seq A) → IsMember x ys → IsMember x (xs ++ ys)
at_back x [] ys i = i
at_back x (y ∷ xs) ys i = inr (at_back x xs ys i)

in_either : {A : Type 0} (x : A) (xs ys : Seq A) → IsMember x (xs ++ ys) → IsMember x xs ⊎ IsMember x ys
in_either x [] ys i = inr i
in_either x (y ∷ xs) ys (inl e) = inl (inl e)
in_either x (y ∷ xs) ys (inr i) = elim (in_either x xs ys i) [ inl j ↦ inl (inr j) | inr j ↦ inr j ]

in_map : (f : Seq Lexeme) (h : Occurrence) (hs : Seq Occurrence) → IsMember h hs → IsMember (shifted f h) (map (shifted f) hs)
in_map f h [] i = absurd i
in_map f h (g ∷ hs) (inl e) = inl (ap (shifted f) e)
in_map f h (g ∷ hs) (inr i) = inr (in_map f h hs i)

of_map : (f : Seq Lexeme) (h : Occurrence) (hs : Seq Occurrence) → IsMember h (map (shifted f) hs) → (g : Occurrence) × IsMember g hs × (h ≡ shifted f g)
of_map f h [] i = absurd i
of_map f h (g ∷ hs) (inl e) = (g, inl refl, e)
of_map f h (g ∷ hs) (inr i) = let x = of_map f h hs i in (x.0, inr x.1, x.2)

-- the occurrence of a marked right side
abbrev itself : Node → RightSide → Occurrence
itself x a = record { before = []; node = x; own = side_yield a [] }

yield_apart : (a : RightSide) (more : Seq Lexeme) → side_yield a more ≡ side_yield a [] ++ more
yield_apart nothing more = refl
yield_apart (word x s) more = refl
yield_apart (a ⨾ b) more =
    ap (λ ls. side_yield a ls) (yield_apart b more) ∙ yield_apart a (side_yield b [] ++ more) ∙ sym (append_assoc (side_yield a []) (side_yield b []) more)
    ∙ ap (λ ls. ls ++ more) (sym (yield_apart a (side_yield b [])))
yield_apart (marked x a) more = yield_apart a more
yield_apart tokens_end more = refl

-- the tokens before an occurrence, its own, and the rest
record Splits (a : RightSide) (more : Seq Lexeme) (h : Occurrence) : Type 0 where
  rest : Seq Lexeme
  is : side_yield a more ≡ h.before ++ (h.own ++ rest)

splits : (a : RightSide) (more : Seq Lexeme) (h : Occurrence) → IsMember h (occurrences a) → Splits a more h
splits nothing more h i = absurd i
splits (word x s) more h i = absurd i
splits (a ⨾ b) more h i = elim (in_either h (occurrences a) (map (shifted (side_yield a [])) (occurrences b)) i) [
  | inl j ↦ (let r = splits a (side_yield b more) h j in record { rest = r.rest; is = r.is })
  | inr j ↦
      (let g = of_map (side_yield a []) h (occurrences b) j in
      let r = splits b more g.0 g.1 in
      record {
        rest = r.rest;
        is = yield_apart a (side_yield b more) ∙ ap (λ ls. side_yield a [] ++ ls) r.is ∙ sym (append_assoc (side_yield a []) g.0.before (g.0.own ++ r.rest))
            ∙ ap (λ (x : Occurrence). x.before ++ (x.own ++ r.rest)) (sym g.2);
      })
]
splits (marked x a) more h i = elim (in_either h (occurrences a) (itself x a ∷ []) i) [
  | inl j ↦ (let r = splits a more h j in record { rest = r.rest; is = r.is })
  | inr (inl e) ↦ record { rest = more; is = yield_apart a more ∙ ap (λ (x : Occurrence). x.before ++ (x.own ++ more)) (sym e) }
  | inr (inr none) ↦ absurd none
]
splits tokens_end more h i = absurd i

module _ (types : DialectTypes) where
  -- ---- what a node keeps

  abbrev pub IsType : Expression no_payload → Type 0
  IsType e = (¬ (types ≡ Disable)) × (is_ok (reading e) ≡ true)

  abbrev pub AreTypes : Seq (Expression no_payload) → Type 0
  AreTypes [] = ⊤
  AreTypes (e ∷ es) = IsType e × AreTypes es

  abbrev Good : Node → Type 0
  Good x = (node_keeps x ≡ true) × AreTypes (note_of x)

  types_front : (es fs : Seq (Expression no_payload)) → AreTypes (es ++ fs) → AreTypes es
  types_front [] fs h = tt
  types_front (e ∷ es) fs h = (h.0, types_front es fs h.1)

  types_back : (es fs : Seq (Expression no_payload)) → AreTypes (es ++ fs) → AreTypes fs
  types_back [] fs h = h
  types_back (e ∷ es) fs h = types_back es fs h.1

  types_joined : (es fs : Seq (Expression no_payload)) → AreTypes es → AreTypes fs → AreTypes (es ++ fs)
  types_joined [] fs h k = k
  types_joined (e ∷ es) fs h k = (h.0, types_joined es fs h.1 k)

  -- ---- all nodes, and each of them

  pub all_kept : (a : RightSide) → ((h : Occurrence) → IsMember h (occurrences a) → Good h.node) → Kept a
  all_kept nothing each = tt
  all_kept (word x s) each = tt
  all_kept (a ⨾ b) each = (
    all_kept a (λ h i. each h (at_front h (occurrences a) (map (shifted (side_yield a [])) (occurrences b)) i)),
    all_kept b (λ h i. each (shifted (side_yield a []) h)
        (at_back (shifted (side_yield a []) h) (occurrences a) (map (shifted (side_yield a [])) (occurrences b))
        (in_map (side_yield a []) h (occurrences b) i))),
  )
  all_kept (marked x a) each = (
    (each (itself x a) (at_back (itself x a) (occurrences a) (itself x a ∷ []) (inl refl))).0,
    all_kept a (λ h i. each h (at_front h (occurrences a) (itself x a ∷ []) i)),
  )
  all_kept tokens_end each = tt

  pub all_types : (a : RightSide) → ((h : Occurrence) → IsMember h (occurrences a) → Good h.node) → AreTypes (notes a)
  all_types nothing each = tt
  all_types (word x s) each = tt
  all_types (a ⨾ b) each = types_joined (notes a) (notes b)
      (all_types a (λ h i. each h (at_front h (occurrences a) (map (shifted (side_yield a [])) (occurrences b)) i)))
      (all_types b (λ h i. each (shifted (side_yield a []) h)
      (at_back (shifted (side_yield a []) h) (occurrences a) (map (shifted (side_yield a [])) (occurrences b))
      (in_map (side_yield a []) h (occurrences b) i))))
  all_types (marked x a) each = types_joined (note_of x) (notes a)
      (each (itself x a) (at_back (itself x a) (occurrences a) (itself x a ∷ []) (inl refl))).1
      (all_types a (λ h i. each h (at_front h (occurrences a) (itself x a ∷ []) i)))
  all_types tokens_end each = tt

  good_at : (a : RightSide) → Kept a → AreTypes (notes a) → (h : Occurrence) → IsMember h (occurrences a) → Good h.node
  good_at nothing k y h i = absurd i
  good_at (word x s) k y h i = absurd i
  good_at (a ⨾ b) k y h i = elim (in_either h (occurrences a) (map (shifted (side_yield a [])) (occurrences b)) i) [
    | inl j ↦ good_at a k.0 (types_front (notes a) (notes b) y) h j
    | inr j ↦ (let g = of_map (side_yield a []) h (occurrences b) j in
        subst (λ (x : Occurrence). Good x.node) (sym g.2) (good_at b k.1 (types_back (notes a) (notes b) y) g.0 g.1))
  ]
  good_at (marked x a) k y h i = elim (in_either h (occurrences a) (itself x a ∷ []) i) [
    | inl j ↦ good_at a k.1 (types_back (note_of x) (notes a) y) h j
    | inr (inl e) ↦ subst (λ (z : Occurrence). Good z.node) (sym e) (k.0, types_front (note_of x) (notes a) y)
    | inr (inr none) ↦ absurd none
  ]
  good_at tokens_end k y h i = absurd i

  -- ---- breaking a rule

  ok_unless : {A : Type 0} (r : Result A Fault) → ((f : Fault) → ¬ (r ≡ Err f)) → is_ok r ≡ true
  ok_unless (Ok x) h = refl
  ok_unless (Err f) h = absurd (h f refl)

  some_unless : {A : Type 0} (o : Option A) → ¬ (o ≡ None) → is_some o ≡ true
  some_unless (Some x) h = refl
  some_unless None h = absurd (h refl)

  unbroken_keeps : {n : Nonterminal} (d : Derivation n) (rest : Seq Lexeme) → ((f : Fault) → ¬ Breaks types (node d) rest f) → keeps d ≡ true
  unbroken_keeps (for_loop f v i e c s) rest h = ok_unless (target (tree v)) (λ x is. h x (no_target_in_loop f v i e c s rest x is))
  unbroken_keeps (for_clause f v i e) rest h = ok_unless (target (tree v)) (λ x is. h x (no_target_in_clause f v i e rest x is))
  unbroken_keeps (small_assign l n o s e) rest h = ok_unless (assigned_target (tree l) (tree n) (assign_operator o))
      (λ x is. h x (no_assignment l n o s e rest x is))
  unbroken_keeps (list_comma l c) rest h = absurd (h _ (comma_after_list l c rest))
  unbroken_keeps (vars_comma l c) rest h = absurd (h _ (comma_after_variables l c rest))
  unbroken_keeps (sym_alone w s) rest h = absurd (h _ (name_alone w s rest))
  unbroken_keeps (conversion_absent b) rest h = absurd (h _ (no_conversion b rest))
  unbroken_keeps (conversion_name b w s) rest h = some_unless (conversion_of w) (λ is. h _ (other_conversion b w s rest is))
  unbroken_keeps d rest h = refl

  unbroken_types : {n : Nonterminal} (d : Derivation n) (rest : Seq Lexeme) → ((f : Fault) → ¬ Breaks types (node d) rest f) → AreTypes (note_of (node d))
  unbroken_types (note_test d) rest h =
      let on : ¬ (types ≡ Disable) = λ is. h _ (no_types d rest is) in
      ((on, ok_unless (reading (tree d)) (λ f is. h f (no_type d rest f on is))), tt)
  unbroken_types d rest h = tt

  unbroken_good : (x : Node) (rest : Seq Lexeme) → ((f : Fault) → ¬ Breaks types x rest f) → Good x
  unbroken_good (node d) rest h = (unbroken_keeps d rest h, unbroken_types d rest h)

  broken_result : {A : Type 0} (r : Result A Fault) (f : Fault) → r ≡ Err f → is_ok r ≡ true → ⊥
  broken_result (Ok x) f is ok = absurd (cc)
  broken_result (Err g) f is ok = absurd (cc)

  broken_option : {A : Type 0} (o : Option A) → o ≡ None → is_some o ≡ true → ⊥
  broken_option (Some x) is some = absurd (cc)
  broken_option None is some = absurd (cc)

  not_false : false ≡ true → ⊥
  not_false e = absurd (cc)

  good_unbroken : (x : Node) (rest : Seq Lexeme) (f : Fault) → Breaks types x rest f → Good x → ⊥
  good_unbroken _ _ _ (comma_after_list l c rest) g = not_false g.0
  good_unbroken _ _ _ (comma_after_variables l c rest) g = not_false g.0
  good_unbroken _ _ _ (name_alone w s rest) g = not_false g.0
  good_unbroken _ _ _ (no_conversion b rest) g = not_false g.0
  good_unbroken _ _ _ (other_conversion b w s rest is) g = broken_option (conversion_of w) is g.0
  good_unbroken _ _ _ (no_types d rest is) g = g.1.0.0 is
  good_unbroken _ _ _ (no_type d rest f on is) g = broken_result (reading (tree d)) f is g.1.0.1
  good_unbroken _ _ _ (no_assignment l n o s e rest f is) g = broken_result (assigned_target (tree l) (tree n) (assign_operator o)) f is g.0
  good_unbroken _ _ _ (no_target_in_loop f v i e c s rest x is) g = broken_result (target (tree v)) x is g.0
  good_unbroken _ _ _ (no_target_in_clause f v i e rest x is) g = broken_result (target (tree v)) x is g.0

  -- ---- modules

  -- each node of a module that breaks no rule is good
  each_good : (ls : Seq Lexeme) (d : Derivation Module) → Derives Module ls [] d → NoneBreaks types ls d → (h : Occurrence)
      → IsMember h (occurrences (right_side d)) → Good h.node
  each_good ls d derives none h i =
      let s = splits (right_side d) [] h i in
      unbroken_good h.node s.rest (λ f b. none h s.rest f i (derives.0 ∙ s.is) b)

  pub kept_by : (ls : Seq Lexeme) (d : Derivation Module) → Derives Module ls [] d → NoneBreaks types ls d → Kept (right_side d)
  kept_by ls d derives none = all_kept (right_side d) (each_good ls d derives none)

  pub types_by : (ls : Seq Lexeme) (d : Derivation Module) → Derives Module ls [] d → NoneBreaks types ls d → AreTypes (notes (right_side d))
  types_by ls d derives none = all_types (right_side d) (each_good ls d derives none)

  -- and if they are good, none breaks a rule
  pub none_breaks : (ls : Seq Lexeme) (d : Derivation Module) → Kept (right_side d) → AreTypes (notes (right_side d)) → NoneBreaks types ls d
  none_breaks ls d k y h rest f i split b = good_unbroken h.node rest f b (good_at (right_side d) k y h i)

  -- ---- without spans

  pub types_placed : (es : Seq (Expression no_payload)) → AreTypes es → AreTypes (all_unspanned es)
  types_placed [] h = tt
  types_placed (e ∷ es) h = ((h.0.0, reading_same e ∙ h.0.1), types_placed es h.1)

  pub types_there : (es : Seq (Expression no_payload)) → AreTypes (all_unspanned es) → AreTypes es
  types_there [] h = tt
  types_there (e ∷ es) h = ((h.0.0, sym (reading_same e) ∙ h.0.1), types_there es h.1)
