-- No node that a rule is about has the same span as another one inside it: so at one position at most one rule is broken.
use Rattle.std.proofs.Common.{◌≡◌, ◌≤◌, ◌<◌, ◌+◌, arith, List, [], ◌∷◌, ◌++◌, map, length, length-append, append_assoc, refl, sym, ◌∙◌, ap, subst, Some, ◌⊎◌}
use Rattle.std.proofs.Common.{inl, inr}
use Rattle.std.specs.Bool.{⊤}
use Rattle.starlark_lexer.specs.Tokens.{Span, Lexeme, Terminal}
use Rattle.starlark_lexer.specs.declared.dialect.DialectTypes.{DialectTypes}
use Rattle.starlark_spec.specs.Faults.{Fault}
use Rattle.starlark_spec.specs.Grammar.{Nonterminal, ElementKind, ElementOf, PrecedenceLevel, OperandOf, CompSign, Derivation, Node, node, RightSide}
use Rattle.starlark_spec.specs.Grammar.{right_side, sign_side, yield_of, side_yield}
use Rattle.starlark_spec.specs.Grammar as G
use Rattle.starlark_spec.specs.Grammar.RightSide.{◌⨾◌}
use Rattle.starlark_spec.specs.Nodes.{Occurrence, shifted, occurrences, IsMember}
use Rattle.starlark_spec.specs.Rules.{Breaks, no_conversion, other_conversion, comma_after_variables, no_target_in_clause, comma_after_list, name_alone}
use Rattle.starlark_spec.specs.Rules.{no_types, no_type, no_assignment, no_target_in_loop}
use Rattle.starlark_spec.specs.Items.{Items as Given, Ending}
use Rattle.starlark_spec.specs.Answers.{BrokenNode, IsBroken}
use Rattle.starlark_spec.specs.Machine.States.State.{done}
use Rattle.starlark_spec.specs.Machine.ReadParts.{seen, seen_at}
use Rattle.starlark_spec.specs.Machine.Steps.{start, Config, config, Reaches, here, more, rests}
use Rattle.starlark_spec.proofs.Viable.{occurrence_at}
use Rattle.starlark_spec.proofs.Parts.{same_occurrences}
use Rattle.starlark_spec.proofs.ConsumedTokens.{taken}
use Rattle.starlark_spec.proofs.ClosedNodes.{Wrong, wrong}
use Rattle.starlark_spec.proofs.BrokenNodes.{in_map, in_one, end_in, within, yield_length, occurrence_there, Ahead, ahead}

-- no node of a right side begins where the right side begins
pub record Later (a : RightSide) : Type 0 where
  pub at : (h : Occurrence) → IsMember h (occurrences a) → 1 ≤ length h.before

no_nodes : Later G.nothing
no_nodes = record { at = λ h i. absurd i }

no_nodes_word : (t : Terminal) (s : Span) → Later (G.word t s)
no_nodes_word t s = record { at = λ h i. absurd i }

after_word : (t : Terminal) (s : Span) (a : RightSide) → Later (G.word t s ⨾ a)
after_word t s a = record {
  at = λ h i. let m = in_map (shifted (side_yield (G.word t s) [])) h (occurrences a) i in
      omega (arith, ap (λ (x : Occurrence). length x.before) m.2);
}

later_both : (a c : RightSide) → Later a → Later c → Later (a ⨾ c)
later_both a c f g = record {
  at = λ h i. elim (in_one h (occurrences a) (map (shifted (side_yield a [])) (occurrences c)) i) [
    | inl k ↦ f.at h k
    | inr k ↦ let m = in_map (shifted (side_yield a [])) h (occurrences c) k in omega (
      arith,
      g.at m.0 m.1,
      ap (λ (x : Occurrence). length x.before) m.2,
      length-append (side_yield a []) m.0.before,
    )
  ];
}

after_sign : (o : CompSign) (a : RightSide) → Later (sign_side o ⨾ a)
after_sign (G.comparison c s) a = after_word _ s a
after_sign (G.not_in s i) a = record {
  at = λ h g. elim (in_one h (occurrences (sign_side (G.not_in s i))) (map (shifted (side_yield (sign_side (G.not_in s i)) [])) (occurrences a)) g) [
    | inl k ↦ absurd k
    | inr k ↦ let m = in_map (shifted (side_yield (sign_side (G.not_in s i)) [])) h (occurrences a) k in
        omega (arith, ap (λ (x : Occurrence). length x.before) m.2)
  ];
}

-- the elements that begin without such a node
abbrev IsInnerItem : ElementKind → Type 0
IsInnerItem G.symbols = ⊥
IsInnerItem k = ⊤

abbrev pub IsInner : Nonterminal → Type 0
IsInner G.Test = ⊤
IsInner (G.LeftAssociative k) = ⊤
IsInner G.Not = ⊤
IsInner G.Comp = ⊤
IsInner G.Unary = ⊤
IsInner G.Primary = ⊤
IsInner G.Atom = ⊤
IsInner G.Sub = ⊤
IsInner G.Bound = ⊤
IsInner G.Arg = ⊤
IsInner G.Entry = ⊤
IsInner G.LambdaParam = ⊤
IsInner G.FStringParts = ⊤
IsInner G.Annotation = ⊤
IsInner G.ReturnType = ⊤
IsInner G.DefParam = ⊤
IsInner G.Symbols = ⊤
IsInner (G.OptionalList k) = IsInnerItem k
IsInner (G.CommaList k) = IsInnerItem k
IsInner _ = ⊥

level_of : {k : PrecedenceLevel} {n : Nonterminal} → OperandOf k n → IsInner n
level_of G.of_or = tt
level_of G.of_and = tt
level_of G.of_bit_or = tt
level_of G.of_xor = tt
level_of G.of_bit_and = tt
level_of G.of_shift = tt
level_of G.of_add = tt
level_of G.of_multiply = tt

item_of_level : {k : ElementKind} {n : Nonterminal} → ElementOf k n → IsInnerItem k → IsInner n
item_of_level G.of_elements h = tt
item_of_level G.of_arguments h = tt
item_of_level G.of_entries h = tt
item_of_level G.of_lambda_parameters h = tt
item_of_level G.of_variables h = tt
item_of_level G.of_symbols h = absurd h
item_of_level G.of_def_parameters h = tt

pub inner_nodes : {n : Nonterminal} (d : Derivation n) → IsInner n → Later (right_side d)
inner_nodes G.return_type_none h = no_nodes
inner_nodes (G.return_type_note a d) h = after_word _ _ _
inner_nodes (G.def_param_slash s) h = no_nodes_word _ _
inner_nodes (G.def_param_star s) h = no_nodes_word _ _
inner_nodes (G.def_param_args s text i d) h = after_word _ _ _
inner_nodes (G.def_param_kwargs s text i d) h = after_word _ _ _
inner_nodes (G.def_param_name text i d) h = after_word _ _ _
inner_nodes (G.def_param_default text i d e v) h = after_word _ _ _
inner_nodes G.annotation_none h = no_nodes
inner_nodes (G.annotation_note c d) h = after_word _ _ _
inner_nodes G.symbols_none h = no_nodes
inner_nodes (G.symbols_list c d) h = after_word _ _ _
inner_nodes (G.test_or d) h = inner_nodes d tt
inner_nodes (G.test_if d i c e f) h = later_both _ _ (inner_nodes d tt) (after_word _ _ _)
inner_nodes (G.test_lambda l d c e) h = after_word _ _ _
inner_nodes (G.left_one u d) h = inner_nodes d (level_of u)
inner_nodes (G.left_more u d o s e) h = later_both _ _ (inner_nodes d tt) (after_word _ _ _)
inner_nodes (G.not_not s d) h = after_word _ _ _
inner_nodes (G.not_comp d) h = inner_nodes d tt
inner_nodes (G.comp_one d) h = inner_nodes d tt
inner_nodes (G.comp_two d o e) h = later_both _ _ (inner_nodes d tt) (after_sign o _)
inner_nodes (G.unary_sign o s d) h = after_word _ _ _
inner_nodes (G.unary_primary d) h = inner_nodes d tt
inner_nodes (G.primary_atom d) h = inner_nodes d tt
inner_nodes (G.primary_dot d s text i) h = later_both _ _ (inner_nodes d tt) (after_word _ _ _)
inner_nodes (G.primary_subscript d o f c) h = later_both _ _ (inner_nodes d tt) (after_word _ _ _)
inner_nodes (G.primary_call d o f c) h = later_both _ _ (inner_nodes d tt) (after_word _ _ _)
inner_nodes (G.sub_one d) h = inner_nodes d tt
inner_nodes (G.sub_two d c e) h = later_both _ _ (inner_nodes d tt) (after_word _ _ _)
inner_nodes (G.sub_slice d c e) h = later_both _ _ (inner_nodes d tt) (after_word _ _ _)
inner_nodes (G.sub_step d c e s f) h = later_both _ _ (inner_nodes d tt) (after_word _ _ _)
inner_nodes G.bound_none h = no_nodes
inner_nodes (G.bound_test d) h = inner_nodes d tt
inner_nodes (G.arg_test d) h = inner_nodes d tt
inner_nodes (G.arg_named text s e d) h = after_word _ _ _
inner_nodes (G.arg_star s d) h = after_word _ _ _
inner_nodes (G.arg_stars s d) h = after_word _ _ _
inner_nodes (G.entry d c e) h = later_both _ _ (inner_nodes d tt) (after_word _ _ _)
inner_nodes (G.lambda_param_slash s) h = no_nodes_word _ _
inner_nodes (G.lambda_param_star s) h = no_nodes_word _ _
inner_nodes (G.lambda_param_args s text i) h = after_word _ _ _
inner_nodes (G.lambda_param_kwargs s text i) h = after_word _ _ _
inner_nodes (G.lambda_param_name text i) h = no_nodes_word _ _
inner_nodes (G.lambda_param_default text i e d) h = after_word _ _ _
inner_nodes (G.atom_name text s) h = no_nodes_word _ _
inner_nodes (G.atom_int n s) h = no_nodes_word _ _
inner_nodes (G.atom_float text s) h = no_nodes_word _ _
inner_nodes (G.atom_string text s) h = no_nodes_word _ _
inner_nodes (G.atom_bytes text s) h = no_nodes_word _ _
inner_nodes (G.atom_ellipsis s) h = no_nodes_word _ _
inner_nodes (G.atom_round o d c) h = after_word _ _ _
inner_nodes (G.atom_square o d c) h = after_word _ _ _
inner_nodes (G.atom_curly o d c) h = after_word _ _ _
inner_nodes (G.atom_list_comprehension o d e c) h = after_word _ _ _
inner_nodes (G.atom_dict_comprehension o d e c) h = after_word _ _ _
inner_nodes (G.atom_f_string q s d e) h = after_word _ _ _
inner_nodes G.parts_none h = no_nodes
inner_nodes (G.parts_text d text s) h = later_both _ _ (inner_nodes d tt) (no_nodes_word _ _)
inner_nodes (G.parts_replacement d o e c x) h = later_both _ _ (inner_nodes d tt) (after_word _ _ _)
inner_nodes G.optional_list_none h = no_nodes
inner_nodes (G.optional_list_plain d) h = inner_nodes d h
inner_nodes (G.optional_list_comma d c) h = later_both _ _ (inner_nodes d h) (no_nodes_word _ _)
inner_nodes (G.comma_list_one u d) h = inner_nodes d (item_of_level u h)
inner_nodes (G.comma_list_more u d c e) h = later_both _ _ (inner_nodes d h) (after_word _ _ _)
inner_nodes d h = absurd h

-- ---- no node inside a node that breaks a rule has its span

-- no node of a right side has the right side's span
pub record IsAlone (a : RightSide) : Type 0 where
  pub at : (h : Occurrence) → IsMember h (occurrences a) → (1 ≤ length h.before) ⊎ (end_in h < length (side_yield a []))

later_alone : (a : RightSide) → Later a → IsAlone a
later_alone a f = record { at = λ h i. inl (f.at h i) }

-- a part followed by a token
before_word : (a : RightSide) (t : Terminal) (s : Span) (c : RightSide) → IsAlone (a ⨾ G.word t s ⨾ c)
before_word a t s c = record {
  at = λ h i. elim (in_one h (occurrences a) (map (shifted (side_yield a [])) (occurrences (G.word t s ⨾ c))) i) [
    | inl k ↦ inr (omega (arith, within a h k, yield_length a (side_yield (G.word t s ⨾ c) [])))
    | inr k ↦ let m = in_map (shifted (side_yield a [])) h (occurrences (G.word t s ⨾ c)) k in
        inl (omega (arith, (after_word t s c).at m.0 m.1, ap (λ (x : Occurrence). length x.before) m.2, length-append (side_yield a []) m.0.before))
  ];
}

last_word : (a : RightSide) (t : Terminal) (s : Span) → IsAlone (a ⨾ G.word t s)
last_word a t s = record {
  at = λ h i. elim (in_one h (occurrences a) (map (shifted (side_yield a [])) (occurrences (G.word t s))) i) [
    | inl k ↦ inr (omega (arith, within a h k, yield_length a (side_yield (G.word t s) [])))
    | inr k ↦ absurd k
  ];
}

again_both : (a c d : RightSide) → IsAlone ((a ⨾ c) ⨾ d) → IsAlone (a ⨾ c ⨾ d)
again_both a c d f = record { at = λ h i. f.at h (subst (λ x. IsMember h x) (sym (same_occurrences ((a ⨾ c) ⨾ d) (a ⨾ c ⨾ d) refl)) i) }

own_same : {x w : Node} {a c : RightSide} → G.marked x a ≡ G.marked w c → a ≡ c
own_same e = cc

tail_same : {i j : Lexeme} {x w : List Lexeme} → i ∷ x ≡ j ∷ w → x ≡ w
tail_same e = cc

some_same : {x w : Fault} → Some x ≡ Some w → x ≡ w
some_same e = cc

pub alone_in : {y : DialectTypes} {n : Nonterminal} (d : Derivation n) {rest : List Lexeme} {f : Fault} → Breaks y (node d) rest f → (own : RightSide)
    → right_side d ≡ G.marked (node d) own → IsAlone own
alone_in d (no_conversion s rest) own e = subst IsAlone (own_same e) (later_alone _ (no_nodes_word _ _))
alone_in d (other_conversion s name i rest none) own e = subst IsAlone (own_same e) (later_alone _ (after_word _ _ _))
alone_in x (comma_after_variables d c rest) own e = subst IsAlone (own_same e) (last_word (right_side d) _ _)
alone_in x (no_target_in_clause f d i v rest g none) own e = subst IsAlone (own_same e) (later_alone _ (after_word _ _ _))
alone_in x (comma_after_list d c rest) own e = subst IsAlone (own_same e) (last_word (right_side d) _ _)
alone_in x (name_alone text i rest) own e = subst IsAlone (own_same e) (later_alone _ (no_nodes_word _ _))
alone_in x (no_types d rest off) own e = subst IsAlone (own_same e) (later_alone _ (inner_nodes d tt))
alone_in x (no_type d rest f on none) own e = subst IsAlone (own_same e) (later_alone _ (inner_nodes d tt))
alone_in x (no_assignment d n o s v rest f none) own e =
    subst IsAlone (own_same e) (again_both (right_side d) (right_side n) _ (before_word (right_side d ⨾ right_side n) _ _ _))
alone_in x (no_target_in_loop f d i v c s rest g none) own e = subst IsAlone (own_same e) (later_alone _ (after_word _ _ _))

-- ---- so one rule is reported

either : {b : Nonterminal} {z : Ending} {a c d : Config b} → Reaches z a c → Reaches z a d → Reaches z c d ⊎ Reaches z d c
either here q = inl q
either (more p) here = inr (more p)
either (more p) (more q) = either p q

same_suffix : (x w r q : List Lexeme) → x ++ r ≡ w ++ q → length r ≡ length q → r ≡ q
same_suffix [] [] r q e h = e
same_suffix (i ∷ x) (j ∷ w) r q e h = same_suffix x w r q (tail_same e) h
same_suffix [] (j ∷ w) r q e h = absurd (omega (arith, ap length e, h, length-append w q))
same_suffix (i ∷ x) [] r q e h = absurd (omega (arith, ap length e, h, length-append x r))

-- a node in what was read up to a node, with its span, is that node
inner_same : (q : RightSide) (x : Node) (a : RightSide) (h : Occurrence) → IsMember h (occurrences (q ⨾ G.marked x a))
    → length h.before ≡ length (side_yield q []) → end_in h ≡ length (side_yield q []) + length (side_yield a []) → 1 ≤ length (side_yield a []) → IsAlone a
    → h.node ≡ x
inner_same q x a h i u e l f = elim (in_one h (occurrences q) (map (shifted (side_yield q [])) (occurrences (G.marked x a))) i) [
  | inl k ↦ absurd (omega (arith, within q h k, e, l))
  | inr k ↦ let m = in_map (shifted (side_yield q [])) h (occurrences (G.marked x a)) k in
      let b : length h.before ≡ length (side_yield q []) + length m.0.before = ap (λ (x : Occurrence). length x.before) m.2
      ∙ length-append (side_yield q []) m.0.before in
      let o : length h.own ≡ length m.0.own = ap (λ (x : Occurrence). length x.own) m.2 in
      elim (in_one m.0 (occurrences a) _ m.1) [
        | inl j ↦ elim (f.at m.0 j) [ inl g ↦ absurd (omega (arith, u, b, g)) | inr g ↦ absurd (omega (arith, u, b, o, e, g)) ]
        | inr j ↦ elim j [ inl g ↦ ap (λ (x : Occurrence). x.node) m.2 ∙ ap (λ (x : Occurrence). x.node) g | inr g ↦ absurd g ]
      ]
]

whole_length : {y : DialectTypes} {items : Given} {f : Fault} {rest : List Lexeme} (k : BrokenNode y items f rest) (h : Occurrence) → k.occurrence ≡ h
    → length items.tokens ≡ length h.before + length h.own + length rest
whole_length {rest = rest} k h e =
    omega (
      arith,
      ap length k.split,
      length-append k.occurrence.before (k.occurrence.own ++ rest),
      length-append k.occurrence.own rest,
      ap (λ (x : Occurrence). length x.before) e,
      ap (λ (x : Occurrence). length x.own) e,
    )

-- the node that the machine reaches first is the other one
the_same : {y : DialectTypes} {items : Given} {f g : Fault} {rest : List Lexeme} (k : BrokenNode y items f rest) (j : BrokenNode y items g rest)
    → length k.occurrence.before ≡ length j.occurrence.before
    → (a : Ahead (config start items.tokens) k) (b : Ahead (config start items.tokens) j) → Reaches items.ending (config (done a.derivation a.place) rest)
    (config (done b.derivation b.place) rest) → f ≡ g
the_same {y = y} {items = items} {f = f} {g = g} {rest = rest} k j same a b run =
    let one : Occurrence = occurrence_at a.place a.derivation in
    let i : IsMember one (occurrences (seen (done b.derivation b.place))) =
    (taken run).kept one (occurrence_there a.place a.derivation a.wrong_so.own a.wrong_so.is_marked) in
    let m : IsMember one (occurrences (seen_at b.place ⨾ G.marked (node b.derivation) b.wrong_so.own)) =
    subst (λ x. IsMember one (occurrences (seen_at b.place ⨾ x))) b.wrong_so.is_marked i in
    let u : length one.before ≡ length (side_yield (seen_at b.place) []) = ap (λ (x : Occurrence). length x.before) (sym a.is_it) ∙ same
    ∙ ap (λ (x : Occurrence). length x.before) b.is_it in
    let v : length (yield_of b.derivation []) ≡ length (side_yield b.wrong_so.own []) = ap (λ x. length (side_yield x [])) b.wrong_so.is_marked in
    let t : length items.tokens ≡ length one.before + length one.own + length rest = whole_length k one a.is_it in
    let s : length items.tokens ≡ length (side_yield (seen_at b.place) []) + length (yield_of b.derivation []) + length rest =
    whole_length j (occurrence_at b.place b.derivation) b.is_it in
    let same_node : node a.derivation ≡ node b.derivation = inner_same (seen_at b.place) (node b.derivation) b.wrong_so.own one m u
    (omega (arith, u, v, t, s)) b.wrong_so.has_tokens (alone_in b.derivation b.breaks b.wrong_so.own b.wrong_so.is_marked) in
    let w : Wrong y b.derivation rest items.ending f = wrong b.derivation items.ending (subst (λ x. Breaks y x rest f) same_node a.breaks) b.closed b.inside in
    some_same (sym w.fault_is ∙ b.wrong_so.fault_is)

at_one_place : {y : DialectTypes} {items : Given} {f g : Fault} {rest : List Lexeme} (k : BrokenNode y items f rest)
    → ((other : Fault) (n : BrokenNode y items other rest) → length n.occurrence.before ≤ length k.occurrence.before)
    → (j : BrokenNode y items g rest) → ((other : Fault) (n : BrokenNode y items other rest) → length n.occurrence.before ≤ length j.occurrence.before) → f ≡ g
at_one_place {items = items} {f = f} {g = g} k l j m =
    let a = ahead (config start items.tokens) rests k in
    let b = ahead (config start items.tokens) rests j in
    let same : length k.occurrence.before ≡ length j.occurrence.before = omega (arith, l g j, m f k) in
    elim (either a.goes b.goes) [ inl q ↦ the_same k j same a b q | inr q ↦ sym (the_same j k (sym same) b a q) ]

-- two rules that are reported for the same items are one
pub same_broken : {y : DialectTypes} {items : Given} {f g : Fault} → IsBroken y items f → IsBroken y items g → f ≡ g
same_broken {y = y} {items = items} {f = f} {g = g} a b =
    let e : length a.rest ≡ length b.rest = omega (arith, a.first g b.rest b.broken_node, b.first f a.rest a.broken_node) in
    let w : (a.broken_node.occurrence.before ++ a.broken_node.occurrence.own) ++ a.rest ≡ (b.broken_node.occurrence.before ++ b.broken_node.occurrence.own)
    ++ b.rest =
    append_assoc a.broken_node.occurrence.before a.broken_node.occurrence.own a.rest ∙ sym a.broken_node.split ∙ b.broken_node.split
    ∙ sym (append_assoc b.broken_node.occurrence.before b.broken_node.occurrence.own b.rest) in
    subst (λ r. (j : BrokenNode y items g r) → ((other : Fault) (n : BrokenNode y items other r) → length n.occurrence.before ≤ length j.occurrence.before)
    → f ≡ g) (same_suffix (a.broken_node.occurrence.before ++ a.broken_node.occurrence.own) (b.broken_node.occurrence.before
    ++ b.broken_node.occurrence.own) a.rest b.rest w e)
    (λ j m. at_one_place a.broken_node a.last j m) b.broken_node b.last
