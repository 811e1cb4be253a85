-- No node that occurs and breaks a rule is missed.
use Rattle.std.proofs.Common.{◌≡◌, ◌≤◌, ◌+◌, ℕ, Bool, true, false, List, [], ◌∷◌, ◌++◌, map, length, length-append, refl, sym, ◌∙◌, ap, subst, arith, Option}
use Rattle.std.proofs.Common.{Some, None, ◌⊎◌, inl, inr}
use Rattle.std.proofs.lemmas.List.{append-nil}
use Rattle.starlark_lexer.specs.Tokens.{Lexeme}
use Rattle.starlark_lexer.specs.declared.dialect.DialectTypes.{DialectTypes}
use Rattle.starlark_spec.specs.Faults.{Fault}
use Rattle.starlark_spec.specs.Items.{Items, Ending, at_end}
use Rattle.starlark_spec.specs.Grammar.{Nonterminal, Derivation, Node, node, RightSide, right_side, yield_of, side_yield}
use Rattle.starlark_spec.specs.Grammar.RightSide.{nothing, word, ◌⨾◌, marked, tokens_end}
use Rattle.starlark_spec.specs.Grammar.Nonterminal.{Module}
use Rattle.starlark_spec.specs.Nodes.{Occurrence, shifted, occurrences, IsMember, IsClosedBy}
use Rattle.starlark_spec.specs.Rules.{Breaks}
use Rattle.starlark_spec.specs.Answers.{BrokenNode, KeepsRules, IsBroken}
use Rattle.starlark_spec.specs.Machine.States.{Place, State}
use Rattle.starlark_spec.specs.Machine.States.State.{done}
use Rattle.starlark_spec.specs.Machine.Sight.{look}
use Rattle.starlark_spec.specs.Machine.Faults.{node_fault, in_time, fault_at}
use Rattle.starlark_spec.specs.Machine.ReadParts.{seen, seen_at}
use Rattle.starlark_spec.specs.Machine.Steps.{start, Config, config, step, Reaches, here, more, Clean, rests, steps_on}
use Rattle.std.specs.Bool.{⊤}
use Rattle.starlark_spec.proofs.Constructors.{not_none, not_some}
use Rattle.starlark_spec.proofs.Runs.{stays, runs}
use Rattle.starlark_spec.proofs.Blocks.{opened, obeys, follows, AtEnd, none_obeys, none_after, none_before, none_inside}
use Rattle.starlark_spec.proofs.BlockEnds.{IsSound, sound, whole_state}
use Rattle.starlark_spec.proofs.Theorems.{fitted}
use Rattle.starlark_spec.proofs.CompletedNodes.{Settled, SettledDone, settled}
use Rattle.starlark_spec.proofs.Viable.{occurrence_at, viable}
use Rattle.starlark_spec.proofs.Parts.{tokens_first, over-occurrences, in_front}
use Rattle.starlark_spec.proofs.ConsumedTokens.{taken, passes, there}
use Rattle.starlark_spec.proofs.ClosedNodes.{Wrong, wrong, Blamed, blamed, closing_has_memory}

-- a clean run and another from one state: the other continues after its end, or it passes a state that breaks no rule
order : {b : Nonterminal} {y : DialectTypes} {z : Ending} {a c d : Config b} → Clean y z a c → Reaches z a d
    → Reaches z c d ⊎ (fault_at y d.state (look z d.rest) ≡ None)
order rests q = inl q
order (steps_on f g) here = inr f
order (steps_on f g) (more q) = order g q

-- ---- a node that breaks a rule, and the machine on the items

-- what is done may be at the end, and no block without its Dedent is before it
inside_so : {n : Nonterminal} (p : Place Module n) (d : Derivation n) (rest : List Lexeme) → IsSound at_end (config (done d p) rest)
    → obeys AtEnd (right_side d) [] ⊤
inside_so p d rest (inl h) = none_obeys AtEnd (right_side d) [] ⊤ (none_after (seen_at p) (opened (right_side d) 0) h) tt
inside_so p d rest (inr e) = follows AtEnd (seen_at p) (yield_of d []) (obeys AtEnd (right_side d) [] ⊤) e.fits

before_so : {n : Nonterminal} (p : Place Module n) (d : Derivation n) (rest : List Lexeme) (own : RightSide) → right_side d ≡ marked (node d) own
    → 1 ≤ length (side_yield own []) → IsSound at_end (config (done d p) rest) → opened (seen_at p) 0 ≡ 0
before_so p d rest own m l (inl h) = none_before (seen_at p) (opened (right_side d) 0) h
before_so p d rest own m l (inr e) = go (yield_of d []) (one_inside (yield_of d []) (ap (λ x. length (side_yield x [])) m) l) e.fits
  where
    one_inside : (ts : List Lexeme) {n : ℕ} → length ts ≡ n → 1 ≤ n → 1 ≤ length ts
    one_inside ts e h = omega (arith, e, h)

    go : (ts : List Lexeme) → 1 ≤ length ts → obeys AtEnd (seen_at p) ts (obeys AtEnd (right_side d) [] ⊤) → opened (seen_at p) 0 ≡ 0
    go [] h f = absurd (omega (arith, h))
    go (x ∷ ts) h f = none_inside (seen_at p) x ts (obeys AtEnd (right_side d) [] ⊤) f

-- once a clean run has arrived, a node that breaks a rule is closed there or later
pub record Ahead {y : DialectTypes} {items : Items} {fault : Fault} {later : List Lexeme} (c : Config Module) (k : BrokenNode y items fault later) : Type 0
  where
    pub what : Nonterminal
    pub derivation : Derivation what
    pub place : Place Module what
    pub is_it : k.occurrence ≡ occurrence_at place derivation
    pub wrong_so : Wrong y derivation later items.ending fault
    pub broken_so : fault_at y (done derivation place) (look items.ending later) ≡ Some fault
    pub breaks : Breaks y (node derivation) later fault
    pub closed : IsClosedBy (node derivation) later items.ending
    pub inside : obeys AtEnd (right_side derivation) [] ⊤
    pub goes : Reaches items.ending c (config (done derivation place) later)

pub ahead : {y : DialectTypes} {items : Items} {fault : Fault} {later : List Lexeme} (c : Config Module) → Clean y items.ending (config start items.tokens) c
    → (k : BrokenNode y items fault later) → Ahead c k
ahead {y = y} {items = items} {fault = fault} {later = later} c q k =
    let p = passes k.stands.derivation k.stands.derives.1 k.occurrence k.stands.occurs in
    let j : IsSound at_end (config (done p.derivation p.place) p.rest) = sound p.comes (inl refl) in
    let closed : IsClosedBy (node p.derivation) later items.ending = subst (λ (x : Occurrence). IsClosedBy x.node later items.ending) p.is_it k.closed in
    let w : Wrong y p.derivation later items.ending fault =
    wrong p.derivation items.ending (subst (λ (x : Occurrence). Breaks y x.node later fault) p.is_it k.breaks) closed
    (inside_so p.place p.derivation p.rest j) in
    let b : fault_at y (done p.derivation p.place) (look items.ending later) ≡ Some fault =
    rw (closing_has_memory items.ending (node p.derivation) later closed, w.fault_is) refl in
    let run : Reaches items.ending (config start items.tokens) (config (done p.derivation p.place) later) =
    subst (λ x. Reaches items.ending (config start x) (config (done p.derivation p.place) later)) (there p.place p.derivation k.occurrence later p.is_it
    ∙ sym k.split) (w.comes p.place (before_so p.place p.derivation p.rest w.own w.is_marked w.has_tokens j)) in
    record {
      what = p.what;
      derivation = p.derivation;
      place = p.place;
      is_it = p.is_it;
      wrong_so = w;
      broken_so = b;
      breaks = subst (λ (x : Occurrence). Breaks y x.node later fault) p.is_it k.breaks;
      closed = closed;
      inside = inside_so p.place p.derivation p.rest j;
      goes = elim (order q run) [ inl g ↦ g | inr n ↦ not_none (sym b ∙ n) ];
    }

-- so if the machine stops and breaks no rule, no rule is broken at all
pub none_broken : {y : DialectTypes} {items : Items} (s : State Module) (rest : List Lexeme) → Clean y items.ending (config start items.tokens) (config s rest)
    → step items.ending (config s rest) ≡ config s rest → fault_at y s (look items.ending rest) ≡ None → KeepsRules y items
none_broken {y = y} {items = items} s rest q stops none fault later k =
    let a = ahead (config s rest) q k in
    let same : config s rest ≡ config (done a.derivation a.place) later = stays a.goes stops in
    not_none (sym a.broken_so ∙ ap (λ (c : Config Module). fault_at y c.state (look items.ending c.rest)) (sym same) ∙ none)

-- and otherwise no node that was closed earlier breaks one
none_earlier : {y : DialectTypes} {items : Items} (s : State Module) (rest : List Lexeme) → Clean y items.ending (config start items.tokens) (config s rest)
    → (fault : Fault) (later : List Lexeme) → BrokenNode y items fault later → length later ≤ length rest
none_earlier s rest q fault later k =
    let t = taken (ahead (config s rest) q k).goes in omega (arith, ap length t.split, length-append t.before later)

-- ---- of two nodes with the same end the inner one begins later

pub in_map : {A B : Type 0} (f : A → B) (x : B) (ys : List A) → IsMember x (map f ys) → (y : A) × IsMember y ys × (x ≡ f y)
in_map f x [] h = absurd h
in_map f x (y ∷ ys) (inl e) = (y, inl refl, e)
in_map f x (y ∷ ys) (inr h) = let k = in_map f x ys h in (k.0, inr k.1, k.2)

pub in_one : {A : Type 0} (x : A) (xs ys : List A) → IsMember x (xs ++ ys) → IsMember x xs ⊎ IsMember x ys
in_one x [] ys h = inr h
in_one x (y ∷ xs) ys (inl e) = inl (inl e)
in_one x (y ∷ xs) ys (inr h) = elim (in_one x xs ys h) [ inl k ↦ inl (inr k) | inr k ↦ inr k ]

-- where a node ends
abbrev pub end_in : Occurrence → ℕ
end_in h = length h.before + length h.own

pub yield_length : (a : RightSide) (r : List Lexeme) → length (side_yield a r) ≡ length (side_yield a []) + length r
yield_length a r = ap length (tokens_first a r) ∙ length-append (side_yield a []) r

-- a node ends inside its part
pub within : (a : RightSide) (h : Occurrence) → IsMember h (occurrences a) → end_in h ≤ length (side_yield a [])
within nothing h i = absurd i
within tokens_end h i = absurd i
within (word t s) h i = absurd i
within (a ⨾ c) h i = elim (in_one h (occurrences a) (map (shifted (side_yield a [])) (occurrences c)) i) [
  | inl k ↦ omega (arith, within a h k, yield_length a (side_yield c []))
  | inr k ↦ let m = in_map (shifted (side_yield a [])) h (occurrences c) k in
      omega (
        arith,
        within c m.0 m.1,
        yield_length a (side_yield c []),
        ap (λ (x : Occurrence). length x.before) m.2,
        ap (λ (x : Occurrence). length x.own) m.2,
        length-append (side_yield a []) m.0.before,
      )
]
within (marked x a) h i = elim (in_one h (occurrences a) _ i) [
  | inl k ↦ within a h k
  | inr k ↦ elim k [
    | inl e ↦ omega (arith, ap (λ (x : Occurrence). length x.before) e, ap (λ (x : Occurrence). length x.own) e)
    | inr v ↦ absurd v
  ]
]

-- a node in what was read up to a node with tokens, if both end together, begins no earlier than that one
begins_later : (q : RightSide) (x : Node) (a : RightSide) (h : Occurrence) → IsMember h (occurrences (q ⨾ marked x a))
    → end_in h ≡ length (side_yield q []) + length (side_yield a []) → 1 ≤ length (side_yield a []) → length (side_yield q []) ≤ length h.before
begins_later q x a h i e l = elim (in_one h (occurrences q) (map (shifted (side_yield q [])) (occurrences (marked x a))) i) [
  | inl k ↦ absurd (omega (arith, within q h k, e, l))
  | inr k ↦ let m = in_map (shifted (side_yield q [])) h (occurrences (marked x a)) k in
      omega (arith, ap (λ (x : Occurrence). length x.before) m.2, length-append (side_yield q []) m.0.before)
]

-- ---- the rule that is reported

-- a state at which a rule is broken is that of a node that breaks it, and that occurs
pub record BrokenState (y : DialectTypes) (s : State Module) (f : Fault) (z : Ending) (rest : List Lexeme) : Type 0 where
  pub nonterminal : Nonterminal
  pub derivation : Derivation nonterminal
  pub place : Place Module nonterminal
  pub is_it : s ≡ done derivation place
  pub to_blame : Blamed y derivation rest z f

never_in_time : {f : Fault} (o : Option Fault) → in_time true o ≡ Some f → ⊥
never_in_time None h = cc
never_in_time (Some g) h = cc

was_in_time : {f : Fault} (o : Option Fault) → in_time false o ≡ Some f → o ≡ Some f
was_in_time None h = h
was_in_time (Some g) h = h

module _ (y : DialectTypes) (z : Ending) (rest : List Lexeme) (f : Fault) where
  own_so : {n : Nonterminal} (p : Place Module n) (d : Derivation n) → IsSound z (config (done d p) rest) → (opened (right_side d) 0 ≡ 0)
      ⊎ ((rest ≡ []) × (z ≡ at_end))
  own_so p d (inl h) = inl (none_after (seen_at p) (opened (right_side d) 0) h)
  own_so p d (inr e) = inr (e.nothing_left, e.ends)

  done_state : {n : Nonterminal} (d : Derivation n) (p : Place Module n) → IsSound z (config (done d p) rest) → SettledDone n d (look z rest).kind
      → (w : Bool) → (look z rest).no_memory ≡ w → in_time w (node_fault y n d (look z rest)) ≡ Some f → BrokenState y (done d p) f z rest
  done_state d p j g true w h = absurd (never_in_time _ h)
  done_state d p j g false w h = record {
    nonterminal = _;
    derivation = d;
    place = p;
    is_it = refl;
    to_blame = blamed y z rest f w d (own_so p d j) g (was_in_time _ h);
  }

  pub broken_state : (s : State Module) → IsSound z (config s rest) → Settled s (look z rest).kind → fault_at y s (look z rest) ≡ Some f
      → BrokenState y s f z rest
  broken_state (done d p) j g h = done_state d p j g (look z rest).no_memory refl h
  broken_state s j g h = not_some h

-- what is done and marked occurs
pub occurrence_there : {n : Nonterminal} (p : Place Module n) (d : Derivation n) (a : RightSide) → right_side d ≡ marked (node d) a
    → IsMember (occurrence_at p d) (occurrences (seen (done d p)))
occurrence_there p d a e =
    subst (λ (x : RightSide). IsMember (record { before = side_yield (seen_at p) []; node = node d; own = side_yield x [] }) (occurrences (seen_at p ⨾ x)))
    (sym e)
    (last_in _ (occurrences (seen_at p)) _ (last_of (side_yield (seen_at p) []) (occurrences a) (record { before = []; node = node d; own = side_yield a [] })
    (append-nil (side_yield (seen_at p) []))))
  where
    last_in : {A : Type 0} (x : A) (xs ys : List A) → IsMember x ys → IsMember x (xs ++ ys)
    last_in x [] ys h = h
    last_in x (y ∷ xs) ys h = inr (last_in x xs ys h)

    last_of : (t : List Lexeme) (hs : List Occurrence) (o : Occurrence) → t ++ [] ≡ t
        → IsMember (record o { before = t }) (map (shifted t) (hs ++ record o { before = [] } ∷ []))
    last_of t [] o e = inl (ap (λ (y : List Lexeme). record o { before = y }) (sym e))
    last_of t (h ∷ hs) o e = inr (last_of t hs o e)

-- the rule that is reported is broken, none by a node that was closed earlier, and of those closed there its node begins last
pub is_broken : (y : DialectTypes) (ts rest : List Lexeme) (z : Ending) (s : State Module) (f : Fault) → Clean y z (config start (ts ++ rest)) (config s rest)
    → ((r : List Lexeme) → side_yield (seen s) r ≡ ts ++ r)
    → fault_at y s (look z rest) ≡ Some f → IsBroken y (record { tokens = ts ++ rest; ending = z }) f
is_broken y ts rest z s f clean told h =
    let j : IsSound z (config s rest) = sound (runs clean) (inl refl) in
    let k = broken_state y z rest f s j (settled (runs clean) tt) h in
    let v = viable s (whole_state s rest j) in
    let one : Occurrence = occurrence_at k.place k.derivation in
    let there_so : (r : List Lexeme) → side_yield (seen s) r ≡ one.before ++ (one.own ++ r) = λ r. ap (λ (x : State Module). side_yield (seen x) r) k.is_it
    ∙ there k.place k.derivation one r refl in
    let inside : IsMember one (occurrences (seen s)) = subst (λ (x : State Module). IsMember one (occurrences (seen x))) (sym k.is_it)
    (occurrence_there k.place k.derivation k.to_blame.own k.to_blame.is_marked) in
    let all : occurrences (right_side v.derivation) ≡ occurrences (seen s) ++ (v.nodes ++ []) = sym (append-nil _)
    ∙ sym (over-occurrences (right_side v.derivation) []) ∙ v.keeps ∙ over-occurrences (seen s) v.nodes
    ∙ ap (λ x. occurrences (seen s) ++ x) (sym (append-nil _)) in
    let whole : ts ++ rest ≡ one.before ++ (one.own ++ rest) = sym (told rest) ∙ there_so rest in
    record {
      rest = rest;
      broken_node = record {
        occurrence = one;
        split = whole;
        stands = record {
          more = v.more;
          derivation = v.derivation;
          derives = (sym (v.spells ∙ there_so v.more), fitted (right_side v.derivation) v.fits);
          occurs = subst (λ x. IsMember one x) (sym all) (in_front one _ _ inside);
        };
        closed = k.to_blame.closed;
        breaks = k.to_blame.breaks;
      };
      first = none_earlier s rest clean;
      last = λ other o.
          let a = ahead (config s rest) clean o in
          let i : IsMember one (occurrences (seen (done a.derivation a.place))) = (taken a.goes).kept one inside in
          let m : IsMember one (occurrences (seen_at a.place ⨾ marked (node a.derivation) a.wrong_so.own)) =
          subst (λ x. IsMember one (occurrences (seen_at a.place ⨾ x))) a.wrong_so.is_marked i in
          let b : length o.occurrence.before ≡ length (side_yield (seen_at a.place) []) = ap (λ (x : Occurrence). length x.before) a.is_it in
          let u : length o.occurrence.own ≡ length (side_yield a.wrong_so.own []) = ap (λ (x : Occurrence). length x.own) a.is_it
          ∙ ap (λ x. length (side_yield x [])) a.wrong_so.is_marked in
          let e : length (ts ++ rest) ≡ end_in o.occurrence + length rest = ap length o.split ∙ ends_so o.occurrence.before o.occurrence.own rest in
          let g : length (ts ++ rest) ≡ end_in one + length rest = ap length whole ∙ ends_so one.before one.own rest in
          omega (arith, b, begins_later (seen_at a.place) (node a.derivation) a.wrong_so.own one m (omega (arith, b, u, e, g)) a.wrong_so.has_tokens);
    }
  where
    ends_so : (x y r : List Lexeme) → length (x ++ (y ++ r)) ≡ length x + length y + length r
    ends_so x y r = omega (arith, length-append x (y ++ r), length-append y r)
