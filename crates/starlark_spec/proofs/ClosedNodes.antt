-- A node that breaks a rule is closed exactly if the machine comes to its end and finds the rule broken.
use Rattle.std.proofs.Common.{ℕ, ◌≡◌, ◌≤◌, ◌<◌, lit≤, arith, Bool, true, false, if◌then◌else◌, List, [], ◌∷◌, length, length-append, refl, sym, ◌∙◌, ap}
use Rattle.std.proofs.Common.{subst, Option, Some, None, Result, Ok, Err, ◌⊎◌, inl, inr}
use Rattle.std.proofs.lemmas.Bool.{leb-true, leb-false}
use Rattle.std.specs.Prelude.{nat_le}
use Rattle.starlark_lexer.specs.Tokens.{Text, Span, from_to, Lexeme, lexeme, Terminal, nowhere}
use Rattle.starlark_lexer.specs.Tokens as tokens
use Rattle.starlark_lexer.specs.declared.token.FStringConv.{FStringConv}
use Rattle.starlark_lexer.specs.declared.kind.Kind.{Kind}
use Rattle.starlark_lexer.specs.declared.kind.Kind.TheVariants as kinds
use Rattle.starlark_spec.specs.declared.error.GrammarError.TheVariants.{FStringConversion, UnparenthesizedTupleTrailingComma, LoadNameWithoutEqual}
use Rattle.starlark_spec.specs.Faults.{Fault, rule_fault, grammar_fault, Types}
use Rattle.starlark_spec.specs.Targets.{target}
use Rattle.starlark_lexer.specs.declared.dialect.DialectTypes.{DialectTypes}
use Rattle.starlark_lexer.specs.declared.dialect.DialectTypes.TheVariants.{Disable, ParseOnly, Enable}
use Rattle.starlark_spec.specs.Types.{reading, Reading}
use Rattle.starlark_spec.specs.Assignments.{assigned_target}
use Rattle.starlark_spec.proofs.Constructors.{not_false, not_some, not_true}
use Rattle.starlark_spec.proofs.Viable.{w as word_of}
use Rattle.starlark_tree.specs.Ast.{Target, Expression, expression_span, no_payload}
use Rattle.starlark_spec.specs.Items.{Ending, at_end, fails, out_of_memory}
use Rattle.starlark_spec.specs.Grammar.{Nonterminal, AssignSign, assign_token, Derivation, Node, node, RightSide, right_side, yield_of, side_yield}
use Rattle.starlark_spec.specs.Grammar.RightSide.{marked}
use Rattle.starlark_spec.specs.Grammar.Nonterminal.{Module, Small, Test, Conversion, LoopVars, ForClause, TestList, Annotation, Note, Sym, Suite, For}
use Rattle.starlark_spec.specs.Grammar.Nonterminal.{LeftAssociative, CommaList}
use Rattle.starlark_spec.specs.Grammar.Derivation.{for_loop, suite_simple, suite_block, suite_open, small_return, small_return_value, small_break}
use Rattle.starlark_spec.specs.Grammar.Derivation.{small_continue, small_pass, small_load, small_test, small_assign, list_plain, list_comma, note_test}
use Rattle.starlark_spec.specs.Grammar.Derivation.{sym_same, sym_other, sym_alone, vars_plain, vars_comma, for_clause, conversion_default, conversion_absent}
use Rattle.starlark_spec.specs.Grammar.Derivation.{conversion_name, comma_list_one, comma_list_more}
use Rattle.starlark_spec.specs.Trees.{conversion_of, derivation_span, assign_operator, tree}
use Rattle.starlark_spec.specs.Nodes.{CanBeExtendedBy, extended, KeptOpenBy, compared, not_after_variables, open_loop, is_open, is_open_node, IsClosedBy}
use Rattle.starlark_spec.specs.Nodes.{ends_with_comparison}
use Rattle.starlark_spec.specs.Rules.{Breaks, no_conversion, other_conversion, comma_after_variables, no_target_in_clause, comma_after_list, name_alone}
use Rattle.starlark_spec.specs.Rules.{no_types, no_type, no_assignment, no_target_in_loop, up_to}
use Rattle.starlark_lexer.specs.Kinds.{is, kind_of}
use Rattle.starlark_spec.specs.Machine.States.{Place, State, Rooted, top, conversion_root, vars_root, clause_root, list_root, sym_root, note_root, small_root}
use Rattle.starlark_spec.specs.Machine.States.{for_root}
use Rattle.starlark_spec.specs.Machine.States.State.{read, done}
use Rattle.starlark_spec.specs.Machine.Sight.{look}
use Rattle.starlark_spec.specs.Machine.Firsts.{starts_operand, starts_test}
use Rattle.starlark_spec.specs.Machine.BindingPower.{binding_power}
use Rattle.starlark_spec.specs.Machine.ReadParts.{seen_at}
use Rattle.starlark_spec.specs.Machine.Faults.{node_fault, conversion_fault, vars_fault, clause_fault, list_fault, sym_fault, note_fault, type_fault}
use Rattle.starlark_spec.specs.Machine.Faults.{small_fault, loop_fault, up_to_look, unless, fault_of}
use Rattle.starlark_spec.specs.Machine.Steps.{start, Config, config, Reaches}
use Rattle.starlark_lexer.proofs.KindTests.{is_true}
use Rattle.starlark_spec.proofs.KindTests.{first_identifier, first_plain, no_ending}
use Rattle.starlark_spec.proofs.Runs.{trans, same_end}
use Rattle.starlark_spec.proofs.Parts.{tokens_first}
use Rattle.starlark_spec.proofs.Complete.{Closes, closing, EndsConversion, EndsVars, EndsList, EndsSym, EndsSmall, first, complete}
use Rattle.starlark_spec.proofs.CompletedNodes.{SettledDone, list_goes}
use Rattle.starlark_spec.proofs.NodeOccurrences.{arrives, stands}
use Rattle.starlark_spec.proofs.Theorems.{end_there, obeyed}
use Rattle.starlark_spec.proofs.Blocks.{opened, obeys, follows, AtEnd, none_side_condition, none_after, none_inside, no_blocks, IsPlain}
use Rattle.std.specs.Bool.{⊤}
use Rattle.starlark_spec.proofs.Continuations.{Goes, Grown, going, begins_one, powers_as_one, grow, begins_operand, begins_test}
use Rattle.starlark_spec.specs.Grammar.ElementKind.{elements, variables}
use Rattle.starlark_spec.specs.Grammar.PrecedenceLevel.{or_precedence}
use Rattle.starlark_spec.specs.Machine.States.Place.{top}
use Rattle.starlark_spec.specs.Grammar.ElementOf.{of_elements, of_variables}

up_to_same : (z : Ending) (s : Span) (rest : List Lexeme) → up_to_look s (look z rest) ≡ up_to s rest
up_to_same at_end s [] = refl
up_to_same (fails f) s [] = refl
up_to_same out_of_memory s [] = refl
up_to_same z s (x ∷ rest) = rw (no_ending x.token) refl

true_or_false : (c : Bool) → ¬ (c ≡ true) → c ≡ false
true_or_false true h = absurd (h refl)
true_or_false false h = refl

some_is : {A : Type 0} {x z : A} → Some x ≡ Some z → x ≡ z
some_is e = cc

-- what closes a node is not out of memory
pub closing_has_memory : (z : Ending) (x : Node) (rest : List Lexeme) → IsClosedBy x rest z → (look z rest).no_memory ≡ false
closing_has_memory at_end x [] h = refl
closing_has_memory (fails f) x [] h = refl
closing_has_memory out_of_memory x [] h = absurd h
closing_has_memory z x (l ∷ rest) h = refl

-- a longer derivation without statements continues
longer_so : {n : Nonterminal} {d : Derivation n} {x : Lexeme} → IsPlain n → (longer : Derivation n) (more : List Lexeme)
    → yield_of longer [] ≡ yield_of d (x ∷ more) → CanBeExtendedBy (node d) x
longer_so h longer more e = extended longer more (sym e, none_side_condition (right_side longer) [] (no_blocks longer h 0))

-- ---- what is closed: the machine comes to its end

-- a test that fails at the ends of the tokens fails after a closed node, if it implies that the node continues
free : (z : Ending) (x : Node) (test : Kind → Bool) (rest : List Lexeme) → test kinds.End ≡ false → test kinds.Fault ≡ false → IsClosedBy x rest z
    → ((l : Lexeme) (more : List Lexeme) → rest ≡ l ∷ more → ¬ (test (kind_of l.token) ≡ true)) → test (look z rest).kind ≡ false
free at_end x test [] e f h g = e
free (fails y) x test [] e f h g = f
free out_of_memory x test [] e f h g = absurd h
free z x test (l ∷ rest) e f h g = true_or_false _ (g l rest refl)

-- by what closes it, and its first token
closes_it : (z : Ending) (x : Node) (rest : List Lexeme) → IsClosedBy x rest z → (l : Lexeme) (more : List Lexeme) → rest ≡ l ∷ more → (¬ CanBeExtendedBy x l)
    × (¬ KeptOpenBy x l)
closes_it z x [] h l more e = cc
closes_it z x (y ∷ rest) h l more e = let same : y ≡ l = cc in subst (λ k. (¬ CanBeExtendedBy x k) × (¬ KeptOpenBy x k)) same h

absent_free : (z : Ending) (s : Span) (rest : List Lexeme) → IsClosedBy (node (conversion_absent s)) rest z → is (look z rest).kind kinds.Identifier ≡ false
absent_free z s rest h = free z (node (conversion_absent s)) (λ k. is k kinds.Identifier) rest refl refl h
    (λ l more e i. (closes_it z (node (conversion_absent s)) rest h l more e).0 (longer l i))
  where
    longer : (l : Lexeme) → is (kind_of l.token) kinds.Identifier ≡ true → CanBeExtendedBy (node (conversion_absent s)) l
    longer l i = subst (λ y. CanBeExtendedBy (node (conversion_absent s)) y) (sym (first_identifier l (is_true _ _ i)))
        (longer_so tt (conversion_name s _ l.span) [] refl)

clause_free : (z : Ending) (f : Span) (d : Derivation LoopVars) (i : Span) (e : Derivation (LeftAssociative or_precedence)) (rest : List Lexeme)
    → IsClosedBy (node (for_clause f d i e)) rest z → nat_le 2 (binding_power (look z rest).kind) ≡ false
clause_free z f d i e rest h = free z (node (for_clause f d i e)) (λ k. nat_le 2 (binding_power k)) rest refl refl h
    (λ l more q b. longer l (closes_it z (node (for_clause f d i e)) rest h l more q) (leb-true _ _ b))
  where
    longer : (l : Lexeme) → (¬ CanBeExtendedBy (node (for_clause f d i e)) l) × (¬ KeptOpenBy (node (for_clause f d i e)) l)
        → 2 ≤ binding_power (kind_of l.token) → ⊥
    longer l c t =
        let g = grow e (going l.token l.span (omega (arith, t))) tt t (λ a b. c.1 (compared a (begins_one l.token b))) in
        c.0 (longer_so tt (for_clause f d i g.longer) g.more (ap (λ y. lexeme tokens.For f ∷ yield_of d (lexeme tokens.In i ∷ y)) g.spells))

vars_free : (z : Ending) (d : Derivation (CommaList variables)) (c : Span) (rest : List Lexeme) → IsClosedBy (node (vars_comma d c)) rest z
    → starts_operand (look z rest).kind ≡ false
vars_free z d c rest h = free z (node (vars_comma d c)) starts_operand rest refl refl h
    (λ l more q b. longer l (closes_it z (node (vars_comma d c)) rest h l more q) b)
  where
    longer : (l : Lexeme) → (¬ CanBeExtendedBy (node (vars_comma d c)) l) × (¬ KeptOpenBy (node (vars_comma d c)) l) → starts_operand (kind_of l.token) ≡ true
        → ⊥
    longer l k b =
        let g = begins_operand l.token l.span b in
        k.0 (longer_so tt (vars_plain (comma_list_more of_variables d c g.derivation)) g.more (ap (λ y. yield_of d (lexeme tokens.Comma c ∷ y)) g.spells))

list_comma_free : (z : Ending) (d : Derivation (CommaList elements)) (c : Span) (rest : List Lexeme) → IsClosedBy (node (list_comma d c)) rest z
    → starts_test (look z rest).kind ≡ false
list_comma_free z d c rest h = free z (node (list_comma d c)) starts_test rest refl refl h
    (λ l more q b. longer l (closes_it z (node (list_comma d c)) rest h l more q) b)
  where
    longer : (l : Lexeme) → (¬ CanBeExtendedBy (node (list_comma d c)) l) × (¬ KeptOpenBy (node (list_comma d c)) l) → starts_test (kind_of l.token) ≡ true → ⊥
    longer l k b =
        let g = begins_test l.token l.span b in
        k.0 (longer_so tt (list_plain (comma_list_more of_elements d c g.derivation)) g.more (ap (λ y. yield_of d (lexeme tokens.Comma c ∷ y)) g.spells))

sym_free : (z : Ending) (text : Text) (i : Span) (rest : List Lexeme) → IsClosedBy (node (sym_alone text i)) rest z → is (look z rest).kind kinds.Equal ≡ false
sym_free z text i rest h = free z (node (sym_alone text i)) (λ k. is k kinds.Equal) rest refl refl h
    (λ l more e b. (closes_it z (node (sym_alone text i)) rest h l more e).0 (longer l b))
  where
    longer : (l : Lexeme) → is (kind_of l.token) kinds.Equal ≡ true → CanBeExtendedBy (node (sym_alone text i)) l
    longer l b = subst (λ y. CanBeExtendedBy (node (sym_alone text i)) y) (sym (first_plain l kinds.Equal refl (is_true _ _ b)))
        (longer_so tt (sym_other text i l.span [] nowhere) (word_of (tokens.String []) ∷ []) refl)

note_free : (z : Ending) (d : Derivation Test) (rest : List Lexeme) → IsClosedBy (node (note_test d)) rest z → nat_le 1 (binding_power (look z rest).kind)
    ≡ false
note_free z d rest h = free z (node (note_test d)) (λ k. nat_le 1 (binding_power k)) rest refl refl h
    (λ l more q b. longer l (closes_it z (node (note_test d)) rest h l more q) (leb-true _ _ b))
  where
    longer : (l : Lexeme) → (¬ CanBeExtendedBy (node (note_test d)) l) × (¬ KeptOpenBy (node (note_test d)) l) → 1 ≤ binding_power (kind_of l.token) → ⊥
    longer l c t = let g = grow d (going l.token l.span t) tt t (λ a b. c.1 (compared a (begins_one l.token b))) in
        c.0 (longer_so tt (note_test g.longer) g.more g.spells)

-- a list of expressions grows by what continues its last one
grow_items : (d : Derivation (CommaList elements)) {t : ℕ} {x : Lexeme} → Goes t x → 1 ≤ t → (ends_with_comparison d ≡ true → t ≡ 4 → ⊥) → Grown d x
grow_items (comma_list_one of_elements d) g h c = let k = grow d g tt h c in record {
  longer = comma_list_one of_elements k.longer;
  more = k.more;
  spells = k.spells;
}
grow_items (comma_list_more of_elements d s e) g h c = let k = grow e g tt h c in record {
  longer = comma_list_more of_elements d s k.longer;
  more = k.more;
  spells = ap (λ y. yield_of d (lexeme tokens.Comma s ∷ y)) k.spells;
}

small_free : (z : Ending) (d : Derivation TestList) (n : Derivation Annotation) (o : AssignSign) (s : Span) (e : Derivation TestList) (rest : List Lexeme)
    → IsClosedBy (node (small_assign d n o s e)) rest z → list_goes e (look z rest).kind ≡ false
small_free z d n o s (list_comma e c) rest h = free z (node (small_assign d n o s (list_comma e c))) starts_test rest refl refl h
    (λ l more q b. longer l (closes_it z (node (small_assign d n o s (list_comma e c))) rest h l more q) b)
  where
    longer : (l : Lexeme) → (¬ CanBeExtendedBy (node (small_assign d n o s (list_comma e c))) l)
        × (¬ KeptOpenBy (node (small_assign d n o s (list_comma e c))) l) → starts_test (kind_of l.token) ≡ true → ⊥
    longer l k b =
        let g = begins_test l.token l.span b in
        k.0 (longer_so tt (small_assign d n o s (list_plain (comma_list_more of_elements e c g.derivation))) g.more
        (ap (λ y. yield_of d (yield_of n (lexeme (assign_token o) s ∷ yield_of e (lexeme tokens.Comma c ∷ y)))) g.spells))
small_free z d n o s (list_plain e) rest h = free z (node (small_assign d n o s (list_plain e))) (list_goes (list_plain e)) rest refl refl h
    (λ l more q b. longer l (closes_it z (node (small_assign d n o s (list_plain e))) rest h l more q) (nat_le 1 (binding_power (kind_of l.token))) refl b)
  where
    longer : (l : Lexeme) → (¬ CanBeExtendedBy (node (small_assign d n o s (list_plain e))) l) × (¬ KeptOpenBy (node (small_assign d n o s (list_plain e))) l)
        → (c : Bool) → nat_le 1 (binding_power (kind_of l.token)) ≡ c → (if c then true else is (kind_of l.token) kinds.Comma) ≡ true → ⊥
    longer l k true t b =
        let u = leb-true 1 (binding_power (kind_of l.token)) t in
        let g = grow_items e (going l.token l.span u) u (λ a b. k.1 (compared a (begins_one l.token b))) in
        k.0 (longer_so tt (small_assign d n o s (list_plain g.longer)) g.more (ap (λ y. yield_of d (yield_of n (lexeme (assign_token o) s ∷ y))) g.spells))
    longer l k false t b =
        k.0 (subst (λ y. CanBeExtendedBy (node (small_assign d n o s (list_plain e))) y) (sym (first_plain l kinds.Comma refl (is_true _ _ b)))
        (longer_so tt (small_assign d n o s (list_comma e l.span)) [] refl))

vars_not_free : (z : Ending) (d : Derivation (CommaList variables)) (c : Span) (rest : List Lexeme) → IsClosedBy (node (vars_comma d c)) rest z
    → is (look z rest).kind kinds.Not ≡ false
vars_not_free z d c rest h = free z (node (vars_comma d c)) (λ k. is k kinds.Not) rest refl refl h
    (λ l more q b. (closes_it z (node (vars_comma d c)) rest h l more q).1
    (not_after_variables (ap (λ (y : Lexeme). y.token) (first_plain l kinds.Not refl (is_true _ _ b)))))

-- what does not continue a list may follow it
at_most : (t : ℕ) → t < 2 → t ≤ 1
at_most t h = omega (arith, h)

at_most_none : (t : ℕ) → t < 1 → t ≤ 0
at_most_none t h = omega (arith, h)

list_over : (d : Derivation TestList) (k : Kind) → list_goes d k ≡ false → EndsList d k
list_over (list_comma d c) k h = h
list_over (list_plain d) k h = both (nat_le 1 (binding_power k)) refl h
  where
    both : (c : Bool) → nat_le 1 (binding_power k) ≡ c → (if c then true else is k kinds.Comma) ≡ false → (binding_power k ≤ 0) × (is k kinds.Comma ≡ false)
    both true t h = cc
    both false t h = (at_most_none _ (leb-false _ _ t), h)

read_as : (y : DialectTypes) (e : Expression no_payload) (f : Fault) → ¬ (y ≡ Disable) → reading e ≡ Err f → type_fault y e ≡ Some f
read_as Disable e f on h = absurd (on refl)
read_as ParseOnly e f on h = ap fault_of h
read_as Enable e f on h = ap fault_of h

-- an expression has tokens, and so has an assignment
test_tokens : (d : Derivation Test) → 1 ≤ length (yield_of d [])
test_tokens d = some_tokens (yield_of d []) (first at_end d [])
  where
    some_tokens : (ts : List Lexeme) → starts_test (look at_end ts).kind ≡ true → 1 ≤ length ts
    some_tokens [] h = cc
    some_tokens (t ∷ ts) h = omega arith

one_inside : (ts : List Lexeme) (n : ℕ) → length ts ≡ n → 1 ≤ n → 1 ≤ length ts
one_inside ts n e h = omega (arith, e, h)

assign_tokens : (d : Derivation TestList) (n : Derivation Annotation) (o : AssignSign) (s : Span) (e : Derivation TestList)
    → 1 ≤ length (yield_of d (yield_of n (lexeme (assign_token o) s ∷ yield_of e [])))
assign_tokens d n o s e = some_tokens (yield_of d q) (first at_end d q)
  where
    q : List Lexeme
    q = yield_of n (lexeme (assign_token o) s ∷ yield_of e [])

    some_tokens : (ts : List Lexeme) → starts_test (look at_end ts).kind ≡ true → 1 ≤ length ts
    some_tokens [] h = cc
    some_tokens (t ∷ ts) h = omega arith

-- a loop may come before what closes it
loop_closes : (z : Ending) (f : Span) (d : Derivation LoopVars) (i : Span) (e : Derivation Test) (c : Span) (s : Derivation Suite) (rest : List Lexeme)
    → IsClosedBy (node (for_loop f d i e c s)) rest z → obeys AtEnd (right_side s) [] ⊤ → Closes s z rest
loop_closes z f d i e c (suite_simple s) rest h q = tt
loop_closes z f d i e c (suite_block n ns j b dedent) rest h q =
    stands z b (lexeme tokens.Dedent dedent ∷ rest) (none_inside (right_side b) (lexeme tokens.Dedent dedent) [] ⊤ (follows AtEnd (right_side ns) _ _ q))
    (refl, refl)
loop_closes at_end f d i e c (suite_open n ns j b) [] h q = (closing at_end AtEnd end_there b [] _ (follows AtEnd (right_side ns) _ _ q) (refl, refl), refl)
loop_closes (fails g) f d i e c (suite_open n ns j b) [] h q = not_false h
loop_closes out_of_memory f d i e c (suite_open n ns j b) [] h q = absurd h
loop_closes z f d i e c (suite_open n ns j b) (x ∷ rest) h q = absurd (h.1 (open_loop refl))

-- The end of a node that breaks a rule: the machine reaches it from wherever the node occurs, and finds the rule broken.
pub record Wrong (y : DialectTypes) {n : Nonterminal} (d : Derivation n) (rest : List Lexeme) (z : Ending) (f : Fault) : Type 0 where
  pub own : RightSide
  pub is_marked : right_side d ≡ marked (node d) own
  pub has_tokens : 1 ≤ length (side_yield own [])
  pub fault_is : node_fault y n d (look z rest) ≡ Some f
  pub comes : (p : Place Module n) → opened (seen_at p) 0 ≡ 0 → Reaches z (config start (side_yield (seen_at p) (yield_of d rest))) (config (done d p) rest)

one_more : (a : RightSide) (x : Lexeme) → 1 ≤ length (side_yield a (x ∷ []))
one_more a x = omega (arith, ap length (tokens_first a (x ∷ [])), length-append (side_yield a []) (x ∷ []))

pub wrong : {y : DialectTypes} {n : Nonterminal} (d : Derivation n) {rest : List Lexeme} (z : Ending) {f : Fault} → Breaks y (node d) rest f
    → IsClosedBy (node d) rest z → obeys AtEnd (right_side d) [] ⊤ → Wrong y d rest z f
wrong d z (no_conversion s rest) h q =
    let free = absent_free z s rest h in record {
      own = _;
      is_marked = refl;
      has_tokens = omega arith;
      fault_is = ap (λ x. Some (grammar_fault FStringConversion x)) (up_to_same z s rest);
      comes = λ p v. trans (arrives z p _ refl v) (complete z (conversion_absent s) p rest free);
    }
wrong d z (other_conversion s name i rest none) h q = record {
  own = _;
  is_marked = refl;
  has_tokens = omega arith;
  fault_is = rw none refl;
  comes = λ p v. trans (arrives z p _ refl v) (complete z (conversion_name s name i) p rest tt);
}
wrong x z (comma_after_variables d c rest) h q =
    let a = vars_free z d c rest h in
    let b = vars_not_free z d c rest h in record {
      own = _;
      is_marked = refl;
      has_tokens = one_more (right_side d) _;
      fault_is = refl;
      comes = λ p v. trans (arrives z p _ (first z (vars_comma d c) rest) v) (complete z (vars_comma d c) p rest (a, b));
    }
wrong x z (no_target_in_clause f d i e rest fault none) h q =
    let a = clause_free z f d i e rest h in record {
      own = _;
      is_marked = refl;
      has_tokens = omega arith;
      fault_is = rw none refl;
      comes = λ p v. trans (arrives z p _ refl v) (complete z (for_clause f d i e) p rest (at_most _ (leb-false _ _ a)));
    }
wrong x z (comma_after_list d c rest) h q =
    let a = list_comma_free z d c rest h in record {
      own = _;
      is_marked = refl;
      has_tokens = one_more (right_side d) _;
      fault_is = refl;
      comes = λ p v. trans (arrives z p _ (first z (list_comma d c) rest) v) (complete z (list_comma d c) p rest a);
    }
wrong x z (name_alone text i rest) h q =
    let a = sym_free z text i rest h in record {
      own = _;
      is_marked = refl;
      has_tokens = omega arith;
      fault_is = refl;
      comes = λ p v. trans (arrives z p _ refl v) (complete z (sym_alone text i) p rest a);
    }
wrong x z (no_types d rest off) h q =
    let a = note_free z d rest h in record {
      own = _;
      is_marked = refl;
      has_tokens = test_tokens d;
      fault_is = rw off refl;
      comes = λ p v. trans (arrives z p _ (first z d rest) v) (complete z (note_test d) p rest (at_most_none _ (leb-false _ _ a)));
    }
wrong {y = y} x z (no_type d rest f on none) h q =
    let a = note_free z d rest h in record {
      own = _;
      is_marked = refl;
      has_tokens = test_tokens d;
      fault_is = read_as y (tree d) f on none;
      comes = λ p v. trans (arrives z p _ (first z d rest) v) (complete z (note_test d) p rest (at_most_none _ (leb-false _ _ a)));
    }
wrong x z (no_assignment d n o s e rest f none) h q =
    let a = small_free z d n o s e rest h in record {
      own = _;
      is_marked = refl;
      has_tokens = assign_tokens d n o s e;
      fault_is = rw none refl;
      comes = λ p v. trans (arrives z p _ (first z (small_assign d n o s e) rest) v) (complete z (small_assign d n o s e) p rest (list_over e _ a));
    }
wrong x z (no_target_in_loop f d i e c s rest fault none) h q =
    let a : obeys AtEnd (right_side s) [] ⊤ = follows AtEnd (right_side e) _ _ (follows AtEnd (right_side d) _ _ q) in record {
      own = _;
      is_marked = refl;
      has_tokens = omega arith;
      fault_is = rw none refl;
      comes = λ p v. trans (arrives z p _ refl v) (complete z (for_loop f d i e c s) p rest (loop_closes z f d i e c s rest h a));
    }

-- ---- if the machine reaches the end, the node is closed

same_rest : {b : Nonterminal} {s t : State b} {x y : List Lexeme} → config s x ≡ config t y → x ≡ y
same_rest e = ap (λ (c : Config _). c.rest) e

-- A node is not continued by a token that may follow it, if the machine reads each such derivation as a root before what may follow it.
no_longer : {n : Nonterminal} (u : Rooted n) (Fits : Derivation n → Kind → Type 0)
    → ((d : Derivation n) (r : List Lexeme) → Fits d (look at_end r).kind → Reaches at_end (config (read n (top u)) (yield_of d r)) (config (done d (top u)) r))
    → ((d : Derivation n) → Fits d kinds.End) → (d : Derivation n) (x : Lexeme) → Fits d (kind_of x.token) → ¬ CanBeExtendedBy (node d) x
no_longer u Fits run whole d x h (extended longer more e) =
    let p : Reaches at_end (config (read _ (top u)) (yield_of longer [])) (config (done longer (top u)) []) = run longer [] (whole longer) in
    let q : Reaches at_end (config (read _ (top u)) (yield_of longer [])) (config (done d (top u)) (x ∷ more)) = rw (sym e.0) (run d (x ∷ more) h) in
    let same : [] ≡ x ∷ more = same_rest (same_end p q refl refl) in
    cc

conversion_whole : (d : Derivation Conversion) → EndsConversion d kinds.End
conversion_whole conversion_default = refl
conversion_whole (conversion_absent s) = refl
conversion_whole (conversion_name s t i) = tt

vars_whole : (d : Derivation LoopVars) → EndsVars d kinds.End
vars_whole (vars_plain d) = (lit≤ tt, refl)
vars_whole (vars_comma d c) = (refl, refl)

conversion_goes : (d : Derivation Conversion) (x : Lexeme) → EndsConversion d (kind_of x.token) → ¬ CanBeExtendedBy (node d) x
conversion_goes d x h = no_longer conversion_root EndsConversion (λ e r k. complete at_end e (top conversion_root) r k) conversion_whole d x h

vars_goes : (d : Derivation LoopVars) (x : Lexeme) → EndsVars d (kind_of x.token) → ¬ CanBeExtendedBy (node d) x
vars_goes d x h = no_longer vars_root EndsVars (λ e r k. complete at_end e (top vars_root) r k) vars_whole d x h

clause_goes : (d : Derivation ForClause) (x : Lexeme) → binding_power (kind_of x.token) ≤ 1 → ¬ CanBeExtendedBy (node d) x
clause_goes d x h = no_longer clause_root (λ e k. binding_power k ≤ 1) (λ e r k. complete at_end e (top clause_root) r k) (λ e. lit≤ tt) d x h

list_whole : (d : Derivation TestList) → EndsList d kinds.End
list_whole (list_plain d) = (lit≤ tt, refl)
list_whole (list_comma d c) = refl

sym_whole : (d : Derivation Sym) → EndsSym d kinds.End
sym_whole (sym_same text s) = tt
sym_whole (sym_other text i e their s) = tt
sym_whole (sym_alone text i) = refl

small_whole : (d : Derivation Small) → EndsSmall d kinds.End
small_whole (small_return r) = refl
small_whole (small_return_value r d) = list_whole d
small_whole (small_break s) = tt
small_whole (small_continue s) = tt
small_whole (small_pass s) = tt
small_whole (small_load l o text i d c) = tt
small_whole (small_test d) = (lit≤ tt, refl, refl, refl)
small_whole (small_assign d n o s e) = list_whole e

list_ends : (d : Derivation TestList) (x : Lexeme) → EndsList d (kind_of x.token) → ¬ CanBeExtendedBy (node d) x
list_ends d x h = no_longer list_root EndsList (λ e r k. complete at_end e (top list_root) r k) list_whole d x h

sym_ends : (d : Derivation Sym) (x : Lexeme) → EndsSym d (kind_of x.token) → ¬ CanBeExtendedBy (node d) x
sym_ends d x h = no_longer sym_root EndsSym (λ e r k. complete at_end e (top sym_root) r k) sym_whole d x h

note_ends : (d : Derivation Note) (x : Lexeme) → binding_power (kind_of x.token) ≤ 0 → ¬ CanBeExtendedBy (node d) x
note_ends d x h = no_longer note_root (λ e k. binding_power k ≤ 0) (λ e r k. complete at_end e (top note_root) r k) (λ e. lit≤ tt) d x h

small_ends : (d : Derivation Small) (x : Lexeme) → EndsSmall d (kind_of x.token) → ¬ CanBeExtendedBy (node d) x
small_ends d x h = no_longer small_root EndsSmall (λ e r k. complete at_end e (top small_root) r k) small_whole d x h

list_comma_kept_open : (d : Derivation (CommaList elements)) (c : Span) (x : Lexeme) → ¬ KeptOpenBy (node (list_comma d c)) x
list_comma_kept_open d c x (compared a b) = not_true a
list_comma_kept_open d c x (open_loop a) = not_true a

sym_kept_open : (text : Text) (i : Span) (x : Lexeme) → ¬ KeptOpenBy (node (sym_alone text i)) x
sym_kept_open text i x (compared a b) = not_true a
sym_kept_open text i x (open_loop a) = not_true a

note_kept_open : (d : Derivation Note) (x : Lexeme) → binding_power (kind_of x.token) ≤ 0 → ¬ KeptOpenBy (node d) x
note_kept_open d x h (compared a b) = omega (arith, h, powers_as_one x.token b)
note_kept_open (note_test d) x h (open_loop a) = not_true a

small_kept_open : (d : Derivation TestList) (n : Derivation Annotation) (o : AssignSign) (s : Span) (e : Derivation TestList) (x : Lexeme)
    → EndsList e (kind_of x.token) → ¬ KeptOpenBy (node (small_assign d n o s e)) x
small_kept_open d n o s (list_plain e) x h (compared a b) = omega (arith, h.0, powers_as_one x.token b)
small_kept_open d n o s (list_comma e c) x h (compared a b) = not_true a
small_kept_open d n o s e x h (open_loop a) = not_true a

-- a loop that is closed by its own tokens is not continued
loop_goes : (d : Derivation For) (x : Lexeme) → opened (right_side d) 0 ≡ 0 → ¬ CanBeExtendedBy (node d) x
loop_goes d x h (extended longer more e) =
    let p : Reaches at_end (config (read For (top for_root)) (yield_of longer [])) (config (done longer (top for_root)) []) =
    complete at_end longer (top for_root) [] (closing at_end AtEnd end_there longer [] ⊤ (obeyed (right_side longer) e.1) tt) in
    let q : Reaches at_end (config (read For (top for_root)) (yield_of longer [])) (config (done d (top for_root)) (x ∷ more)) =
    rw (sym e.0) (complete at_end d (top for_root) (x ∷ more) (stands at_end d (x ∷ more) h tt)) in
    let same : [] ≡ x ∷ more = same_rest (same_end p q refl refl) in
    cc

no_open : (d : Derivation For) → opened (right_side d) 0 ≡ 0 → is_open d ≡ false
no_open (for_loop f d i e c (suite_simple s)) h = refl
no_open (for_loop f d i e c (suite_block n ns j b dedent)) h = refl
no_open (for_loop f d i e c (suite_open n ns j b)) h =
    absurd (one_zero 1 (lit≤ tt) (none_after (right_side b) 1 (none_after (right_side ns) _ (none_after (right_side e) _ (none_after (right_side d) _ h)))))
  where
    one_zero : (n : ℕ) → 1 ≤ n → n ≡ 0 → ⊥
    one_zero n h e = omega (arith, h, e)

loop_kept_open : (d : Derivation For) (x : Lexeme) → opened (right_side d) 0 ≡ 0 → ¬ KeptOpenBy (node d) x
loop_kept_open (for_loop f d i e c s) x h (compared a b) = not_true a
loop_kept_open d x h (open_loop a) = not_true (sym (no_open d h) ∙ a)

conversion_kept_open : (d : Derivation Conversion) (x : Lexeme) → ¬ KeptOpenBy (node d) x
conversion_kept_open conversion_default x (compared a b) = cc
conversion_kept_open (conversion_absent s) x (compared a b) = cc
conversion_kept_open (conversion_name s t i) x (compared a b) = cc
conversion_kept_open conversion_default x (open_loop a) = cc
conversion_kept_open (conversion_absent s) x (open_loop a) = cc
conversion_kept_open (conversion_name s t i) x (open_loop a) = cc

clause_kept_open : (d : Derivation ForClause) (x : Lexeme) → binding_power (kind_of x.token) ≤ 1 → ¬ KeptOpenBy (node d) x
clause_kept_open d x h (compared a b) = omega (arith, h, powers_as_one x.token b)
clause_kept_open (for_clause f d i e) x h (open_loop a) = not_true a

no_not : (t : Terminal) → is (kind_of t) kinds.Not ≡ false → t ≡ tokens.Not → ⊥
no_not t h e = let k : true ≡ false = sym (ap (λ y. is (kind_of y) kinds.Not) e) ∙ h in cc

vars_kept_open : (d : Derivation (CommaList variables)) (c : Span) (x : Lexeme) → is (kind_of x.token) kinds.Not ≡ false
    → ¬ KeptOpenBy (node (vars_comma d c)) x
vars_kept_open d c x h (compared a b) = not_true a
vars_kept_open d c x h (not_after_variables e) = no_not x.token h e
vars_kept_open d c x h (open_loop a) = not_true a

-- closed by the end, by an error, or by a token that does not continue the node
closed_by : (z : Ending) (x : Node) (rest : List Lexeme) → (look z rest).no_memory ≡ false → is_open_node x ≡ false
    → ((l : Lexeme) (more : List Lexeme) → rest ≡ l ∷ more → (¬ CanBeExtendedBy x l) × (¬ KeptOpenBy x l)) → IsClosedBy x rest z
closed_by at_end x [] w o f = tt
closed_by (fails y) x [] w o f = o
closed_by out_of_memory x [] w o f = cc
closed_by z x (l ∷ rest) w o f = f l rest refl

-- a node at whose end a rule is broken
pub record Blamed (y : DialectTypes) {n : Nonterminal} (d : Derivation n) (rest : List Lexeme) (z : Ending) (f : Fault) : Type 0 where
  pub own : RightSide
  pub is_marked : right_side d ≡ marked (node d) own
  pub closed : IsClosedBy (node d) rest z
  pub breaks : Breaks y (node d) rest f

module _ (y : DialectTypes) (z : Ending) (rest : List Lexeme) (f : Fault) (w : (look z rest).no_memory ≡ false) where
  seen_kind : (P : Kind → Type 0) → P (look z rest).kind → (l : Lexeme) (more : List Lexeme) → rest ≡ l ∷ more → P (kind_of l.token)
  seen_kind P h l more e = subst (λ r. P (look z r).kind) e h

  name_blamed : (s i : Span) (name : Text) (c : Option FStringConv) → conversion_of name ≡ c
      → unless c (grammar_fault FStringConversion (from_to s.begin i.end)) ≡ Some f → Blamed y (conversion_name s name i) rest z f
  name_blamed s i name (Some c) a h = not_some h
  name_blamed s i name None a h =
      let same : grammar_fault FStringConversion (from_to s.begin i.end) ≡ f = cc in record {
        own = _;
        is_marked = refl;
        closed = closed_by z (node (conversion_name s name i)) rest w refl (λ l more e. (
          conversion_goes (conversion_name s name i) l tt,
          conversion_kept_open (conversion_name s name i) l,
        ));
        breaks = subst (λ x. Breaks y (node (conversion_name s name i)) rest x) same (other_conversion s name i rest a);
      }

  conversion_blamed : (d : Derivation Conversion) → SettledDone Conversion d (look z rest).kind → conversion_fault d (look z rest) ≡ Some f
      → Blamed y d rest z f
  conversion_blamed conversion_default g h = not_some h
  conversion_blamed (conversion_absent s) g h =
      let same : grammar_fault FStringConversion (up_to_look s (look z rest)) ≡ f = cc in record {
        own = _;
        is_marked = refl;
        closed = closed_by z (node (conversion_absent s)) rest w refl
            (λ l more e. (
              conversion_goes (conversion_absent s) l (seen_kind (λ k. is k kinds.Identifier ≡ false) g l more e),
              conversion_kept_open (conversion_absent s) l,
            ));
        breaks = subst (λ x. Breaks y (node (conversion_absent s)) rest x) (ap (λ x. grammar_fault FStringConversion x) (sym (up_to_same z s rest)) ∙ same)
            (no_conversion s rest);
      }
  conversion_blamed (conversion_name s name i) g h = name_blamed s i name (conversion_of name) refl h

  vars_blamed : (d : Derivation LoopVars) → SettledDone LoopVars d (look z rest).kind → vars_fault d ≡ Some f → Blamed y d rest z f
  vars_blamed (vars_plain d) g h = not_some h
  vars_blamed (vars_comma d c) g h =
      let same : grammar_fault UnparenthesizedTupleTrailingComma (derivation_span (vars_comma d c)) ≡ f = cc in record {
        own = _;
        is_marked = refl;
        closed = closed_by z (node (vars_comma d c)) rest w refl
            (λ l more e. (
              vars_goes (vars_comma d c) l (
                seen_kind (λ k. starts_operand k ≡ false) g.0 l more e,
                seen_kind (λ k. is k kinds.Not ≡ false) g.1 l more e,
              ),
              vars_kept_open d c l (seen_kind (λ k. is k kinds.Not ≡ false) g.1 l more e),
            ));
        breaks = subst (λ x. Breaks y (node (vars_comma d c)) rest x) same (comma_after_variables d c rest);
      }

  clause_of_blamed : (v : Span) (d : Derivation LoopVars) (i : Span) (e : Derivation (LeftAssociative or_precedence)) → binding_power (look z rest).kind ≤ 1
      → (o : Result (Target no_payload) Fault) → target (tree d) ≡ o → fault_of o ≡ Some f → Blamed y (for_clause v d i e) rest z f
  clause_of_blamed v d i e g (Ok x) b h = not_some h
  clause_of_blamed v d i e g (Err o) b h =
      let same : o ≡ f = cc in record {
        own = _;
        is_marked = refl;
        closed = closed_by z (node (for_clause v d i e)) rest w refl
            (λ l more q. (
              clause_goes (for_clause v d i e) l (seen_kind (λ k. binding_power k ≤ 1) g l more q),
              clause_kept_open (for_clause v d i e) l (seen_kind (λ k. binding_power k ≤ 1) g l more q),
            ));
        breaks = subst (λ x. Breaks y (node (for_clause v d i e)) rest x) same (no_target_in_clause v d i e rest o b);
      }

  clause_blamed : (d : Derivation ForClause) → SettledDone ForClause d (look z rest).kind → clause_fault d ≡ Some f → Blamed y d rest z f
  clause_blamed (for_clause v d i e) g h = clause_of_blamed v d i e g (target (tree d)) refl h

  list_blamed : (d : Derivation TestList) → SettledDone TestList d (look z rest).kind → list_fault d ≡ Some f → Blamed y d rest z f
  list_blamed (list_plain d) g h = not_some h
  list_blamed (list_comma d c) g h =
      let same : grammar_fault UnparenthesizedTupleTrailingComma (derivation_span (list_comma d c)) ≡ f = cc in record {
        own = _;
        is_marked = refl;
        closed = closed_by z (node (list_comma d c)) rest w refl
            (λ l more e. (list_ends (list_comma d c) l (seen_kind (λ k. starts_test k ≡ false) g l more e), list_comma_kept_open d c l));
        breaks = subst (λ x. Breaks y (node (list_comma d c)) rest x) same (comma_after_list d c rest);
      }

  sym_blamed : (d : Derivation Sym) → SettledDone Sym d (look z rest).kind → sym_fault d ≡ Some f → Blamed y d rest z f
  sym_blamed (sym_same text s) g h = not_some h
  sym_blamed (sym_other text i e their s) g h = not_some h
  sym_blamed (sym_alone text i) g h =
      let same : grammar_fault LoadNameWithoutEqual i ≡ f = cc in record {
        own = _;
        is_marked = refl;
        closed = closed_by z (node (sym_alone text i)) rest w refl
            (λ l more e. (sym_ends (sym_alone text i) l (seen_kind (λ k. is k kinds.Equal ≡ false) g l more e), sym_kept_open text i l));
        breaks = subst (λ x. Breaks y (node (sym_alone text i)) rest x) same (name_alone text i rest);
      }

  type_broken : (t : DialectTypes) (d : Derivation Test) (o : Result (Reading no_payload) Fault) → reading (tree d) ≡ o → type_fault t (tree d) ≡ Some f
      → Breaks t (node (note_test d)) rest f
  type_broken Disable d o a h = let same : rule_fault Types (expression_span (tree d)) ≡ f = cc in
      subst (λ x. Breaks Disable (node (note_test d)) rest x) same (no_types d rest refl)
  type_broken ParseOnly d (Ok r) a h = not_some (sym (ap fault_of a) ∙ h)
  type_broken ParseOnly d (Err g) a h = no_type d rest f (λ e. cc) (a ∙ ap Err (some_is (sym (ap fault_of a) ∙ h)))
  type_broken Enable d (Ok r) a h = not_some (sym (ap fault_of a) ∙ h)
  type_broken Enable d (Err g) a h = no_type d rest f (λ e. cc) (a ∙ ap Err (some_is (sym (ap fault_of a) ∙ h)))

  note_blamed : (d : Derivation Note) → SettledDone Note d (look z rest).kind → note_fault y d ≡ Some f → Blamed y d rest z f
  note_blamed (note_test d) g h = record {
    own = _;
    is_marked = refl;
    closed = closed_by z (node (note_test d)) rest w refl (λ l more e. (
      note_ends (note_test d) l (seen_kind (λ k. binding_power k ≤ 0) g l more e),
      note_kept_open (note_test d) l (seen_kind (λ k. binding_power k ≤ 0) g l more e),
    ));
    breaks = type_broken y d (reading (tree d)) refl h;
  }

  assign_blamed : (d : Derivation TestList) (n : Derivation Annotation) (o : AssignSign) (s : Span) (e : Derivation TestList) → list_goes e (look z rest).kind
      ≡ false → (q : Result (Target no_payload) Fault)
      → assigned_target (tree d) (tree n) (assign_operator o) ≡ q → fault_of q ≡ Some f → Blamed y (small_assign d n o s e) rest z f
  assign_blamed d n o s e g (Ok x) b h = not_some h
  assign_blamed d n o s e g (Err u) b h =
      let same : u ≡ f = cc in record {
        own = _;
        is_marked = refl;
        closed = closed_by z (node (small_assign d n o s e)) rest w refl
            (λ l more q. (
              small_ends (small_assign d n o s e) l (list_over e _ (seen_kind (λ k. list_goes e k ≡ false) g l more q)),
              small_kept_open d n o s e l (list_over e _ (seen_kind (λ k. list_goes e k ≡ false) g l more q)),
            ));
        breaks = subst (λ x. Breaks y (node (small_assign d n o s e)) rest x) same (no_assignment d n o s e rest u b);
      }

  small_blamed : (d : Derivation Small) → SettledDone Small d (look z rest).kind → small_fault d ≡ Some f → Blamed y d rest z f
  small_blamed (small_assign d n o s e) g h = assign_blamed d n o s e g (assigned_target (tree d) (tree n) (assign_operator o)) refl h
  small_blamed d g h = not_some h

  loop_of_blamed : (v : Span) (d : Derivation LoopVars) (i : Span) (e : Derivation Test) (c : Span) (s : Derivation Suite)
      (q : Result (Target no_payload) Fault) → target (tree d) ≡ q → fault_of q ≡ Some f
      → IsClosedBy (node (for_loop v d i e c s)) rest z → Blamed y (for_loop v d i e c s) rest z f
  loop_of_blamed v d i e c s (Ok x) a h k = not_some h
  loop_of_blamed v d i e c s (Err g) a h k =
      let same : g ≡ f = cc in record {
        own = _;
        is_marked = refl;
        closed = k;
        breaks = subst (λ x. Breaks y (node (for_loop v d i e c s)) rest x) same (no_target_in_loop v d i e c s rest g a);
      }

  loop_blamed : (d : Derivation For) → loop_fault d ≡ Some f → IsClosedBy (node d) rest z → Blamed y d rest z f
  loop_blamed (for_loop v d i e c s) h k = loop_of_blamed v d i e c s (target (tree d)) refl h k

  -- a loop without open blocks is closed by what follows it, and any loop by the end
  loop_closed : (d : Derivation For) → (opened (right_side d) 0 ≡ 0) ⊎ ((rest ≡ []) × (z ≡ at_end)) → IsClosedBy (node d) rest z
  loop_closed d (inl o) = closed_by z (node d) rest w (no_open d o) (λ l more e. (loop_goes d l o, loop_kept_open d l o))
  loop_closed d (inr e) = subst (λ r. IsClosedBy (node d) r z) (sym e.0) (subst (λ x. IsClosedBy (node d) [] x) (sym e.1) tt)

  pub blamed : {n : Nonterminal} (d : Derivation n) → (opened (right_side d) 0 ≡ 0) ⊎ ((rest ≡ []) × (z ≡ at_end)) → SettledDone n d (look z rest).kind
      → node_fault y n d (look z rest) ≡ Some f → Blamed y d rest z f
  blamed {n = Conversion} d o g h = conversion_blamed d g h
  blamed {n = LoopVars} d o g h = vars_blamed d g h
  blamed {n = ForClause} d o g h = clause_blamed d g h
  blamed {n = TestList} d o g h = list_blamed d g h
  blamed {n = Sym} d o g h = sym_blamed d g h
  blamed {n = Note} d o g h = note_blamed d g h
  blamed {n = Small} d o g h = small_blamed d g h
  blamed {n = For} d o g h = loop_blamed d h (loop_closed d o)
  blamed d o g h = not_some h
