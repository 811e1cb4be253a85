-- Operators between operands, in the form in which the code's answers cite them.
use Rattle.std.proofs.Common.{◌≡◌, ℕ, ◌<◌, ◌≤◌, Bool, true, false, not, ◌&&◌, if◌then◌else◌, List, [], ◌∷◌, ◌++◌, map, Option, Some, None, Result, Ok, Err}
use Rattle.std.proofs.Common.{refl, sym, ◌∙◌, ap, subst, arith, ◌⊎◌, inl, inr}
use Rattle.std.specs.List.{All}
use Rattle.std.specs.Result.{IsErrAnd}
use Rattle.std.proofs.lemmas.List.{map-append, append-nil, append_assoc}
use Rattle.std.proofs.lemmas.List.Elements.{All-nil, All-push, All-weaker}
use Rattle.starlark_lexer.specs.Tokens.{Span, Lexeme, lexeme}
use Rattle.starlark_lexer.specs.Tokens as tokens
use Rattle.starlark_lexer.specs.Lexer.{CodeLexeme}
use Rattle.starlark_tree.specs.declared.ast.operator.BinOp.{BinOp}
use Rattle.starlark_tree.specs.declared.ast.operator.BinOp.TheVariants as operators
use Rattle.starlark_parse_held.specs.Held.{expression_of}
use Rattle.starlark_parse_build.specs.Operations.{Level, Stack, level_of, takes_not, is_vacant, is_comparison, disjunctions, bit_ors, waits, waits_at}
use Rattle.starlark_parse_build.specs.Operations.{nothing_waits, Before, After}
use Rattle.starlark_parse_build.specs.Operations.Level.{or_level, and_level, comparison_level, bit_or_level, bit_xor_level, bit_and_level, shift_level}
use Rattle.starlark_parse_build.specs.Operations.Level.{add_level, multiply_level}
use Rattle.starlark_tree.specs.Ast.{Expression, no_payload}
use Rattle.starlark_parse_held.specs.declared.expression.HeldExpr.{HeldExpr}
use Rattle.starlark_lexer.specs.declared.kind.Kind.{Kind}
use Rattle.starlark_lexer.specs.declared.kind.Kind.TheVariants as kinds
use Rattle.starlark_spec.specs.declared.refusal.Refusal.{Refusal}
use Rattle.starlark_spec.specs.Items.{at_end, fails, out_of_memory}
use Rattle.starlark_spec.specs.Answers.{Answer}
use Rattle.starlark_spec.specs.Answers.Answer.{memory}
use Rattle.starlark_spec.specs.Refusals.{refused}
use Rattle.starlark_spec.specs.Grammar.{Nonterminal, right_side}
use Rattle.starlark_spec.specs.Grammar.OperandOf.{of_or, of_and}
use Rattle.starlark_spec.specs.Grammar.PrecedenceLevel.{or_precedence, bit_or_precedence}
use Rattle.starlark_spec.specs.Grammar.Nonterminal.{Module, Not, Unary, LeftAssociative}
use Rattle.starlark_spec.specs.Grammar.Derivation.{module_none}
use Rattle.starlark_spec.specs.Grammar.ElementOf.{of_elements}
use Rattle.starlark_spec.specs.Trees.{end_of_last}
use Rattle.starlark_lexer.specs.Kinds.{is}
use Rattle.starlark_spec.specs.Machine.States.{Place, Place.not_not_at, module_root}
use Rattle.starlark_spec.specs.Machine.States.State.{read, done, in_due}
use Rattle.starlark_spec.specs.Machine.Faults.{ruled}
use Rattle.starlark_spec.specs.Machine.Faults.Ruled.{Moves}
use Rattle.starlark_spec.specs.Machine.Sight.{Sight, token, ending, look_at}
use Rattle.starlark_spec.specs.Machine.Moves.{Fail}
use Rattle.starlark_parse_cursor.specs.Reading.{At, Advances, IsToken, begin_at, stop_at}
use Rattle.starlark_parse.specs.Expr.Operators.{binary_operator, tight_operator}
use Rattle.starlark_parse_cursor.specs.Contract.{Comes, Goes, Goes.stays, Goes.takes, FailsFrom, FailsFrom.sticks, Found, FailsFrom.no_memory}
use Rattle.starlark_parse.specs.Expr.Expressions.{IsOr, IsBitOr}
use Rattle.starlark_parse.specs.Expr.Operators.{IsUnary}
use Rattle.starlark_parse.specs.Expr.Operating.{TakesNots, TakesNots.none_may_come, TakesNots.taken, TakesOperator, TakesOperator.one_token}
use Rattle.starlark_parse.specs.Expr.Operating.{TakesOperator.two_tokens, Operates, InIsDue, after_nots}
use Rattle.starlark_spec.proofs.Constructors.{not_none, not_some}
use Rattle.starlark_spec.proofs.KindTests.{first_plain}
use Rattle.starlark_parse.proofs.ExprLemmas.OperationLemmas.{each_weaker, each_nots}
use Rattle.starlark_parse_cursor.proofs.Begins.{begin_read}
use Rattle.starlark_parse_cursor.proofs.Paths.{after, further, due, begin_seen, wants}
use Rattle.starlark_parse.proofs.ExprLemmas.Waiting.{Held, nothing_held, stack_in, operand_due, is_open, unary_at, not_at, bit_or_at, bit_ored, comp_at}
use Rattle.starlark_parse.proofs.ExprLemmas.Waiting.{disjunction, disjunctions_mean, disjunction_ends, from_nothing, from_nots, to_end, bound, no_comp}
use Rattle.starlark_parse.proofs.ExprLemmas.Waiting.{comp_vacant}
use Rattle.starlark_parse.proofs.ExprLemmas.Waiting.{inner_at, inner_from_nothing, to_bit_or, bit_ored_ends, bit_ors_mean, number, binding, some_is}
use Rattle.starlark_parse.proofs.ExprLemmas.Pushing.{Pushed, pushes, pushes_not_in, not_taken, comparison_stops, pushes_inner}

-- ---- an operator's tokens

pub operator_is_token : {o : BinOp} (k : Sight) → binary_operator (look_at k).kind ≡ Some o → IsToken k
operator_is_token (token x) h = tt
operator_is_token (ending at_end) h = not_some h
operator_is_token (ending (fails f)) h = not_some h
operator_is_token (ending out_of_memory) h = not_some h

not_begins : (l : Kind) → binary_operator l ≡ Some operators.NotIn → l ≡ kinds.Not
not_begins kinds.Not h = refl
not_begins l h = cc

module _ {S : Type 0} {steps : S → Option CodeLexeme → S → Type 0} {a m : At S} {x : Lexeme} {o : BinOp} (k : binary_operator (look_at a.sight).kind ≡ Some o)
    (v : Advances steps a x m) where
  the_not : o ≡ operators.NotIn → Advances steps a (lexeme tokens.Not x.span) m
  the_not e = subst (λ y. Advances steps a y m) (first_plain x kinds.Not refl (ap (λ s. (look_at s).kind) (sym v.sees)
      ∙ not_begins (look_at a.sight).kind (k ∙ ap Some e))) v

  pub two_taken : {b : At S} {i : Span} → o ≡ operators.NotIn → Advances steps m (lexeme tokens.In i) b → TakesOperator steps o a b
  two_taken e w = two_tokens (the_not e) w e

  pub in_refused : {b : At S} (z : Result (Unit {0}) Refusal) (e : Refusal) → o ≡ operators.NotIn → IsErrAnd z (λ y. y ≡ e)
      → (is (look_at m.sight).kind kinds.In ≡ false) × (refused e ≡ stop_at b) × (b ≡ m) → Operates steps o a z b
  in_refused (Ok u) e f g d = absurd g
  in_refused (Err y) e f g d = (record { span = x.span; middle = m; is_not_in = f; takes = the_not f; no_in = d.0; same = d.2 }, ap refused g ∙ d.1)

-- ---- two comparisons

pub two_comparisons : (c o : Bool) → (c && not o) ≡ true → (c ≡ true) × (o ≡ false)
two_comparisons true false h = (refl, refl)
two_comparisons true true h = cc
two_comparisons false o h = cc

pub one_comparison : (c o : Bool) → (c && not o) ≡ false → (o ≡ true) ⊎ (c ≡ false)
one_comparison true true h = inl refl
one_comparison true false h = cc
one_comparison false o h = inr refl

-- ---- between operands

-- a place of operands, by which what was read is known to begin with the first
an_or : Place Module (LeftAssociative or_precedence)
an_or = Place.test_or_at (Place.comma_list_one_at of_elements
    (Place.list_elements_at (Place.small_list_at (Place.smalls_one_at
    (Place.simple_smalls_at (Place.stmt_simple_at (Place.module_stmt_at module_none (Place.top module_root))))))))

a_bit_or : Place Module (LeftAssociative bit_or_precedence)
a_bit_or = Place.comp_first_at (Place.not_comp_at (Place.left_first_at of_and (Place.left_first_at of_or an_or)))

-- what waits, and where an operand is due after it
pub record Operands {S : Type 0} (steps : S → Option CodeLexeme → S → Type 0) (w : Stack) (a b : At S) : Type 0 where
  pub held : Held
  pub says : w ≡ stack_in held
  pub goes : (p : Place Module (LeftAssociative or_precedence)) → Goes steps (read (LeftAssociative or_precedence) p) a (operand_due held p) b

-- the same after the `not`s
pub record OperandDue {S : Type 0} (steps : S → Option CodeLexeme → S → Type 0) (w : Stack) (a b : At S) : Type 0 where
  pub held : Held
  pub says : w ≡ stack_in held
  pub goes : (p : Place Module (LeftAssociative or_precedence)) → Goes steps (read (LeftAssociative or_precedence) p) a (read Unary (unary_at held p)) b

nots_following : {b : Nonterminal} (ss ts : List Span) (p : Place b Not) → after_nots ts (after_nots ss p) ≡ after_nots (ss ++ ts) p
nots_following [] ts p = refl
nots_following (s ∷ ss) ts p = nots_following ss ts (not_not_at s p)

-- `not`s were read, and more may come
pub record NotsRead {S : Type 0} (steps : S → Option CodeLexeme → S → Type 0) (w : Stack) (a : At S) (z : Stack) (b : At S) : Type 0 where
  pub spans : List Span
  pub says : z ≡ record w { nots = w.nots ++ map (λ (s : Span). s.begin) spans }
  pub within : All (λ (s : Span). (begin_at a ≤ s.begin) × (s.begin ≤ b.end)) spans
  pub goes : (p : Place Module Not) → Goes steps (read Not p) a (read Not (after_nots spans p)) b

module _ {S : Type 0} {steps : S → Option CodeLexeme → S → Type 0} where
  pub no_nots_yet : (w : Stack) (a : At S) → NotsRead steps w a w a
  no_nots_yet w a = record {
    spans = [];
    says = ap (λ ns. record w { nots = ns }) (sym (append-nil w.nots));
    within = All-nil (λ (s : Span). (begin_at a ≤ s.begin) × (s.begin ≤ a.end));
    goes = λ p. stays;
  }

  module _ {w z : Stack} {a q : At S} (g : NotsRead steps w a z q) where
    pub not_read : {m : At S} {s : Span} (y : Stack) → Advances steps q (lexeme tokens.Not s) m → y ≡ record z { nots = z.nots ++ s.begin ∷ [] }
        → begin_at a ≤ begin_at q → q.end ≤ begin_at q → begin_at q ≤ m.end → NotsRead steps w a y m
    not_read {m = m} {s = s} y v h first later last =
        let begins : s.begin ≡ begin_at q = begin_seen v in
        record {
          spans = g.spans ++ s ∷ [];
          says = h ∙ ap (λ (x : Stack). record x { nots = x.nots ++ s.begin ∷ [] }) g.says
              ∙ ap (λ ns. record w { nots = ns }) (append_assoc w.nots (map (λ (x : Span). x.begin) g.spans) (s.begin ∷ [])
              ∙ ap (λ ns. w.nots ++ ns) (sym (map-append (λ (x : Span). x.begin) g.spans (s ∷ []))));
          within = All-push (λ (x : Span). (begin_at a ≤ x.begin) × (x.begin ≤ m.end)) g.spans s
              (All-weaker (λ (x : Span). (begin_at a ≤ x.begin) × (x.begin ≤ q.end)) (λ (x : Span). (begin_at a ≤ x.begin) × (x.begin ≤ m.end))
              (λ x k. (k.0, omega (arith, k.1, later, last))) g.spans g.within)
              (omega (arith, begins, first), omega (arith, begins, last));
          goes = λ p. after (g.goes p) (subst (λ x. Goes steps (read Not (after_nots g.spans p)) q (read Not x) m) (nots_following g.spans (s ∷ []) p)
              (takes v refl stays));
        }

    -- memory ran out for one that was consumed
    pub not_comes : {m : At S} {s : Span} → Advances steps q (lexeme tokens.Not s) m → (p : Place Module Not) → Comes steps (read Not p) a m
    not_comes {s = s} v p = record { state = read Not (not_not_at s (after_nots g.spans p)); goes = after (g.goes p) (takes v refl stays) }

    pub nots_read : {b : At S} → takes_not w ≡ true → (is (look_at q.sight).kind kinds.Not ≡ false) × (b ≡ q) → TakesNots steps w a z b
    nots_read vacancy h = subst (λ x. TakesNots steps w a z x) (sym h.1) (taken g.spans vacancy g.says g.within h.0 g.goes)

module _ {S : Type 0} {steps : S → Option CodeLexeme → S → Type 0} where
  pub nothing_yet : (a : At S) {w : Stack} → w ≡ stack_in nothing_held → Operands steps w a a
  nothing_yet a h = record { held = nothing_held; says = h; goes = from_nothing }

  pub nots_taken : {w z : Stack} {a q b : At S} → Operands steps w a q → TakesNots steps w q z b → OperandDue steps z a b
  nots_taken {a = a} {q = q} g (none_may_come shut same here) = record {
    held = g.held;
    says = same ∙ g.says;
    goes = λ p. subst (λ x. Goes steps (read (LeftAssociative or_precedence) p) a (read Unary (unary_at g.held p)) x) (sym here)
        (subst (λ (o : Bool). Goes steps (read (LeftAssociative or_precedence) p) a
        (if o then read Not (after_nots g.held.nots (not_at g.held p)) else read Unary (unary_at g.held p)) q) (ap takes_not (sym g.says) ∙ shut)
        (g.goes p));
  }
  nots_taken {a = a} {q = q} {b = b} g (taken spans vacancy says within no_not path) =
      let h : Held = record g.held { nots = g.held.nots ++ spans } in
      let is_so : is_open g.held ≡ true = ap takes_not (sym g.says) ∙ vacancy in
      record {
        held = h;
        says = says ∙ ap (λ (x : Stack). record x { nots = x.nots ++ map (λ (s : Span). s.begin) spans }) g.says
            ∙ ap (λ ns. record (stack_in g.held) { nots = ns }) (sym (map-append (λ (s : Span). s.begin) g.held.nots spans));
        goes = λ p.
            after (subst (λ (o : Bool). Goes steps (read (LeftAssociative or_precedence) p) a
            (if o then read Not (after_nots g.held.nots (not_at g.held p)) else read Unary (unary_at g.held p)) q) is_so (g.goes p))
            (after (subst (λ x. Goes steps (read Not (after_nots g.held.nots (not_at g.held p))) q (read Not x) b)
            (nots_following g.held.nots spans (not_at g.held p)) (path (after_nots g.held.nots (not_at g.held p))))
            (from_nots h p is_so no_not));
      }

  -- memory ran out for a `not`
  pub nots_want : {w : Stack} {a q b : At S} → Operands steps w a q → (takes_not w ≡ true) × ((p : Place Module Not) → Comes steps (read Not p) q b)
      → FailsFrom steps (λ (p : Place Module (LeftAssociative or_precedence)). read (LeftAssociative or_precedence) p) a b memory
  nots_want {a = a} {q = q} g n = no_memory (λ p.
      let k = n.1 (after_nots g.held.nots (not_at g.held p)) in record {
        state = k.state;
        goes = after (subst (λ (o : Bool). Goes steps (read (LeftAssociative or_precedence) p) a
            (if o then read Not (after_nots g.held.nots (not_at g.held p)) else read Unary (unary_at g.held p)) q) (ap takes_not (sym g.says) ∙ n.0)
            (g.goes p)) k.goes;
      })

  -- where what waits begins, once the `not`s are consumed
  pub nots_before : {n : ℕ} {w z : Stack} {a b : At S} → TakesNots steps w a z b → Before a.end w → a.end ≤ begin_at a → begin_at a ≤ begin_at b
      → b.end ≤ begin_at b → begin_at b ≤ n → Before n z
  nots_before {n = n} {w = w} {a = a} {b = b} taking before f g h l = go taking
    where
      earlier : Before n w
      earlier = each_weaker (λ p. p ≤ a.end) (λ p. p ≤ n) (λ p k. omega (arith, k, f, g, l)) w before

      go : {z : Stack} → TakesNots steps w a z b → Before n z
      go (none_may_come shut same here) = subst (λ x. Before n x) (sym same) earlier
      go (taken spans vacancy says within no_not path) =
          subst (λ x. Before n x) (sym says) (each_nots (λ p. p ≤ n) w spans earlier (All-weaker (λ (s : Span). (begin_at a ≤ s.begin) × (s.begin ≤ b.end))
          (λ (s : Span). s.begin ≤ n) (λ s k. omega (arith, k.1, h, l)) spans within))

  pub nots_after : {n : ℕ} {w z : Stack} {a b : At S} → TakesNots steps w a z b → After n w → n ≤ begin_at a → After n z
  nots_after {n = n} (none_may_come shut same here) following l = subst (λ x. After n x) (sym same) following
  nots_after {n = n} {w = w} {a = a} {b = b} (taken spans vacancy says within no_not path) following l =
      subst (λ x. After n x) (sym says) (each_nots (λ p. n ≤ p) w spans following (All-weaker (λ (s : Span). (begin_at a ≤ s.begin) × (s.begin ≤ b.end))
      (λ (s : Span). n ≤ s.begin) (λ s h. omega (arith, h.0, l)) spans within))

  module _ {w : Stack} {a m : At S} (g : OperandDue steps w a m) where
    pub operand_fails : {b : At S} {r : Answer} → FailsFrom steps (λ (p : Place Module Unary). read Unary p) m b r
        → FailsFrom steps (λ (p : Place Module (LeftAssociative or_precedence)). read (LeftAssociative or_precedence) p) a b r
    operand_fails f = further (λ p. unary_at g.held p) g.goes f

    module _ {begin : ℕ} {q : At S} (o : HeldExpr) (d : Found steps (λ (p : Place Module Unary). read Unary p) begin (IsUnary o) m q) where
      operand_read : (p : Place Module (LeftAssociative or_precedence)) → Goes steps (read (LeftAssociative or_precedence) p) a
          (done d.derivation (unary_at g.held p)) q
      operand_read p = after (g.goes p) (d.goes (unary_at g.held p))

      last : (before : ℕ) → end_of_last (right_side d.derivation) before ≡ q.end
      last before = sym (d.end_is before)

      -- no operator comes
      pub operands_found : (e : HeldExpr) → binary_operator (look_at q.sight).kind ≡ None → expression_of e ≡ disjunctions w q.end (expression_of o)
          → Found steps (λ (p : Place Module (LeftAssociative or_precedence)). read (LeftAssociative or_precedence) p) (begin_at a) (IsOr e) a q
      operands_found e n k =
          let goes : (p : Place Module (LeftAssociative or_precedence)) → Goes steps (read (LeftAssociative or_precedence) p) a
          (done (disjunction g.held d.derivation) p) q = λ p. after (operand_read p) (to_end g.held d.derivation p (omega (arith, ap bound n))) in
          record {
            derivation = disjunction g.held d.derivation;
            means = k ∙ ap (λ x. disjunctions x q.end (expression_of o)) g.says ∙ ap (disjunctions (stack_in g.held) q.end) d.means
                ∙ sym (disjunctions_mean g.held d.derivation last);
            begin_is = begin_read (disjunction g.held d.derivation) an_or refl (goes an_or);
            end_is = λ before. sym (disjunction_ends g.held d.derivation last before);
            goes = goes;
          }

      -- memory ran out after the operand
      pub operand_wants : FailsFrom steps (λ (p : Place Module (LeftAssociative or_precedence)). read (LeftAssociative or_precedence) p) a q memory
      operand_wants = wants (λ p. done d.derivation (unary_at g.held p)) operand_read

      module _ {c : BinOp} (k : binary_operator (look_at q.sight).kind ≡ Some c) where
        -- a second comparison
        pub comparison_refused : {b : At S} {r : Answer} → is_comparison c ≡ true → is_vacant w.comparison ≡ false → b ≡ q → r ≡ stop_at b
            → FailsFrom steps (λ (p : Place Module (LeftAssociative or_precedence)). read (LeftAssociative or_precedence) p) a b r
        comparison_refused {b = b} f full same e = sticks e (λ p.
            let s = comparison_stops g.held d.derivation c k f (ap (λ (x : Stack). is_vacant x.comparison) (sym g.says) ∙ full) p in record {
              state = done (bit_ored g.held d.derivation) (bit_or_at g.held p);
              goes = subst (λ x. Goes steps (read (LeftAssociative or_precedence) p) a (done (bit_ored g.held d.derivation) (bit_or_at g.held p)) x)
                  (sym same) (after (operand_read p) s.0);
              fails = subst (λ (x : At S). ruled x.types (done (bit_ored g.held d.derivation) (bit_or_at g.held p)) (look_at x.sight) ≡ Moves Fail)
                  (sym same) s.1;
            })

        comp_free : (g.held.comp ≡ no_comp) ⊎ (is_comparison c ≡ false) → c ≡ operators.NotIn → g.held.comp ≡ no_comp
        comp_free (inl f) e = f
        comp_free (inr n) e = let v : true ≡ false = ap is_comparison (sym e) ∙ n in cc

        free : is_vacant w.comparison ≡ true ⊎ (is_comparison c ≡ false) → (g.held.comp ≡ no_comp) ⊎ (is_comparison c ≡ false)
        free (inl f) = inl (comp_vacant g.held.comp (ap (λ (x : Stack). is_vacant x.comparison) (sym g.says) ∙ f))
        free (inr n) = inr n

        pushed_on : {b : At S} (z : Stack) → z ≡ waits c q.end (expression_of o) w → Pushed steps g.held d.derivation c q.end q b → Operands steps z a b
        pushed_on z h x = record {
          held = x.held;
          says = h ∙ ap (waits c q.end (expression_of o)) g.says ∙ ap (λ y. waits c q.end y (stack_in g.held)) d.means ∙ sym x.says;
          goes = λ p. after (operand_read p) (x.goes p);
        }

        pub operator_taken : {b : At S} (z : Stack) → z ≡ waits c q.end (expression_of o) w → is_vacant w.comparison ≡ true ⊎ (is_comparison c ≡ false)
            → TakesOperator steps c q b → Operands steps z a b
        operator_taken z h f (one_token v n) = pushed_on z h (pushes g.held d.derivation c q.end v (ap (λ x. binary_operator (look_at x).kind) (sym v.sees)
            ∙ k) (free f) n last)
        operator_taken {b = b} z h f (two_tokens v u is) =
            let none : g.held.comp ≡ no_comp = comp_free (free f) is in
            pushed_on z h (subst (λ y. Pushed steps g.held d.derivation y q.end q b) (sym is) (pushes_not_in g.held d.derivation v none q.end u))

        pub in_is_due : {b : At S} {r : Answer} → is_vacant w.comparison ≡ true ⊎ (is_comparison c ≡ false) → InIsDue steps c q b → r ≡ stop_at b
            → FailsFrom steps (λ (p : Place Module (LeftAssociative or_precedence)). read (LeftAssociative or_precedence) p) a b r
        in_is_due f n e =
            due (λ p. in_due (bit_ored g.held d.derivation) n.span (comp_at g.held p)) n.same e
            (λ p. after (operand_read p) (not_taken g.held d.derivation n.takes (comp_free (free f) n.is_not_in) p)) (λ p. rw n.no_in refl)

-- ---- operands under BitOr

-- nothing waits at the level of comparisons or looser
abbrev pub is_bare : Stack → Type 0
is_bare w = (w.or ≡ None) × (w.and ≡ None) × (w.nots ≡ []) × (w.comparison ≡ None)

-- what waits there, and where an operand is due after it
pub record InnerDue {S : Type 0} (steps : S → Option CodeLexeme → S → Type 0) (w : Stack) (a b : At S) : Type 0 where
  pub held : Held
  pub says : w ≡ stack_in held
  pub bare : is_bare w
  pub goes : (q : Place Module (LeftAssociative bit_or_precedence)) → Goes steps (read (LeftAssociative bit_or_precedence) q) a (read Unary (inner_at held q)) b

tight_is : (l : Kind) {o : BinOp} → tight_operator l ≡ Some o → (binary_operator l ≡ Some o) × (3 < number (level_of o))
tight_is kinds.Pipe h = (h, subst (λ (x : BinOp). 3 < number (level_of x)) (some_is h) (omega arith))
tight_is kinds.Caret h = (h, subst (λ (x : BinOp). 3 < number (level_of x)) (some_is h) (omega arith))
tight_is kinds.Ampersand h = (h, subst (λ (x : BinOp). 3 < number (level_of x)) (some_is h) (omega arith))
tight_is kinds.LessLess h = (h, subst (λ (x : BinOp). 3 < number (level_of x)) (some_is h) (omega arith))
tight_is kinds.GreaterGreater h = (h, subst (λ (x : BinOp). 3 < number (level_of x)) (some_is h) (omega arith))
tight_is kinds.Plus h = (h, subst (λ (x : BinOp). 3 < number (level_of x)) (some_is h) (omega arith))
tight_is kinds.Minus h = (h, subst (λ (x : BinOp). 3 < number (level_of x)) (some_is h) (omega arith))
tight_is kinds.Star h = (h, subst (λ (x : BinOp). 3 < number (level_of x)) (some_is h) (omega arith))
tight_is kinds.Slash h = (h, subst (λ (x : BinOp). 3 < number (level_of x)) (some_is h) (omega arith))
tight_is kinds.SlashSlash h = (h, subst (λ (x : BinOp). 3 < number (level_of x)) (some_is h) (omega arith))
tight_is kinds.Percent h = (h, subst (λ (x : BinOp). 3 < number (level_of x)) (some_is h) (omega arith))
tight_is l h = not_some h

pub tight_binary : (l : Kind) {o : BinOp} → tight_operator l ≡ Some o → binary_operator l ≡ Some o
tight_binary l h = (tight_is l h).0

not_tight : (l : Kind) → tight_operator l ≡ None → binding l < 4
not_tight kinds.Pipe h = not_none h
not_tight kinds.Caret h = not_none h
not_tight kinds.Ampersand h = not_none h
not_tight kinds.LessLess h = not_none h
not_tight kinds.GreaterGreater h = not_none h
not_tight kinds.Plus h = not_none h
not_tight kinds.Minus h = not_none h
not_tight kinds.Star h = not_none h
not_tight kinds.Slash h = not_none h
not_tight kinds.SlashSlash h = not_none h
not_tight kinds.Percent h = not_none h
not_tight kinds.Or h = omega arith
not_tight kinds.And h = omega arith
not_tight kinds.EqualEqual h = omega arith
not_tight kinds.BangEqual h = omega arith
not_tight kinds.LessThan h = omega arith
not_tight kinds.GreaterThan h = omega arith
not_tight kinds.LessEqual h = omega arith
not_tight kinds.GreaterEqual h = omega arith
not_tight kinds.In h = omega arith
not_tight kinds.Not h = omega arith
not_tight l h = omega arith

-- what binds tightly leaves it bare
stays_bare : (l : Level) (o : BinOp) (end : ℕ) (e : Expression no_payload) (w : Stack) → 3 < number l → is_bare w → is_bare (waits_at l o end e w)
stays_bare or_level o end e w t b = absurd (omega (arith, t))
stays_bare and_level o end e w t b = absurd (omega (arith, t))
stays_bare comparison_level o end e w t b = absurd (omega (arith, t))
stays_bare bit_or_level o end e w t b = b
stays_bare bit_xor_level o end e w t b = b
stays_bare bit_and_level o end e w t b = b
stays_bare shift_level o end e w t b = b
stays_bare add_level o end e w t b = b
stays_bare multiply_level o end e w t b = b

bare_built : (w : Stack) (end : ℕ) (e : Expression no_payload) → is_bare w → disjunctions w end e ≡ bit_ors w e
bare_built w end e b = rw (b.0, b.1, b.2, b.3) refl

module _ {S : Type 0} {steps : S → Option CodeLexeme → S → Type 0} where
  pub inner_yet : (a : At S) {w : Stack} → w ≡ nothing_waits → InnerDue steps w a a
  inner_yet a h = record { held = nothing_held; says = h; bare = subst is_bare (sym h) (refl, refl, refl, refl); goes = inner_from_nothing }

  module _ {w : Stack} {a m : At S} (g : InnerDue steps w a m) where
    pub inner_fails : {b : At S} {r : Answer} → FailsFrom steps (λ (p : Place Module Unary). read Unary p) m b r
        → FailsFrom steps (λ (p : Place Module (LeftAssociative bit_or_precedence)). read (LeftAssociative bit_or_precedence) p) a b r
    inner_fails f = further (λ p. inner_at g.held p) g.goes f

    module _ {begin : ℕ} {q : At S} (o : HeldExpr) (d : Found steps (λ (p : Place Module Unary). read Unary p) begin (IsUnary o) m q) where
      inner_read : (p : Place Module (LeftAssociative bit_or_precedence)) → Goes steps (read (LeftAssociative bit_or_precedence) p) a
          (done d.derivation (inner_at g.held p)) q
      inner_read p = after (g.goes p) (d.goes (inner_at g.held p))

      pub inner_wants : FailsFrom steps (λ (p : Place Module (LeftAssociative bit_or_precedence)). read (LeftAssociative bit_or_precedence) p) a q memory
      inner_wants = wants (λ p. done d.derivation (inner_at g.held p)) inner_read

      inner_last : (before : ℕ) → end_of_last (right_side d.derivation) before ≡ q.end
      inner_last before = sym (d.end_is before)

      -- no operator comes that binds more tightly than comparisons
      pub inner_found : (e : HeldExpr) → tight_operator (look_at q.sight).kind ≡ None → expression_of e ≡ disjunctions w q.end (expression_of o)
          → Found steps (λ (p : Place Module (LeftAssociative bit_or_precedence)). read (LeftAssociative bit_or_precedence) p) (begin_at a) (IsBitOr e) a q
      inner_found e n k =
          let goes : (p : Place Module (LeftAssociative bit_or_precedence)) → Goes steps (read (LeftAssociative bit_or_precedence) p) a
          (done (bit_ored g.held d.derivation) p) q = λ p. after (inner_read p) (to_bit_or g.held d.derivation p (not_tight _ n)) in
          record {
            derivation = bit_ored g.held d.derivation;
            means = k ∙ bare_built w q.end (expression_of o) g.bare ∙ ap (λ x. bit_ors x (expression_of o)) g.says ∙ ap (bit_ors (stack_in g.held)) d.means
                ∙ sym (bit_ors_mean g.held d.derivation);
            begin_is = begin_read (bit_ored g.held d.derivation) a_bit_or refl (goes a_bit_or);
            end_is = λ before. sym (bit_ored_ends g.held d.derivation inner_last before);
            goes = goes;
          }

      pub inner_taken : {c : BinOp} (k : tight_operator (look_at q.sight).kind ≡ Some c) {b : At S} (z : Stack) → z ≡ waits c q.end (expression_of o) w
          → TakesOperator steps c q b → InnerDue steps z a b
      inner_taken {c = c} k z h (one_token v n) =
          let t = tight_is (look_at q.sight).kind k in
          let x = pushes_inner g.held d.derivation c q.end v (ap (λ y. binary_operator (look_at y).kind) (sym v.sees) ∙ t.0) t.1 in record {
            held = x.held;
            says = h ∙ ap (waits c q.end (expression_of o)) g.says ∙ ap (λ y. waits c q.end y (stack_in g.held)) d.means ∙ sym x.says;
            bare = subst is_bare (sym h) (stays_bare (level_of c) c q.end (expression_of o) w t.1 g.bare);
            goes = λ p. after (inner_read p) (x.goes p);
          }
      inner_taken {c = c} k z h (two_tokens v u is) = let t = tight_is (look_at q.sight).kind k in
          absurd (omega (arith, t.1, ap (λ (y : BinOp). number (level_of y)) is))

      -- no `in` is due after such an operator
      pub inner_no_in : {c : BinOp} {b : At S} {A : Type 0} → tight_operator (look_at q.sight).kind ≡ Some c → InIsDue steps c q b → A
      inner_no_in {c = c} k i = let t = tight_is (look_at q.sight).kind k in absurd (omega (arith, t.1, ap (λ (y : BinOp). number (level_of y)) i.is_not_in))
