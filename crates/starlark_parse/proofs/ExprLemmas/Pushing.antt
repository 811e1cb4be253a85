-- How the operator stack takes an operator: what is held afterwards, and the path of the machine to that.
use Rattle.std.proofs.Common.{◌≡◌, ℕ, ◌<◌, true, false, [], Option, Some, refl, sym, ap, ◌∙◌, subst, arith, ◌⊎◌}
use Rattle.starlark_lexer.specs.Tokens.{Span, Lexeme, lexeme}
use Rattle.starlark_lexer.specs.Tokens as tokens
use Rattle.starlark_lexer.specs.Lexer.{CodeLexeme}
use Rattle.starlark_tree.specs.declared.ast.operator.BinOp.{BinOp}
use Rattle.starlark_tree.specs.declared.ast.operator.BinOp.TheVariants as operators
use Rattle.starlark_parse_build.specs.Operations.{Level, level_of, bit_ors, waits_at, waits, without_products, without_sums, without_shifts, without_bit_ands}
use Rattle.starlark_parse_build.specs.Operations.{without_bit_xors, without_bit_ors, without_negations, without_conjunctions, is_vacant, is_comparison}
use Rattle.starlark_parse_build.specs.Operations.Level.{or_level, and_level, comparison_level, bit_or_level, bit_xor_level, bit_and_level, shift_level}
use Rattle.starlark_parse_build.specs.Operations.Level.{add_level, multiply_level}
use Rattle.starlark_lexer.specs.declared.kind.Kind.{Kind}
use Rattle.starlark_lexer.specs.declared.kind.Kind.TheVariants as kinds
use Rattle.starlark_spec.specs.Grammar.{Nonterminal, CompSign, Derivation}
use Rattle.starlark_spec.specs.Grammar.PrecedenceLevel.{or_precedence, bit_or_precedence}
use Rattle.starlark_spec.specs.Grammar.OperandOf.{of_bit_or, of_xor, of_bit_and, of_shift, of_add, of_multiply}
use Rattle.starlark_spec.specs.Grammar.CompSign.{comparison, not_in}
use Rattle.starlark_spec.specs.Grammar.Nonterminal.{Module, Comp, Unary, LeftAssociative}
use Rattle.starlark_spec.specs.Trees.{tree}
use Rattle.starlark_lexer.specs.Kinds.{kind_of}
use Rattle.starlark_spec.specs.Machine.States.{Place, Place.left_first_at, Place.comp_right_at}
use Rattle.starlark_spec.specs.Machine.States.State.{read, done, in_due}
use Rattle.starlark_spec.specs.Machine.Faults.{ruled}
use Rattle.starlark_spec.specs.Machine.Faults.Ruled.{Moves}
use Rattle.starlark_spec.specs.Machine.Sight.{token, look_at}
use Rattle.starlark_spec.specs.Machine.Moves.{Fail, after_bit_or}
use Rattle.starlark_parse_cursor.specs.Reading.{At, Advances}
use Rattle.starlark_parse_cursor.specs.Contract.{Goes, Goes.stays, Goes.keeps, Goes.takes}
use Rattle.starlark_parse_cursor.proofs.Paths.{after}
use Rattle.starlark_parse.specs.Expr.Operators.{binary_operator}
use Rattle.starlark_parse.proofs.ExprLemmas.Waiting.{Slot.vacant, Slot.held, CompSlot.no_comp, CompSlot.held_comp, CompSlot, Held, nothing_held, half_comp}
use Rattle.starlark_parse.proofs.ExprLemmas.Waiting.{stack_in, product, sum, shifted, bit_anded, xored, bit_ored, conjunction, disjunction, place_comp, and_at}
use Rattle.starlark_parse.proofs.ExprLemmas.Waiting.{comp_at, bit_or_at, xor_at, bit_and_at, shift_at, add_at, multiply_at, inner_at, unary_at, operand_due}
use Rattle.starlark_parse.proofs.ExprLemmas.Waiting.{number}
use Rattle.starlark_parse.proofs.ExprLemmas.Waiting.{bound, binding, comparison_comes, or_signs, and_signs, bit_or_signs, xor_signs, bit_and_signs, shift_signs}
use Rattle.starlark_parse.proofs.ExprLemmas.Waiting.{add_signs, multiply_signs, comparison_signs, to_products, to_sums, to_shifts, to_bit_ands, to_xors}
use Rattle.starlark_parse.proofs.ExprLemmas.Waiting.{to_bit_ors}
use Rattle.starlark_parse.proofs.ExprLemmas.Waiting.{to_comparison, to_conjunctions, to_disjunctions, takes_sign, half_is, EndsAt, products_mean, sums_mean}
use Rattle.starlark_parse.proofs.ExprLemmas.Waiting.{shifts_mean, bit_ands_mean, xors_mean, bit_ors_mean, conjunctions_mean, disjunctions_mean}
use Rattle.starlark_parse.proofs.ExprLemmas.Waiting.{nothing_compares}
use Rattle.starlark_parse.proofs.ExprLemmas.Waiting.{compared_level, no_comparison_waits}

-- ---- an operator comes after an operand

-- the place of an operand after a comparison
abbrev from_comparison : {b : Nonterminal} → Derivation (LeftAssociative bit_or_precedence) → CompSign → Place b Comp → Place b Unary
from_comparison d o p = left_first_at of_multiply (left_first_at of_add
    (left_first_at of_shift (left_first_at of_bit_and (left_first_at of_xor (left_first_at of_bit_or (comp_right_at d o p))))))

to_operand : {S : Type 0} {steps : S → Option CodeLexeme → S → Type 0} {b : At S} (d : Derivation (LeftAssociative bit_or_precedence)) (o : CompSign)
    (p : Place Module Comp) → Goes steps (read (LeftAssociative bit_or_precedence) (comp_right_at d o p)) b (read Unary (from_comparison d o p)) b
to_operand d o p = keeps refl (keeps refl (keeps refl (keeps refl (keeps refl (keeps refl stays)))))

-- what is held afterwards, and the machine's path to the next operand
pub record Pushed {S : Type 0} (steps : S → Option CodeLexeme → S → Type 0) (h : Held) (e : Derivation Unary) (o : BinOp) (end : ℕ) (a b : At S) : Type 0 where
  pub held : Held
  pub says : stack_in held ≡ waits o end (tree e) (stack_in h)
  pub goes : (p : Place Module (LeftAssociative or_precedence)) → Goes steps (done e (unary_at h p)) a (operand_due held p) b

-- the same under BitOr: what is held above is unchanged
pub record PushedInner {S : Type 0} (steps : S → Option CodeLexeme → S → Type 0) (h : Held) (e : Derivation Unary) (o : BinOp) (end : ℕ)
    (a b : At S) : Type 0 where
  pub held : Held
  pub says : stack_in held ≡ waits o end (tree e) (stack_in h)
  pub goes : (q : Place Module (LeftAssociative bit_or_precedence)) → Goes steps (done e (inner_at h q)) a (read Unary (inner_at held q)) b

module _ {S : Type 0} {steps : S → Option CodeLexeme → S → Type 0} {a b : At S} {x : Lexeme} (h : Held) (e : Derivation Unary) (o : BinOp) (end : ℕ)
    (v : Advances steps a x b) (c : binary_operator (kind_of x.token) ≡ Some o) where
  abbrev taken : Kind
  taken = kind_of x.token

  same_kind : (look_at a.sight).kind ≡ taken
  same_kind = ap (λ k. (look_at k).kind) v.sees

  binds : {l : Level} → level_of o ≡ l → binding taken ≡ number l
  binds q = ap bound c ∙ ap number q

  here_binds : {l : Level} → level_of o ≡ l → binding (look_at a.sight).kind ≡ number l
  here_binds q = ap binding same_kind ∙ binds q

  at_level : {l : Level} → level_of o ≡ l → waits_at l o end (tree e) (stack_in h) ≡ waits o end (tree e) (stack_in h)
  at_level q = ap (λ l. waits_at l o end (tree e) (stack_in h)) (sym q)

  push_multiply : level_of o ≡ multiply_level → PushedInner steps h e o end a b
  push_multiply q =
      let s = multiply_signs taken o c (binds q) in record {
        held = record h { multiply = held (product h e) s.sign x.span };
        says = ap (λ y. record (stack_in h) { multiply = Some y }) (half_is (products_mean h e) s.says) ∙ at_level q;
        goes = λ q. after (to_products h e q) (takes_sign (product h e) (multiply_at h q) s.sign v s.comes);
      }

  push_add : level_of o ≡ add_level → PushedInner steps h e o end a b
  push_add q =
      let s = add_signs taken o c (binds q) in record {
        held = record h { add = held (sum h e) s.sign x.span; multiply = vacant };
        says = ap (λ y. record (without_products (stack_in h)) { add = Some y }) (half_is (sums_mean h e) s.says) ∙ at_level q;
        goes = λ p. after (to_sums h e p (omega (arith, here_binds q))) (after (takes_sign (sum h e) (add_at h p) s.sign v s.comes) (keeps refl stays));
      }

  push_shift : level_of o ≡ shift_level → PushedInner steps h e o end a b
  push_shift q =
      let s = shift_signs taken o c (binds q) in record {
        held = record h { shift = held (shifted h e) s.sign x.span; add = vacant; multiply = vacant };
        says = ap (λ y. record (without_sums (stack_in h)) { shift = Some y }) (half_is (shifts_mean h e) s.says) ∙ at_level q;
        goes = λ p. after (to_shifts h e p (omega (arith, here_binds q))) (after (takes_sign (shifted h e) (shift_at h p) s.sign v s.comes)
            (keeps refl (keeps refl stays)));
      }

  push_bit_and : level_of o ≡ bit_and_level → PushedInner steps h e o end a b
  push_bit_and q =
      let s = bit_and_signs taken o c (binds q) in record {
        held = record h { bit_and = held (bit_anded h e) s.sign x.span; shift = vacant; add = vacant; multiply = vacant };
        says = ap (λ y. record (without_shifts (stack_in h)) { bit_and = Some y }) (half_is (bit_ands_mean h e) s.says) ∙ at_level q;
        goes = λ p. after (to_bit_ands h e p (omega (arith, here_binds q))) (after (takes_sign (bit_anded h e) (bit_and_at h p) s.sign v s.comes)
            (keeps refl (keeps refl (keeps refl stays))));
      }

  push_xor : level_of o ≡ bit_xor_level → PushedInner steps h e o end a b
  push_xor q =
      let s = xor_signs taken o c (binds q) in record {
        held = record h { xor = held (xored h e) s.sign x.span; bit_and = vacant; shift = vacant; add = vacant; multiply = vacant };
        says = ap (λ y. record (without_bit_ands (stack_in h)) { bit_xor = Some y }) (half_is (xors_mean h e) s.says) ∙ at_level q;
        goes = λ p. after (to_xors h e p (omega (arith, here_binds q))) (after (takes_sign (xored h e) (xor_at h p) s.sign v s.comes)
            (keeps refl (keeps refl (keeps refl (keeps refl stays)))));
      }

  push_bit_or : level_of o ≡ bit_or_level → PushedInner steps h e o end a b
  push_bit_or q =
      let s = bit_or_signs taken o c (binds q) in record {
        held = record h { bit_or = held (bit_ored h e) s.sign x.span; xor = vacant; bit_and = vacant; shift = vacant; add = vacant; multiply = vacant };
        says = ap (λ y. record (without_bit_xors (stack_in h)) { bit_or = Some y }) (half_is (bit_ors_mean h e) s.says) ∙ at_level q;
        goes = λ p. after (to_bit_ors h e p (omega (arith, here_binds q)))
            (after (takes_sign (bit_ored h e) p s.sign v s.comes) (keeps refl (keeps refl (keeps refl (keeps refl (keeps refl stays))))));
      }

  push_and : EndsAt e end → level_of o ≡ and_level → Pushed steps h e o end a b
  push_and last q =
      let s = and_signs taken o c (binds q) in record {
        held = record h {
          and = held (conjunction h e) s.sign x.span;
          nots = [];
          comp = no_comp;
          bit_or = vacant;
          xor = vacant;
          bit_and = vacant;
          shift = vacant;
          add = vacant;
          multiply = vacant;
        };
        says = ap (λ y. record (without_negations (stack_in h)) { and = Some y }) (half_is (conjunctions_mean h e last) s.says) ∙ at_level q;
        goes = λ p. after (to_conjunctions h e p (omega (arith, here_binds q))) (takes_sign (conjunction h e) (and_at h p) s.sign v s.comes);
      }

  push_or : EndsAt e end → level_of o ≡ or_level → Pushed steps h e o end a b
  push_or last q =
      let s = or_signs taken o c (binds q) in record {
        held = record nothing_held { or = held (disjunction h e) s.sign x.span };
        says = ap (λ y. record (without_conjunctions (stack_in h)) { or = Some y }) (half_is (disjunctions_mean h e last) s.says) ∙ at_level q;
        goes = λ p. after (to_disjunctions h e p (omega (arith, here_binds q))) (after (takes_sign (disjunction h e) p s.sign v s.comes) (keeps refl stays));
      }

  push_comparison : h.comp ≡ no_comp → (o ≡ operators.NotIn → ⊥) → level_of o ≡ comparison_level → Pushed steps h e o end a b
  push_comparison free n q =
      let s = comparison_signs taken o c (binds q) n in record {
        held = record h {
          comp = held_comp (bit_ored h e) (comparison s.sign x.span);
          bit_or = vacant;
          xor = vacant;
          bit_and = vacant;
          shift = vacant;
          add = vacant;
          multiply = vacant;
        };
        says = ap (λ y. record (without_bit_ors (stack_in h)) { comparison = Some y })
            (half_is (bit_ors_mean h e ∙ sym (nothing_compares h (bit_ors (stack_in h) (tree e)) free)) s.says) ∙ at_level q;
        goes = λ p. after (to_comparison h e p (omega (arith, here_binds q)))
            (subst (λ y. Goes steps (done (bit_ored h e) (place_comp y (comp_at h p))) a
            (read Unary (from_comparison (bit_ored h e) (comparison s.sign x.span) (comp_at h p))) b) (sym free)
            (takes v (ap (λ y. Moves (after_bit_or (bit_ored h e) (comp_at h p) (look_at (token x)) y)) s.comes)
            (to_operand (bit_ored h e) (comparison s.sign x.span) (comp_at h p))));
      }

  -- an operator that binds more tightly than comparisons
  pub pushes_inner : 3 < number (level_of o) → PushedInner steps h e o end a b
  pushes_inner tight = go (level_of o) refl
    where
      go : (l : Level) → level_of o ≡ l → PushedInner steps h e o end a b
      go or_level q = absurd (omega (arith, tight, ap number q))
      go and_level q = absurd (omega (arith, tight, ap number q))
      go comparison_level q = absurd (omega (arith, tight, ap number q))
      go bit_or_level q = push_bit_or q
      go bit_xor_level q = push_xor q
      go bit_and_level q = push_bit_and q
      go shift_level q = push_shift q
      go add_level q = push_add q
      go multiply_level q = push_multiply q

  -- it waits after what is held above; no `not` may come
  outer : (l : Level) → level_of o ≡ l → 3 < number l → Pushed steps h e o end a b
  unfolding push_bit_or push_xor push_bit_and push_shift push_add push_multiply
  outer bit_or_level q t = let k = push_bit_or q in record { held = k.held; says = k.says; goes = λ p. k.goes (bit_or_at h p) }
  outer bit_xor_level q t = let k = push_xor q in record { held = k.held; says = k.says; goes = λ p. k.goes (bit_or_at h p) }
  outer bit_and_level q t = let k = push_bit_and q in record { held = k.held; says = k.says; goes = λ p. k.goes (bit_or_at h p) }
  outer shift_level q t = let k = push_shift q in record { held = k.held; says = k.says; goes = λ p. k.goes (bit_or_at h p) }
  outer add_level q t = let k = push_add q in record { held = k.held; says = k.says; goes = λ p. k.goes (bit_or_at h p) }
  outer multiply_level q t = let k = push_multiply q in record { held = k.held; says = k.says; goes = λ p. k.goes (bit_or_at h p) }
  outer or_level q t = absurd (omega (arith, t))
  outer and_level q t = absurd (omega (arith, t))
  outer comparison_level q t = absurd (omega (arith, t))

  -- every operator of one token
  pub pushes : h.comp ≡ no_comp ⊎ (is_comparison o ≡ false) → (o ≡ operators.NotIn → ⊥) → EndsAt e end → Pushed steps h e o end a b
  pushes free n last = go (level_of o) refl
    where
      go : (l : Level) → level_of o ≡ l → Pushed steps h e o end a b
      go or_level q = push_or last q
      go and_level q = push_and last q
      go comparison_level q = push_comparison (no_comparison_waits o free q) n q
      go bit_or_level q = outer bit_or_level q (omega arith)
      go bit_xor_level q = outer bit_xor_level q (omega arith)
      go bit_and_level q = outer bit_and_level q (omega arith)
      go shift_level q = outer shift_level q (omega arith)
      go add_level q = outer add_level q (omega arith)
      go multiply_level q = outer multiply_level q (omega arith)

module _ {S : Type 0} {steps : S → Option CodeLexeme → S → Type 0} {a m : At S} {s : Span} (h : Held) (e : Derivation Unary)
    (v : Advances steps a (lexeme tokens.Not s) m) (h_free : h.comp ≡ no_comp) where
  not_here : (look_at a.sight).kind ≡ kinds.Not
  not_here = ap (λ k. (look_at k).kind) v.sees

  pub not_taken : (p : Place Module (LeftAssociative or_precedence)) → Goes steps (done e (unary_at h p)) a (in_due (bit_ored h e) s (comp_at h p)) m
  not_taken p =
      after (to_comparison h e p (omega (arith, ap binding not_here)))
      (subst (λ y. Goes steps (done (bit_ored h e) (place_comp y (comp_at h p))) a (in_due (bit_ored h e) s (comp_at h p)) m) (sym h_free) (takes v refl stays))

  -- `not in` comes
  pub pushes_not_in : {b : At S} {i : Span} (end : ℕ) → Advances steps m (lexeme tokens.In i) b → Pushed steps h e operators.NotIn end a b
  pushes_not_in {i = i} end w = record {
    held = record h {
      comp = held_comp (bit_ored h e) (not_in s i);
      bit_or = vacant;
      xor = vacant;
      bit_and = vacant;
      shift = vacant;
      add = vacant;
      multiply = vacant;
    };
    says = ap (λ y. record (without_bit_ors (stack_in h)) { comparison = Some y })
        (half_is (bit_ors_mean h e ∙ sym (nothing_compares h (bit_ors (stack_in h) (tree e)) h_free)) refl);
    goes = λ p. after (not_taken p) (takes w refl (to_operand (bit_ored h e) (not_in s i) (comp_at h p)));
  }

-- a comparison comes while one waits
pub comparison_stops : {S : Type 0} {steps : S → Option CodeLexeme → S → Type 0} {a : At S} (h : Held) (e : Derivation Unary) (o : BinOp)
    → binary_operator (look_at a.sight).kind ≡ Some o → is_comparison o ≡ true → is_vacant (half_comp h.comp) ≡ false
    → (p : Place Module (LeftAssociative or_precedence))
    → Goes steps (done e (unary_at h p)) a (done (bit_ored h e) (bit_or_at h p)) a × (ruled a.types (done (bit_ored h e) (bit_or_at h p)) (look_at a.sight)
    ≡ Moves Fail)
comparison_stops {a = a} h e o c k full p =
    let g : binding (look_at a.sight).kind ≡ 3 = ap bound c ∙ ap number (compared_level o k) in
    (to_comparison h e p (omega (arith, g)), stops h.comp full)
  where
    stops : (s : CompSlot) → is_vacant (half_comp s) ≡ false → ruled a.types (done (bit_ored h e) (place_comp s (comp_at h p))) (look_at a.sight) ≡ Moves Fail
    stops no_comp f = cc
    stops (held_comp d w) f = rw (comparison_comes (look_at a.sight).kind (ap bound c ∙ ap number (compared_level o k))) refl
