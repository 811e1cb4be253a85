-- The machine's paths through loop variables, in the form in which the code's answers cite them.
use Rattle.std.proofs.Common.{◌≡◌, ℕ, Bool, true, false, if◌then◌else◌, List, [], ◌∷◌, ◌++◌, Option, refl, sym, ◌∙◌, ap}
use Rattle.starlark_lexer.specs.Tokens.{Span, from_to, Lexeme, lexeme}
use Rattle.starlark_lexer.specs.Tokens as tokens
use Rattle.starlark_lexer.specs.Lexer.{CodeLexeme}
use Rattle.starlark_lexer.specs.declared.dialect.DialectTypes.{DialectTypes}
use Rattle.starlark_tree.specs.Ast.{Expression, no_payload}
use Rattle.starlark_lexer.specs.declared.kind.Kind.TheVariants as kinds
use Rattle.starlark_spec.specs.declared.error.GrammarError.TheVariants.{UnparenthesizedTupleTrailingComma}
use Rattle.starlark_spec.specs.Faults.{grammar_fault}
use Rattle.starlark_spec.specs.Answers.{Answer}
use Rattle.starlark_spec.specs.Answers.Answer.{memory, broken_rule}
use Rattle.starlark_spec.specs.Grammar.{Derivation, right_side, yield_of}
use Rattle.starlark_spec.specs.Grammar.ElementKind.{variables}
use Rattle.starlark_spec.specs.Grammar.ElementOf.{of_variables}
use Rattle.starlark_spec.specs.Grammar.PrecedenceLevel.{bit_or_precedence}
use Rattle.starlark_spec.specs.Grammar.Nonterminal.{Module, LeftAssociative, LoopVars, CommaList}
use Rattle.starlark_spec.specs.Grammar.Derivation.{vars_plain, vars_comma, comma_list_one, comma_list_more}
use Rattle.starlark_spec.specs.Trees.{tree, begin_of, end_of_last, derivation_span, one_or_tuple}
use Rattle.starlark_lexer.specs.Kinds.{is}
use Rattle.starlark_spec.specs.Machine.States.{Place, Place.vars_elements_at, Place.comma_list_one_at, Place.comma_list_more_at}
use Rattle.starlark_spec.specs.Machine.States.State.{read, done, after_vars_comma}
use Rattle.starlark_spec.specs.Machine.Sight.{Look, look_at}
use Rattle.starlark_spec.specs.Machine.Firsts.{starts_operand}
use Rattle.starlark_spec.specs.Machine.Moves.{Keep}
use Rattle.starlark_spec.specs.Machine.Faults.{Moves, ruled}
use Rattle.starlark_parse_held.specs.Held.{expression_of}
use Rattle.starlark_parse_held.specs.declared.expression.HeldExpr.{HeldExpr}
use Rattle.starlark_parse_cursor.specs.Reading.{At, Advances, begin_at}
use Rattle.starlark_parse_cursor.specs.Contract.{Goes, Goes.stays, Goes.keeps, Goes.takes, FailsFrom, Found}
use Rattle.starlark_parse_cursor.proofs.Looks.{same_spans}
use Rattle.starlark_parse_cursor.proofs.Paths.{after, further, at_same, due, wants}
use Rattle.starlark_parse.specs.Expr.Expressions.{IsBitOr, IsLoopVars}
use Rattle.starlark_parse.specs.Expr.Contract.{after_trailing_comma}
use Rattle.starlark_parse.proofs.ExprLemmas.Checked.{node_fails}

-- variables were read, and another is due
pub record VariableDue {S : Type 0} (steps : S → Option CodeLexeme → S → Type 0) (a b : At S) (xs : List (Expression no_payload)) : Type 0 where
  pub place : Place Module LoopVars → Place Module (LeftAssociative bit_or_precedence)
  pub more : Derivation (LeftAssociative bit_or_precedence) → Derivation (CommaList variables)
  pub means : (d : Derivation (LeftAssociative bit_or_precedence)) → tree (more d) ≡ xs ++ tree d ∷ []
  pub begin_is : (d : Derivation (LeftAssociative bit_or_precedence)) → ((rest : List Lexeme) → begin_of (yield_of d rest) ≡ begin_at b)
      → (rest : List Lexeme) → begin_of (yield_of (more d) rest) ≡ begin_at a
  pub end_is : (d : Derivation (LeftAssociative bit_or_precedence)) (end : ℕ) → ((before : ℕ) → end ≡ end_of_last (right_side d) before) → (before : ℕ)
      → end ≡ end_of_last (right_side (more d)) before
  pub goes : (p : Place Module LoopVars) → Goes steps (read LoopVars p) a (read (LeftAssociative bit_or_precedence) (place p)) b
  pub passes : (d : Derivation (LeftAssociative bit_or_precedence)) (p : Place Module LoopVars) (y : DialectTypes) (l : Look) → ruled y (done d (place p)) l
      ≡ Moves (Keep (done (more d) (vars_elements_at p)))

module _ {S : Type 0} {steps : S → Option CodeLexeme → S → Type 0} where
  pub first_due : (a : At S) {xs : List (Expression no_payload)} → xs ≡ [] → VariableDue steps a a xs
  first_due a e = record {
    place = λ p. comma_list_one_at of_variables (vars_elements_at p);
    more = λ d. comma_list_one of_variables d;
    means = λ d. ap (λ ys. ys ++ tree d ∷ []) (sym e);
    begin_is = λ d h rest. h rest;
    end_is = λ d end h before. h before;
    goes = λ p. keeps refl (keeps refl stays);
    passes = λ d p y l. refl;
  }

  module _ {a q : At S} {xs : List (Expression no_payload)} (g : VariableDue steps a q xs) where
    pub variable_fails : {b : At S} {r : Answer} → FailsFrom steps (λ (p : Place Module (LeftAssociative bit_or_precedence)). read
        (LeftAssociative bit_or_precedence) p) q b r → FailsFrom steps (λ (p : Place Module LoopVars). read LoopVars p) a b r
    variable_fails f = further g.place g.goes f

    module _ {m : At S} (e : HeldExpr) (d : Found steps (λ (p : Place Module (LeftAssociative bit_or_precedence)). read (LeftAssociative bit_or_precedence) p)
        (begin_at q) (IsBitOr e) q m) where
      abbrev pub items : Derivation (CommaList variables)
      items = g.more d.derivation

      to_items : (p : Place Module LoopVars) → Goes steps (read LoopVars p) a (done items (vars_elements_at p)) m
      to_items p = after (g.goes p) (after (d.goes (g.place p)) (keeps (g.passes d.derivation p m.types _) stays))

      pub variable_wants : FailsFrom steps (λ (p : Place Module LoopVars). read LoopVars p) a m memory
      variable_wants = wants (λ p. done items (vars_elements_at p)) to_items

      items_begin : (rest : List Lexeme) → begin_of (yield_of items rest) ≡ begin_at a
      items_begin = g.begin_is d.derivation d.begin_is

      pub items_mean : {ys : List (Expression no_payload)} → ys ≡ xs ++ expression_of e ∷ [] → ys ≡ tree items
      items_mean h = h ∙ ap (λ x. xs ++ x ∷ []) d.means ∙ sym (g.means d.derivation)

      -- no comma comes
      pub variables_found : {b : At S} {ys : List (Expression no_payload)} (v : HeldExpr) → (is (look_at m.sight).kind kinds.Comma ≡ false) × (b ≡ m)
          → ys ≡ xs ++ expression_of e ∷ []
          → expression_of v ≡ one_or_tuple (from_to (begin_at a) b.end) ys → Found steps (λ (p : Place Module LoopVars). read LoopVars p) (begin_at a)
          (IsLoopVars v) a b
      variables_found {b = b} {ys = ys} v j h k =
          let last : (before : ℕ) → b.end ≡ end_of_last (right_side items) before = λ before. ap (λ (x : At S). x.end) j.1
          ∙ g.end_is d.derivation m.end d.end_is before in
          record {
            derivation = vars_plain items;
            means = (
              k ∙ ap (λ s. one_or_tuple s ys) (same_spans (sym (items_begin [])) (last 0)) ∙ ap (one_or_tuple (derivation_span items)) (items_mean h),
              refl,
            );
            begin_is = items_begin;
            end_is = last;
            goes = λ p. at_same j.1 (after (to_items p) (keeps (rw j.0 refl) stays));
          }

      module _ {b : At S} {c : Span} (v : Advances steps m (lexeme tokens.Comma c) b) where
        to_comma : (p : Place Module LoopVars) → Goes steps (read LoopVars p) a (after_vars_comma items c p) b
        to_comma p = after (to_items p) (takes v refl stays)

        -- an operand comes
        pub next_due : {ys : List (Expression no_payload)} → starts_operand (look_at b.sight).kind ≡ true → ys ≡ xs ++ expression_of e ∷ []
            → VariableDue steps a b ys
        next_due s h = record {
          place = λ p. comma_list_more_at of_variables items c (vars_elements_at p);
          more = λ d. comma_list_more of_variables items c d;
          means = λ d. ap (λ zs. zs ++ tree d ∷ []) (sym (items_mean h));
          begin_is = λ d k rest. items_begin _;
          end_is = λ d end k before. k c.end;
          goes = λ p. after (to_comma p) (keeps (rw s refl) stays);
          passes = λ d p y l. refl;
        }

        -- none comes
        pub no_next : {r : Answer} → starts_operand (look_at b.sight).kind ≡ false → r ≡ after_trailing_comma (begin_at a) b
            → FailsFrom steps (λ (p : Place Module LoopVars). read LoopVars p) a b r
        no_next {r = r} s h = go (is (look_at b.sight).kind kinds.Not) refl
          where
            same : from_to (begin_at a) b.end ≡ derivation_span (vars_comma items c)
            same = same_spans (sym (items_begin _)) v.end_is

            go : (x : Bool) → is (look_at b.sight).kind kinds.Not ≡ x → FailsFrom steps (λ (p : Place Module LoopVars). read LoopVars p) a b r
            go true n = due (λ p. after_vars_comma items c p) refl (h ∙ rw n refl) to_comma (λ p. rw (s, n) refl)
            go false n =
                node_fails (grammar_fault UnparenthesizedTupleTrailingComma (derivation_span (vars_comma items c))) (vars_comma items c) (λ p. p) refl
                (h ∙ rw n (ap (λ z. if (look_at b.sight).no_memory then memory else broken_rule (grammar_fault UnparenthesizedTupleTrailingComma z)) same))
                (λ p. after (to_comma p) (keeps (rw (s, n) refl) stays))
