-- The machine's paths through the arguments of a call, in the form in which the code's answers cite them.
use Rattle.std.proofs.Common.{◌≡◌, ℕ, Bool, true, false, if◌then◌else◌, List, [], ◌∷◌, ◌++◌, Option, Some, None, refl, sym, ◌∙◌, ap, subst}
use Rattle.std.proofs.Common.{option_map, unwrap_or}
use Rattle.starlark_lexer.specs.Tokens.{Span, from_to, Lexeme, lexeme}
use Rattle.starlark_lexer.specs.Tokens as tokens
use Rattle.starlark_lexer.specs.Lexer.{CodeLexeme}
use Rattle.starlark_tree.specs.Ast.{Word, Expression, expression, Argument, no_payload}
use Rattle.starlark_tree.specs.Ast as t
use Rattle.starlark_parse_held.specs.Held.{expression_of}
use Rattle.starlark_spec.specs.Trees.{at as word_of, TreeOf, tree, begin_of, end_of_last, derivation_span}
use Rattle.starlark_parse_held.specs.declared.expression.HeldExpr.{HeldExpr}
use Rattle.starlark_parse_build.specs.Suffixes.{is_name}
use Rattle.starlark_parse_cursor.proofs.Looks.{same_spans}
use Rattle.starlark_lexer.specs.declared.kind.Kind.TheVariants as kinds
use Rattle.starlark_spec.specs.Items.{Ending, at_end}
use Rattle.starlark_spec.specs.Answers.{Answer}
use Rattle.starlark_spec.specs.Grammar.{Nonterminal, Derivation, right_side, yield_of}
use Rattle.starlark_spec.specs.Grammar.Nonterminal.{Module, Test, Not, Comp, Unary, Primary, Atom, Arg, LeftAssociative}
use Rattle.starlark_spec.specs.Grammar.OperandOf.{of_or, of_and, of_bit_or, of_xor, of_bit_and, of_shift, of_add, of_multiply}
use Rattle.starlark_spec.specs.Grammar.UnarySign.{plus_sign, minus_sign, tilde_sign}
use Rattle.starlark_spec.specs.Grammar.Derivation.{module_none, test_or, left_one, not_comp, comp_one, unary_sign, unary_primary, primary_atom}
use Rattle.starlark_spec.specs.Grammar.Derivation.{primary_subscript, sub_one, sub_two, sub_slice, sub_step, atom_name, atom_round, arg_test, arg_named}
use Rattle.starlark_spec.specs.Grammar.Derivation.{arg_star, arg_stars}
use Rattle.starlark_lexer.specs.Kinds.{is}
use Rattle.starlark_spec.specs.Machine.States.{Place, State, module_root}
use Rattle.starlark_spec.specs.Machine.States.State.{read, done}
use Rattle.starlark_spec.specs.Machine.Sight.{Sight, token, ending, sight, look_at, look}
use Rattle.starlark_spec.specs.Machine.Moves.{Keep, alone, after_argument}
use Rattle.starlark_spec.specs.Machine.Faults.{Moves, ruled}
use Rattle.starlark_parse_cursor.specs.Reading.{At, Advances, begin_at}
use Rattle.starlark_parse_cursor.specs.Contract.{Goes, Goes.stays, Goes.keeps, Goes.takes, FailsFrom, Found}
use Rattle.starlark_parse.specs.Expr.Expressions.{IsTest}
use Rattle.starlark_lexer.proofs.KindTests.{is_true}
use Rattle.starlark_spec.specs.Grammar.ElementOf.{of_elements}
use Rattle.starlark_parse_cursor.proofs.TokenRuns.{token_run}
use Rattle.starlark_spec.proofs.Constructors.{not_some, not_true}
use Rattle.starlark_spec.proofs.Viable.{alone_yield}
use Rattle.starlark_parse_cursor.proofs.Paths.{after, further}

-- ---- which expressions are only a name

-- the expression that a nonterminal's tree is
abbrev value : (n : Nonterminal) → TreeOf n → Option (Expression no_payload)
value Test e = Some e
value (LeftAssociative k) e = Some e
value Not e = Some e
value Comp e = Some e
value Unary e = Some e
value Primary e = Some e
value Atom e = Some e
value _ m = None

abbrev the_name : Word → Expression no_payload
the_name name = expression name.span (t.Identifier name tt)

no_slice : {A : Type 0} {s span : Span} {e : Expression no_payload} {start stop step : t.Maybe no_payload} {name : Word}
    → Some (expression s (t.Slice e start stop step)) ≡ Some (expression span (t.Identifier name tt)) → A
no_slice h = cc

-- what is a name, and begins with one, is one token
is_alone : {n : Nonterminal} (d : Derivation n) (z : Ending) (r : List Lexeme) (span : Span) (name : Word) → (look z (yield_of d r)).kind ≡ kinds.Identifier
    → value n (tree d) ≡ Some (expression span (t.Identifier name tt)) → alone d ≡ Some name
is_alone (test_or d) z r span name h k = is_alone d z r span name h k
is_alone (left_one of_or d) z r span name h k = is_alone d z r span name h k
is_alone (left_one of_and d) z r span name h k = is_alone d z r span name h k
is_alone (left_one of_bit_or d) z r span name h k = is_alone d z r span name h k
is_alone (left_one of_xor d) z r span name h k = is_alone d z r span name h k
is_alone (left_one of_bit_and d) z r span name h k = is_alone d z r span name h k
is_alone (left_one of_shift d) z r span name h k = is_alone d z r span name h k
is_alone (left_one of_add d) z r span name h k = is_alone d z r span name h k
is_alone (left_one of_multiply d) z r span name h k = is_alone d z r span name h k
is_alone (not_comp d) z r span name h k = is_alone d z r span name h k
is_alone (comp_one d) z r span name h k = is_alone d z r span name h k
is_alone (unary_sign plus_sign s d) z r span name h k = cc
is_alone (unary_sign minus_sign s d) z r span name h k = cc
is_alone (unary_sign tilde_sign s d) z r span name h k = cc
is_alone (unary_primary d) z r span name h k = is_alone d z r span name h k
is_alone (primary_atom d) z r span name h k = is_alone d z r span name h k
is_alone (primary_subscript d o (sub_one e) c) z r span name h k = cc
is_alone (primary_subscript d o (sub_two e s f) c) z r span name h k = cc
is_alone (primary_subscript d o (sub_slice e s f) c) z r span name h k = no_slice k
is_alone (primary_subscript d o (sub_step e s f u g) c) z r span name h k = no_slice k
is_alone (atom_name text s) z r span name h k = cc
is_alone (atom_round o d c) z r span name h k = cc
is_alone d z r span name h k = not_true (ap (λ o. unwrap_or (option_map is_name o) false) k)

-- a name alone denotes that name
alone_means : {n : Nonterminal} (d : Derivation n) (name : Word) → alone d ≡ Some name → value n (tree d) ≡ Some (the_name name)
alone_means (test_or d) name h = alone_means d name h
alone_means (left_one of_or d) name h = alone_means d name h
alone_means (left_one of_and d) name h = alone_means d name h
alone_means (left_one of_bit_or d) name h = alone_means d name h
alone_means (left_one of_xor d) name h = alone_means d name h
alone_means (left_one of_bit_and d) name h = alone_means d name h
alone_means (left_one of_shift d) name h = alone_means d name h
alone_means (left_one of_add d) name h = alone_means d name h
alone_means (left_one of_multiply d) name h = alone_means d name h
alone_means (not_comp d) name h = alone_means d name h
alone_means (comp_one d) name h = alone_means d name h
alone_means (unary_primary d) name h = alone_means d name h
alone_means (primary_atom d) name h = alone_means d name h
alone_means (atom_name text s) name h = let same : word_of text s ≡ name = cc in ap (λ x. Some (the_name x)) same
alone_means d name h = not_some h

-- a place before which nothing was read
abbrev first_place : Place Module Test
first_place = Place.comma_list_one_at of_elements (Place.list_elements_at
    (Place.small_list_at (Place.smalls_one_at (Place.simple_smalls_at (Place.stmt_simple_at (Place.module_stmt_at module_none (Place.top module_root)))))))

-- an item, as the first of a list
record Shown (k : Sight) : Type 0 where
  last : Ending
  rest : List Lexeme
  shows : k ≡ sight last rest

shown : (k : Sight) → Shown k
shown (token x) = record { last = at_end; rest = x ∷ []; shows = refl }
shown (ending z) = record { last = z; rest = []; shows = refl }

-- no operator comes
abbrev Plain : {S : Type 0} → At S → At S → Type 0
Plain a n = (is (look_at a.sight).kind kinds.Star ≡ false) × (is (look_at a.sight).kind kinds.StarStar ≡ false) × (n ≡ a)

pub name_plain : {S : Type 0} (a : At S) → is (look_at a.sight).kind kinds.Identifier ≡ true → Plain a a
name_plain a h =
    let same : (look_at a.sight).kind ≡ kinds.Identifier = is_true _ _ h in
    (subst (λ x. is x kinds.Star ≡ false) (sym same) refl, subst (λ x. is x kinds.StarStar ≡ false) (sym same) refl, refl)

pub no_sign : {S : Type 0} {a m n : At S} → (is (look_at a.sight).kind kinds.Star ≡ false) × (m ≡ a) → (is (look_at m.sight).kind kinds.StarStar ≡ false)
    × (n ≡ m) → Plain a n
no_sign {S = S} f g = (f.0, subst (λ (x : At S). is (look_at x.sight).kind kinds.StarStar ≡ false) f.1 g.0, g.1 ∙ f.1)

pub same_positional : (xs : List (Argument no_payload)) {ys : List (Argument no_payload)} (s : Span) {e f : HeldExpr}
    → ys ≡ xs ++ t.Positional s (expression_of e) ∷ [] → e ≡ f → ys ≡ xs ++ t.Positional s (expression_of f) ∷ []
same_positional xs s h same = h ∙ ap (λ (y : HeldExpr). xs ++ t.Positional s (expression_of y) ∷ []) same

module _ {S : Type 0} {steps : S → Option CodeLexeme → S → Type 0} where
  -- an expression that was read begins with what was seen
  module _ {a b : At S} {begin : ℕ} {Means : Derivation Test → Type 0} (d : Found steps (λ (p : Place Module Test). read Test p) begin Means a b) where
    sees : a.sight ≡ sight (shown b.sight).last (yield_of d.derivation (shown b.sight).rest)
    sees =
        let w = token_run (d.goes first_place) in let k = shown b.sight in
        w.saw k.last k.rest k.shows ∙ ap (sight k.last) (sym (w.yields k.rest))

    pub named_alone : (span : Span) (name : Word) → is (look_at a.sight).kind kinds.Identifier ≡ true
        → tree d.derivation ≡ expression span (t.Identifier name tt) → alone d.derivation ≡ Some name
    named_alone span name h k = is_alone d.derivation (shown b.sight).last (shown b.sight).rest span name (ap (λ x. (look_at x).kind) (sym sees)
        ∙ is_true _ _ h) (ap Some k)

    pub begins_with_no_name : is (look_at a.sight).kind kinds.Identifier ≡ false → alone d.derivation ≡ None
    begins_with_no_name h = go (alone d.derivation) refl
      where
        go : (x : Option Word) → alone d.derivation ≡ x → alone d.derivation ≡ None
        go None e = e
        go (Some name) e =
            let k = shown b.sight in
            let kind_is : (look_at a.sight).kind ≡ kinds.Identifier =
            ap (λ x. (look_at x).kind) (sees ∙ ap (sight k.last) (alone_yield d.derivation name e k.rest)) in
            absurd (subst (λ x. is x kinds.Identifier ≡ false → ⊥) (sym kind_is) (λ (f : true ≡ false). cc) h)

    pub is_no_name : (e : Expression no_payload) → e ≡ tree d.derivation → is_name e ≡ false → alone d.derivation ≡ None
    is_no_name e same h = go (alone d.derivation) refl
      where
        go : (x : Option Word) → alone d.derivation ≡ x → alone d.derivation ≡ None
        go None i = i
        go (Some name) i =
            let m : Some (tree d.derivation) ≡ Some (the_name name) = alone_means d.derivation name i in
            let k : tree d.derivation ≡ the_name name = cc in
            absurd (subst (λ x. is_name x ≡ false → ⊥) (sym (same ∙ k)) (λ (f : true ≡ false). cc) h)

  -- ---- one argument

  -- an argument that was read is added
  pub added : {from : Place Module Arg → State Module} {begin : ℕ} {a b : At S} {x : Argument no_payload} (xs : List (Argument no_payload))
      {ys : List (Argument no_payload)} → ys ≡ xs ++ x ∷ []
      → Found steps from begin (λ (d : Derivation Arg). x ≡ tree d) a b → Found steps from begin (λ (d : Derivation Arg). ys ≡ xs ++ tree d ∷ []) a b
  added xs h f = record { derivation = f.derivation; means = h ∙ ap (λ y. xs ++ y ∷ []) f.means; begin_is = f.begin_is; end_is = f.end_is; goes = f.goes }

  module _ {m : At S} (s : Span) where
    pub star_fails : {b : At S} {r : Answer} → FailsFrom steps (λ (p : Place Module Test). read Test p) m b r
        → FailsFrom steps (λ (p : Place Module Arg). read Test (Place.arg_star_at s p)) m b r
    star_fails f = further (λ p. Place.arg_star_at s p) (λ p. stays) f

    pub stars_fail : {b : At S} {r : Answer} → FailsFrom steps (λ (p : Place Module Test). read Test p) m b r
        → FailsFrom steps (λ (p : Place Module Arg). read Test (Place.arg_stars_at s p)) m b r
    stars_fail f = further (λ p. Place.arg_stars_at s p) (λ p. stays) f

    module _ {b : At S} {begin from : ℕ} (e : HeldExpr) (d : Found steps (λ (p : Place Module Test). read Test p) begin (IsTest e) m b)
        (g : from ≡ s.begin) where
      pub star_found : Found steps (λ (p : Place Module Arg). read Test (Place.arg_star_at s p)) s.begin
          (λ (x : Derivation Arg). t.Star (from_to from b.end) (expression_of e) ≡ tree x) m b
      star_found = record {
        derivation = arg_star s d.derivation;
        means = ap (λ y. t.Star y (expression_of e)) (same_spans g (d.end_is s.end))
            ∙ ap (t.Star (from_to s.begin (end_of_last (right_side d.derivation) s.end))) d.means;
        begin_is = λ rest. refl;
        end_is = λ before. d.end_is s.end;
        goes = λ p. after (d.goes (Place.arg_star_at s p)) (keeps refl stays);
      }

      pub stars_found : Found steps (λ (p : Place Module Arg). read Test (Place.arg_stars_at s p)) s.begin
          (λ (x : Derivation Arg). t.StarStar (from_to from b.end) (expression_of e) ≡ tree x) m b
      stars_found = record {
        derivation = arg_stars s d.derivation;
        means = ap (λ y. t.StarStar y (expression_of e)) (same_spans g (d.end_is s.end))
            ∙ ap (t.StarStar (from_to s.begin (end_of_last (right_side d.derivation) s.end))) d.means;
        begin_is = λ rest. refl;
        end_is = λ before. d.end_is s.end;
        goes = λ p. after (d.goes (Place.arg_stars_at s p)) (keeps refl stays);
      }

  -- an argument that does not begin with an operator
  module _ {a n : At S} (plain : Plain a n) where
    to_test : (p : Place Module Arg) → Goes steps (read Arg p) a (read Test (Place.arg_test_at p)) n
    to_test p = subst (λ x. Goes steps (read Arg p) a (read Test (Place.arg_test_at p)) x) (sym plain.2) (keeps (rw (plain.0, plain.1) refl) stays)

    pub argument_fails : {b : At S} {r : Answer} → FailsFrom steps (λ (p : Place Module Test). read Test p) n b r
        → FailsFrom steps (λ (p : Place Module Arg). read Arg p) a b r
    argument_fails f = further (λ p. Place.arg_test_at p) to_test f

    module _ {q : At S} (e : Expression no_payload) (d : Found steps (λ (p : Place Module Test). read Test p) (begin_at n)
        (λ (x : Derivation Test). e ≡ tree x) n q) where
      begins : (rest : List Lexeme) → begin_of (yield_of d.derivation rest) ≡ begin_at a
      begins rest = d.begin_is rest ∙ ap begin_at plain.2

      positional : {from : ℕ} → ((p : Place Module Arg) → ruled q.types (done d.derivation (Place.arg_test_at p)) (look_at q.sight)
          ≡ Moves (Keep (done (arg_test d.derivation) p))) → from ≡ begin_at n
          → Found steps (λ (p : Place Module Arg). read Arg p) (begin_at a) (λ (x : Derivation Arg). t.Positional (from_to from q.end) e ≡ tree x) a q
      positional moves g = record {
        derivation = arg_test d.derivation;
        means = ap (λ y. t.Positional y e) (same_spans (g ∙ sym (d.begin_is [])) (d.end_is 0)) ∙ ap (t.Positional (derivation_span d.derivation)) d.means;
        begin_is = begins;
        end_is = d.end_is;
        goes = λ p. after (to_test p) (after (d.goes (Place.arg_test_at p)) (keeps (moves p) stays));
      }

      -- no `=` comes
      pub no_equal : {from : ℕ} → is (look_at q.sight).kind kinds.Equal ≡ false → from ≡ begin_at n
          → Found steps (λ (p : Place Module Arg). read Arg p) (begin_at a) (λ (x : Derivation Arg). t.Positional (from_to from q.end) e ≡ tree x) a q
      no_equal k g = positional (λ p. rw k refl) g

      -- one may come, but not after only a name
      pub no_name_alone : {from : ℕ} → alone d.derivation ≡ None → from ≡ begin_at n
          → Found steps (λ (p : Place Module Arg). read Arg p) (begin_at a) (λ (x : Derivation Arg). t.Positional (from_to from q.end) e ≡ tree x) a q
      no_name_alone k g = positional (λ p. ap (λ m. Moves m) (go p (is (look_at q.sight).kind kinds.Equal))) g
        where
          go : (p : Place Module Arg) (c : Bool) → (if c then after_argument d.derivation p (look_at q.sight).first.span (alone d.derivation) else Keep
              (done (arg_test d.derivation) p)) ≡ Keep (done (arg_test d.derivation) p)
          go p true = ap (after_argument d.derivation p (look_at q.sight).first.span) k
          go p false = refl

      module _ {u : At S} {i : Span} (name : Word) (k : alone d.derivation ≡ Some name) (v : Advances steps q (lexeme tokens.Equal i) u) where
        to_value : (p : Place Module Arg) → Goes steps (read Arg p) a (read Test (Place.arg_named_at name.text name.span i p)) u
        to_value p = after (to_test p) (after (d.goes (Place.arg_test_at p)) (takes v (ap (λ o. Moves (after_argument d.derivation p i o)) k) stays))

        pub named_fails : {b : At S} {r : Answer} → FailsFrom steps (λ (p : Place Module Test). read Test p) u b r
            → FailsFrom steps (λ (p : Place Module Arg). read Arg p) a b r
        named_fails f = further (λ p. Place.arg_named_at name.text name.span i p) to_value f

        pub named_found : {b : At S} {begin from : ℕ} (f : Expression no_payload) → Found steps (λ (p : Place Module Test). read Test p) begin
            (λ (x : Derivation Test). f ≡ tree x) u b → from ≡ begin_at n
            → Found steps (λ (p : Place Module Arg). read Arg p) (begin_at a) (λ (x : Derivation Arg). t.Named (from_to from b.end) name f ≡ tree x) a b
        named_found f g j =
            let first : name.span.begin ≡ begin_of (yield_of d.derivation []) = sym (ap (λ ls. begin_of ls) (alone_yield d.derivation name k [])) in record {
              derivation = arg_named name.text name.span i g.derivation;
              means = ap (λ y. t.Named y name f) (same_spans (j ∙ sym (first ∙ d.begin_is [])) (g.end_is i.end))
                  ∙ ap (t.Named (from_to name.span.begin (end_of_last (right_side g.derivation) i.end)) name) g.means;
              begin_is = λ rest. first ∙ begins [];
              end_is = λ before. g.end_is i.end;
              goes = λ p. after (to_value p) (after (g.goes (Place.arg_named_at name.text name.span i p)) (keeps refl stays));
            }
