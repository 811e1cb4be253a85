-- The machine's paths through the suffixes of an operand, in the form in which the code's answers cite them.
use Rattle.std.proofs.Common.{◌≡◌, ℕ, true, false, List, ◌∷◌, Option, None, Result, Ok, Err, refl, sym, ◌∙◌, ap, subst}
use Rattle.starlark_lexer.specs.Tokens.{Span, from_to, span_of, Lexeme, lexeme}
use Rattle.starlark_lexer.specs.Tokens as tokens
use Rattle.starlark_lexer.specs.Lexer.{CodeLexeme}
use Rattle.starlark_tree.specs.Ast.{Expression, expression, expression_span, Argument, Maybe, absent, present, no_payload}
use Rattle.starlark_tree.specs.Ast as t
use Rattle.starlark_tree.specs.Views.{word}
use Rattle.starlark_parse_held.specs.Held.{expression_of, maybe_of}
use Rattle.starlark_spec.specs.Trees.{called, tree, begin_of, end_of_last, subscripted}
use Rattle.starlark_parse_held.specs.declared.expression.HeldExpr.{HeldExpr}
use Rattle.starlark_parse_build.specs.Suffixes.{with_suffix}
use Rattle.starlark_lexer.specs.declared.kind.Kind.{Kind}
use Rattle.starlark_lexer.specs.declared.kind.Kind.TheVariants as kinds
use Rattle.starlark_parse_build.specs.declared.suffix.Suffix.{Suffix}
use Rattle.starlark_parse_build.specs.declared.suffix.Suffix.TheVariants as suffixes
use Rattle.starlark_spec.specs.declared.refusal.Refusal.{Refusal}
use Rattle.starlark_spec.specs.Answers.{Answer}
use Rattle.starlark_spec.specs.Answers.Answer.{memory}
use Rattle.starlark_spec.specs.Grammar.{Derivation, right_side, yield_of}
use Rattle.starlark_spec.specs.Grammar.Nonterminal.{Module, Test, Primary, Atom, Sub, Bound, OptionalList}
use Rattle.starlark_spec.specs.Grammar.ElementKind.{arguments}
use Rattle.starlark_spec.specs.Grammar.Derivation.{primary_atom, primary_dot, primary_subscript, primary_call, sub_one, sub_two, sub_slice, sub_step}
use Rattle.starlark_spec.specs.Grammar.Derivation.{bound_none, bound_test}
use Rattle.starlark_lexer.specs.Kinds.{is}
use Rattle.starlark_spec.specs.Machine.States.{Place, State, Place.primary_atom_at, Place.primary_subscript_at, Place.primary_call_at, Place.sub_first_at}
use Rattle.starlark_spec.specs.Machine.States.{Place.sub_two_at, Place.sub_stop_at, Place.sub_step_at, Place.bound_test_at}
use Rattle.starlark_spec.specs.Machine.States.State.{read, done, primary_tail, name_due, colon_due, subscript_due, call_due}
use Rattle.starlark_spec.specs.Machine.Sight.{token, look_at}
use Rattle.starlark_spec.specs.Machine.Firsts.{starts_test}
use Rattle.starlark_spec.specs.Machine.Moves.{Take}
use Rattle.starlark_spec.specs.Machine.Faults.{Moves, ruled}
use Rattle.starlark_parse_cursor.specs.Reading.{At, Advances, begin_at, stop_at}
use Rattle.starlark_parse_cursor.specs.Contract.{Goes, Goes.stays, Goes.keeps, Goes.takes, FailsFrom, Found, Parses, CodeName, starts_suffix}
use Rattle.starlark_parse_cursor.specs.Contract.{FoundOptionalList, FoundPerhaps}
use Rattle.starlark_parse.specs.Expr.Expressions.{IsTest, IsPrimary, IsAtom, IsSub}
use Rattle.starlark_parse.specs.Expr.Contract.{Suffixed, FoundAfter, ParsesAfter, FoundSlice, ParsesSlice}
use Rattle.starlark_parse_cursor.proofs.Paths.{after, further, due, begin_seen, wants}
use Rattle.starlark_spec.proofs.Constructors.{not_false, not_true}

no_dot : (k : Kind) → starts_suffix k ≡ false → is k kinds.Dot ≡ false
no_dot kinds.Dot h = cc
no_dot k h = refl

no_square : (k : Kind) → starts_suffix k ≡ false → is k kinds.OpeningSquare ≡ false
no_square kinds.OpeningSquare h = cc
no_square k h = refl

no_round : (k : Kind) → starts_suffix k ≡ false → is k kinds.OpeningRound ≡ false
no_round kinds.OpeningRound h = cc
no_round k h = refl

no_other : (k : Kind) → starts_suffix k ≡ true → is k kinds.Dot ≡ false → is k kinds.OpeningRound ≡ false → is k kinds.OpeningSquare ≡ false → ⊥
no_other kinds.Dot h f g i = not_false f
no_other kinds.OpeningRound h f g i = not_false g
no_other kinds.OpeningSquare h f g i = not_false i
no_other k h f g i = not_true h

-- if a suffix comes, it is one of the three
pub some_suffix : {S : Type 0} {a m n : At S} → starts_suffix (look_at a.sight).kind ≡ true → (is (look_at a.sight).kind kinds.OpeningRound ≡ false) × (m ≡ a)
    → (is (look_at m.sight).kind kinds.Dot ≡ false) × (n ≡ m) → is (look_at n.sight).kind kinds.OpeningSquare ≡ false → ⊥
some_suffix {S = S} {a = a} h f g i =
    no_other (look_at a.sight).kind h (subst (λ (x : At S). is (look_at x.sight).kind kinds.Dot ≡ false) f.1 g.0) f.0
    (subst (λ (x : At S). is (look_at x.sight).kind kinds.OpeningSquare ≡ false) (g.1 ∙ f.1) i)

-- a bound that is read
abbrev pub FoundBound : {S : Type 0} → (S → Option CodeLexeme → S → Type 0) → Maybe no_payload → At S → At S → Type 0
FoundBound steps v a b = FoundPerhaps steps (λ (d : Derivation Bound). v ≡ tree d) a b

-- an operand and its place
abbrev Operand : Type 0
Operand = Derivation Primary × Place Module Primary

-- where a slice starts, its first colon, and its place
abbrev Start : Type 0
Start = Derivation Bound × Span × Place Module Sub

-- the operand with a suffix, if the operand means the same as a derivation
with_suffix_is : {e f : Expression no_payload} (end : ℕ) (v : Suffix) (more : Derivation Primary → Derivation Primary)
    → f ≡ with_suffix (from_to (expression_span e).begin end) e v
    → ((d : Derivation Primary) → with_suffix (from_to (expression_span (tree d)).begin end) (tree d) v ≡ tree (more d)) → (d : Derivation Primary)
    → e ≡ tree d → f ≡ tree (more d)
with_suffix_is end v more k h d g = k ∙ ap (λ x. with_suffix (from_to (expression_span x).begin end) x v) g ∙ h d

module _ {S : Type 0} {steps : S → Option CodeLexeme → S → Type 0} where
  -- ---- an operand and its suffixes

  pub atom_fails : {a b : At S} {r : Answer} → FailsFrom steps (λ (p : Place Module Atom). read Atom p) a b r
      → FailsFrom steps (λ (p : Place Module Primary). read Primary p) a b r
  atom_fails f = further (λ p. primary_atom_at p) (λ p. keeps refl stays) f

  pub atom_read : {a b : At S} (e : HeldExpr) → Found steps (λ (p : Place Module Atom). read Atom p) (begin_at a) (IsAtom e) a b
      → Suffixed steps a b (expression_of e)
  atom_read e d = record {
    derivation = primary_atom d.derivation;
    means = d.means;
    begin_is = d.begin_is;
    end_is = d.end_is;
    goes = λ p. keeps refl (after (d.goes (primary_atom_at p)) (keeps refl stays));
  }

  pub suffix_fails : {a q b : At S} {e : Expression no_payload} {r : Answer} → Suffixed steps a q e
      → FailsFrom steps (λ (i : Operand). primary_tail i.0 i.1) q b r → FailsFrom steps (λ (p : Place Module Primary). read Primary p) a b r
  suffix_fails g f = let q : Place Module Primary → Operand = λ p. (g.derivation, p) in further q g.goes f

  pub suffix_read : {a q b : At S} {e f : Expression no_payload} → Suffixed steps a q e → FoundAfter steps (λ d p. primary_tail d p) e f q b
      → Suffixed steps a b f
  suffix_read g x = record {
    derivation = x.derivation g.derivation;
    means = x.means g.derivation g.means;
    begin_is = λ rest. let m = x.goes_on g.derivation rest in ap begin_of m.1 ∙ g.begin_is m.0;
    end_is = x.end_is g.derivation;
    goes = λ p. after (g.goes p) (x.goes g.derivation p);
  }

  -- no suffix comes
  pub past_suffixes : {b : At S} (d : Derivation Primary) (p : Place Module Primary) → starts_suffix (look_at b.sight).kind ≡ false
      → Goes steps (primary_tail d p) b (done d p) b
  past_suffixes {b = b} d p h = keeps (rw (no_dot (look_at b.sight).kind h, no_square (look_at b.sight).kind h, no_round (look_at b.sight).kind h) refl) stays

  pub suffixed_found : {a b : At S} (e : HeldExpr) → Suffixed steps a b (expression_of e) → starts_suffix (look_at b.sight).kind ≡ false
      → Found steps (λ (p : Place Module Primary). read Primary p) (begin_at a) (IsPrimary e) a b
  suffixed_found {b = b} e g h = record {
    derivation = g.derivation;
    means = g.means;
    begin_is = g.begin_is;
    end_is = g.end_is;
    goes = λ p. after (g.goes p) (past_suffixes g.derivation p h);
  }

  -- ---- one suffix

  -- what is read after a token that comes after an operand
  pub into_suffix : {from : Derivation Primary → Place Module Primary → State Module} {a m q : At S} {x : Lexeme} (b : At S) (operand : HeldExpr)
      (r : Result HeldExpr Refusal) → m ≡ a → Advances steps m x q
      → ((d : Derivation Primary) (p : Place Module Primary) → ruled m.types (primary_tail d p) (look_at (token x)) ≡ Moves (Take (from d p)))
      → ParsesAfter steps from operand q r b
      → ParsesAfter steps (λ d p. primary_tail d p) operand a r b
  into_suffix {from = from} b operand (Ok e) same v moves f = record {
    derivation = f.derivation;
    means = f.means;
    goes_on = f.goes_on;
    end_is = f.end_is;
    goes = λ d p. subst (λ x. Goes steps (primary_tail d p) x (primary_tail (f.derivation d) p) b) same (takes v (moves d p) (f.goes d p));
  }
  into_suffix {from = from} {q = q} b operand (Err e) same v moves f =
      further (λ (i : Operand). i) (λ i. subst (λ x. Goes steps (primary_tail i.0 i.1) x (from i.0 i.1) q) same (takes v (moves i.0 i.1) stays)) f

  module _ {m : At S} (s : Span) where
    pub no_name : {b : At S} {r : Answer} → (is (look_at m.sight).kind kinds.Identifier ≡ false) × (r ≡ stop_at b) × (b ≡ m)
        → FailsFrom steps (λ (i : Operand). name_due i.0 s i.1) m b r
    no_name k = due (λ (i : Operand). name_due i.0 s i.1) k.2 k.1 (λ i. stays) (λ i. rw k.0 refl)

    module _ {b : At S} (name : CodeName) (x : Advances steps m (lexeme (tokens.Identifier (word name).text) (span_of name.span)) b) where
      pub attribute_wants : FailsFrom steps (λ (i : Operand). name_due i.0 s i.1) m b memory
      attribute_wants = wants (λ (i : Operand). primary_tail (primary_dot i.0 s (word name).text (span_of name.span)) i.1) (λ i. takes x refl stays)

      pub attribute_found : {e f : Expression no_payload} → f ≡ with_suffix (from_to (expression_span e).begin b.end) e (suffixes.Attribute name)
          → FoundAfter steps (λ d p. name_due d s p) e f m b
      attribute_found k = record {
        derivation = λ d. primary_dot d s (word name).text (span_of name.span);
        means = with_suffix_is b.end (suffixes.Attribute name) (λ d. primary_dot d s (word name).text (span_of name.span)) k
            (λ d. ap (λ y. expression (from_to (expression_span (tree d)).begin y) (t.Dot (tree d) (word name))) x.end_is);
        goes_on = λ d rest. (lexeme tokens.Dot s ∷ lexeme (tokens.Identifier (word name).text) (span_of name.span) ∷ rest, refl);
        end_is = λ d before. x.end_is;
        goes = λ d p. takes x refl stays;
      }

  module _ {q : At S} (o : Span) where
    pub subscript_fails : {b : At S} {r : Answer} → FailsFrom steps (λ (p : Place Module Sub). read Sub p) q b r
        → FailsFrom steps (λ (i : Operand). read Sub (primary_subscript_at i.0 o i.1)) q b r
    subscript_fails f = further (λ (i : Operand). primary_subscript_at i.0 o i.1) (λ i. stays) f

    module _ {n : At S} {begin : ℕ} (v : Suffix) (f : Found steps (λ (p : Place Module Sub). read Sub p) begin (IsSub v) q n) where
      to_closing : (d : Derivation Primary) (p : Place Module Primary) → Goes steps (read Sub (primary_subscript_at d o p)) q
          (subscript_due d o f.derivation p) n
      to_closing d p = after (f.goes (primary_subscript_at d o p)) (keeps refl stays)

      pub no_closing : {b : At S} {r : Answer} → (is (look_at n.sight).kind kinds.ClosingSquare ≡ false) × (r ≡ stop_at b) × (b ≡ n)
          → FailsFrom steps (λ (i : Operand). read Sub (primary_subscript_at i.0 o i.1)) q b r
      no_closing k = due (λ (i : Operand). subscript_due i.0 o f.derivation i.1) k.2 k.1 (λ i. to_closing i.0 i.1) (λ i. rw k.0 refl)

      module _ {b : At S} {c : Span} (w : Advances steps n (lexeme tokens.ClosingSquare c) b) where
        to_subscript : (d : Derivation Primary) (p : Place Module Primary) → Goes steps (read Sub (primary_subscript_at d o p)) q
            (primary_tail (primary_subscript d o f.derivation c) p) b
        to_subscript d p = after (to_closing d p) (takes w refl stays)

        pub subscript_wants : FailsFrom steps (λ (i : Operand). read Sub (primary_subscript_at i.0 o i.1)) q b memory
        subscript_wants = wants (λ (i : Operand). primary_tail (primary_subscript i.0 o f.derivation c) i.1) (λ i. to_subscript i.0 i.1)

        pub subscript_found : {e g : Expression no_payload} → g ≡ with_suffix (from_to (expression_span e).begin b.end) e v
            → FoundAfter steps (λ d p. read Sub (primary_subscript_at d o p)) e g q b
        subscript_found k = record {
          derivation = λ d. primary_subscript d o f.derivation c;
          means = with_suffix_is b.end v (λ d. primary_subscript d o f.derivation c) k
              (λ d. f.means (from_to (expression_span (tree d)).begin b.end) (tree d)
              ∙ ap (λ y. subscripted (from_to (expression_span (tree d)).begin y) (tree d) (tree f.derivation)) w.end_is);
          goes_on = λ d rest. (lexeme tokens.OpeningSquare o ∷ yield_of f.derivation (lexeme tokens.ClosingSquare c ∷ rest), refl);
          end_is = λ d before. w.end_is;
          goes = to_subscript;
        }

  module _ {q : At S} (o : Span) where
    pub arguments_fail : {b : At S} {r : Answer} → FailsFrom steps (λ (p : Place Module (OptionalList arguments)). read (OptionalList arguments) p) q b r
        → FailsFrom steps (λ (i : Operand). read (OptionalList arguments) (primary_call_at i.0 o i.1)) q b r
    arguments_fail f = further (λ (i : Operand). primary_call_at i.0 o i.1) (λ i. stays) f

    module _ {n : At S} {xs : List (Argument no_payload)} (f : FoundOptionalList steps {k = arguments} (λ d. xs ≡ tree d) q n) where
      to_call_end : (d : Derivation Primary) (p : Place Module Primary) → Goes steps (read (OptionalList arguments) (primary_call_at d o p)) q
          (call_due d o f.derivation p) n
      to_call_end d p = after (f.goes (primary_call_at d o p)) (keeps refl stays)

      pub call_open : {b : At S} {r : Answer} → (is (look_at n.sight).kind kinds.ClosingRound ≡ false) × (r ≡ stop_at b) × (b ≡ n)
          → FailsFrom steps (λ (i : Operand). read (OptionalList arguments) (primary_call_at i.0 o i.1)) q b r
      call_open k = due (λ (i : Operand). call_due i.0 o f.derivation i.1) k.2 k.1 (λ i. to_call_end i.0 i.1) (λ i. rw k.0 refl)

      module _ {b : At S} {c : Span} (w : Advances steps n (lexeme tokens.ClosingRound c) b) where
        to_call : (d : Derivation Primary) (p : Place Module Primary) → Goes steps (read (OptionalList arguments) (primary_call_at d o p)) q
            (primary_tail (primary_call d o f.derivation c) p) b
        to_call d p = after (to_call_end d p) (takes w refl stays)

        pub call_wants : FailsFrom steps (λ (i : Operand). read (OptionalList arguments) (primary_call_at i.0 o i.1)) q b memory
        call_wants = wants (λ (i : Operand). primary_tail (primary_call i.0 o f.derivation c) i.1) (λ i. to_call i.0 i.1)

        pub call_found : {e g : Expression no_payload} → g ≡ called (from_to (expression_span e).begin b.end) e xs
            → FoundAfter steps (λ d p. read (OptionalList arguments) (primary_call_at d o p)) e g q b
        call_found {e = e} k = record {
          derivation = λ d. primary_call d o f.derivation c;
          means = λ d h. k ∙ ap (λ x. called (from_to (expression_span x).begin b.end) x xs) h
              ∙ ap (called (from_to (expression_span (tree d)).begin b.end) (tree d)) f.means
              ∙ ap (λ y. called (from_to (expression_span (tree d)).begin y) (tree d) (tree f.derivation)) w.end_is;
          goes_on = λ d rest. (lexeme tokens.OpeningRound o ∷ yield_of f.derivation (lexeme tokens.ClosingRound c ∷ rest), refl);
          end_is = λ d before. w.end_is;
          goes = to_call;
        }

  -- ---- what is in the square brackets

  -- a subscript that begins with an expression
  module _ {a : At S} (h : starts_test (look_at a.sight).kind ≡ true) where
    to_first : (p : Place Module Sub) → Goes steps (read Sub p) a (read Test (sub_first_at p)) a
    to_first p = keeps (rw h refl) stays

    pub index_fails : {b : At S} {r : Answer} → FailsFrom steps (λ (p : Place Module Test). read Test p) a b r
        → FailsFrom steps (λ (p : Place Module Sub). read Sub p) a b r
    index_fails f = further (λ p. sub_first_at p) to_first f

    module _ {q : At S} (e : HeldExpr) (d : Found steps (λ (p : Place Module Test). read Test p) (begin_at a) (IsTest e) a q) where
      first_read : (p : Place Module Sub) → Goes steps (read Sub p) a (done d.derivation (sub_first_at p)) q
      first_read p = after (to_first p) (d.goes (sub_first_at p))

      module _ {m : At S} {c : Span} (v : Advances steps q (lexeme tokens.Comma c) m) where
        to_second : (p : Place Module Sub) → Goes steps (read Sub p) a (read Test (sub_two_at d.derivation c p)) m
        to_second p = after (first_read p) (takes v refl stays)

        pub second_fails : {b : At S} {r : Answer} → FailsFrom steps (λ (p : Place Module Test). read Test p) m b r
            → FailsFrom steps (λ (p : Place Module Sub). read Sub p) a b r
        second_fails f = further (λ p. sub_two_at d.derivation c p) to_second f

        pub two_found : {b : At S} {begin : ℕ} (f : HeldExpr) → Found steps (λ (p : Place Module Test). read Test p) begin (IsTest f) m b
            → Found steps (λ (p : Place Module Sub). read Sub p) (begin_at a) (IsSub (suffixes.Index2 e f)) a b
        two_found f k = record {
          derivation = sub_two d.derivation c k.derivation;
          means = λ span x. ap (λ y. expression span (t.Index2 x y (expression_of f))) d.means
              ∙ ap (λ y. expression span (t.Index2 x (tree d.derivation) y)) k.means;
          begin_is = λ rest. d.begin_is _;
          end_is = λ before. k.end_is c.end;
          goes = λ p. after (to_second p) (after (k.goes (sub_two_at d.derivation c p)) (keeps refl stays));
        }

      module _ {m : At S} (no_comma : (is (look_at q.sight).kind kinds.Comma ≡ false) × (m ≡ q)) where
        pub index_found : {b : At S} → (is (look_at m.sight).kind kinds.Colon ≡ false) × (b ≡ m) → Found steps (λ (p : Place Module Sub). read Sub p)
            (begin_at a) (IsSub (suffixes.Index e)) a b
        index_found k =
            let no_colon : is (look_at q.sight).kind kinds.Colon ≡ false = subst (λ (x : At S). is (look_at x.sight).kind kinds.Colon ≡ false) no_comma.1 k.0 in
            let same = k.1 ∙ no_comma.1 in record {
              derivation = sub_one d.derivation;
              means = λ span x. ap (λ y. expression span (t.Index x y)) d.means;
              begin_is = λ rest. d.begin_is rest;
              end_is = λ before. ap (λ (x : At S). x.end) same ∙ d.end_is before;
              goes = λ p. subst (λ x. Goes steps (read Sub p) a (done (sub_one d.derivation) p) x) (sym same)
                  (after (first_read p) (keeps (rw (no_comma.0, no_colon) refl) stays));
            }

        module _ {n : At S} {c : Span} (v : Advances steps m (lexeme tokens.Colon c) n) where
          to_stop : (p : Place Module Sub) → Goes steps (read Sub p) a (read Bound (sub_stop_at (bound_test d.derivation) c p)) n
          to_stop p = after (first_read p) (subst (λ x. Goes steps (done d.derivation (sub_first_at p)) x
              (read Bound (sub_stop_at (bound_test d.derivation) c p)) n) no_comma.1 (takes v refl stays))

          pub slice_after : (b : At S) (start : Maybe no_payload) (r : Result Suffix Refusal) → start ≡ present (expression_of e)
              → ParsesSlice steps start n r b → Parses steps Sub IsSub a r b
          slice_after b start (Ok x) k f = record {
            derivation = f.derivation (bound_test d.derivation) c;
            means = f.means (bound_test d.derivation) c (k ∙ ap present d.means);
            begin_is = λ rest. let l = f.goes_on (bound_test d.derivation) c rest in ap begin_of l.1 ∙ d.begin_is (lexeme tokens.Colon c ∷ l.0);
            end_is = λ before. f.end_is (bound_test d.derivation) c before v.end_is;
            goes = λ p. after (to_stop p) (f.goes (bound_test d.derivation) c p);
          }
          slice_after b start (Err x) k f = let z : Place Module Sub → Start = λ p. (bound_test d.derivation, c, p) in further z to_stop f

  -- a subscript that begins with a colon
  module _ {a : At S} (h : starts_test (look_at a.sight).kind ≡ false) where
    to_colon : (p : Place Module Sub) → Goes steps (read Sub p) a (colon_due bound_none p) a
    to_colon p = keeps (rw h refl) stays

    pub no_colon : {b : At S} {r : Answer} → (is (look_at a.sight).kind kinds.Colon ≡ false) × (r ≡ stop_at b) × (b ≡ a)
        → FailsFrom steps (λ (p : Place Module Sub). read Sub p) a b r
    no_colon k = due (λ p. colon_due bound_none p) k.2 k.1 to_colon (λ p. rw k.0 refl)

    module _ {m : At S} {c : Span} (v : Advances steps a (lexeme tokens.Colon c) m) where
      past_colon : (p : Place Module Sub) → Goes steps (read Sub p) a (read Bound (sub_stop_at bound_none c p)) m
      past_colon p = after (to_colon p) (takes v refl stays)

      pub slice_without : (b : At S) (start : Maybe no_payload) (r : Result Suffix Refusal) → start ≡ absent → ParsesSlice steps start m r b
          → Parses steps Sub IsSub a r b
      slice_without b start (Ok x) k f = record {
        derivation = f.derivation bound_none c;
        means = f.means bound_none c k;
        begin_is = λ rest. let l = f.goes_on bound_none c rest in ap begin_of l.1 ∙ begin_seen v;
        end_is = λ before. f.end_is bound_none c before v.end_is;
        goes = λ p. after (past_colon p) (f.goes bound_none c p);
      }
      slice_without b start (Err x) k f = let z : Place Module Sub → Start = λ p. (bound_none, c, p) in further z past_colon f

  -- ---- bounds

  pub bound_absent : {a : At S} → starts_test (look_at a.sight).kind ≡ false → FoundBound steps absent a a
  bound_absent h = record { derivation = bound_none; means = refl; end_is = refl; goes = λ p. keeps (rw h refl) stays }

  pub bound_fails : {a b : At S} {r : Answer} → starts_test (look_at a.sight).kind ≡ true → FailsFrom steps (λ (p : Place Module Test). read Test p) a b r
      → FailsFrom steps (λ (p : Place Module Bound). read Bound p) a b r
  bound_fails h f = further (λ p. bound_test_at p) (λ p. keeps (rw h refl) stays) f

  pub bound_found : {a b : At S} {begin : ℕ} {v : Maybe no_payload} (e : HeldExpr) → starts_test (look_at a.sight).kind ≡ true
      → Found steps (λ (p : Place Module Test). read Test p) begin (IsTest e) a b → v ≡ present (expression_of e) → FoundBound steps v a b
  bound_found {a = a} e h d k = record {
    derivation = bound_test d.derivation;
    means = k ∙ ap present d.means;
    end_is = d.end_is a.end;
    goes = λ p. keeps (rw h refl) (after (d.goes (bound_test_at p)) (keeps refl stays));
  }

  -- ---- slices, after their first colon

  pub stop_fails : {a b : At S} {r : Answer} → FailsFrom steps (λ (p : Place Module Bound). read Bound p) a b r
      → FailsFrom steps (λ (i : Start). read Bound (sub_stop_at i.0 i.1 i.2)) a b r
  stop_fails f = further (λ (i : Start). sub_stop_at i.0 i.1 i.2) (λ i. stays) f

  module _ {a q : At S} (start stop : Option HeldExpr) (y : FoundBound steps (maybe_of stop) a q) where
    stop_read : (d : Derivation Bound) (c : Span) (p : Place Module Sub) → Goes steps (read Bound (sub_stop_at d c p)) a
        (done y.derivation (sub_stop_at d c p)) q
    stop_read d c p = y.goes (sub_stop_at d c p)

    pub stop_found : {b : At S} → (is (look_at q.sight).kind kinds.Colon ≡ false) × (b ≡ q)
        → FoundSlice steps (maybe_of start) (suffixes.Slice start stop None) a b
    stop_found k = record {
      derivation = λ d c. sub_slice d c y.derivation;
      means = λ d c h span e. ap (λ x. expression span (t.Slice e x (maybe_of stop) absent)) h
          ∙ ap (λ x. expression span (t.Slice e (tree d) x absent)) y.means;
      goes_on = λ d c rest. (yield_of y.derivation rest, refl);
      end_is = λ d c before h. ap (λ (x : At S). x.end) k.1 ∙ y.end_is ∙ ap (end_of_last (right_side y.derivation)) h;
      goes = λ d c p. subst (λ x. Goes steps (read Bound (sub_stop_at d c p)) a (done (sub_slice d c y.derivation) p) x) (sym k.1)
          (after (stop_read d c p) (keeps (rw k.0 refl) stays));
    }

    module _ {m : At S} {s : Span} (v : Advances steps q (lexeme tokens.Colon s) m) where
      to_step : (d : Derivation Bound) (c : Span) (p : Place Module Sub) → Goes steps (read Bound (sub_stop_at d c p)) a
          (read Bound (sub_step_at d c y.derivation s p)) m
      to_step d c p = after (stop_read d c p) (takes v refl stays)

      pub step_fails : {b : At S} {r : Answer} → FailsFrom steps (λ (p : Place Module Bound). read Bound p) m b r
          → FailsFrom steps (λ (i : Start). read Bound (sub_stop_at i.0 i.1 i.2)) a b r
      step_fails f = further (λ (i : Start). sub_step_at i.0 i.1 y.derivation s i.2) (λ i. to_step i.0 i.1 i.2) f

      pub step_found : {b : At S} (step : Option HeldExpr) → FoundBound steps (maybe_of step) m b
          → FoundSlice steps (maybe_of start) (suffixes.Slice start stop step) a b
      step_found step z = record {
        derivation = λ d c. sub_step d c y.derivation s z.derivation;
        means = λ d c h span e. ap (λ x. expression span (t.Slice e x (maybe_of stop) (maybe_of step))) h
            ∙ ap (λ x. expression span (t.Slice e (tree d) x (maybe_of step))) y.means ∙ ap (λ x. expression span (t.Slice e (tree d) (tree y.derivation) x))
            z.means;
        goes_on = λ d c rest. (yield_of y.derivation (lexeme tokens.Colon s ∷ yield_of z.derivation rest), refl);
        end_is = λ d c before h. z.end_is ∙ ap (end_of_last (right_side z.derivation)) v.end_is;
        goes = λ d c p. after (to_step d c p) (after (z.goes (sub_step_at d c y.derivation s p)) (keeps refl stays));
      }
