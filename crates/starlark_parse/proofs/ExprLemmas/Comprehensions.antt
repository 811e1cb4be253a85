-- The machine's paths through comprehensions, in the form in which the code's answers cite them.
use Rattle.std.proofs.Common.{◌≡◌, ℕ, true, false, List, [], ◌∷◌, ◌++◌, Option, None, refl, sym, ◌∙◌, ap, subst}
use Rattle.starlark_lexer.specs.Tokens.{Span, from_to, Lexeme, lexeme}
use Rattle.starlark_lexer.specs.Tokens as tokens
use Rattle.starlark_lexer.specs.Lexer.{CodeLexeme}
use Rattle.starlark_tree.specs.Ast as t
use Rattle.starlark_lexer.specs.declared.kind.Kind.TheVariants as kinds
use Rattle.starlark_spec.specs.Answers.{Answer}
use Rattle.starlark_spec.specs.Answers.Answer.{memory}
use Rattle.starlark_spec.specs.Grammar.{Derivation, right_side, yield_of}
use Rattle.starlark_spec.specs.Grammar.ElementKind.{elements, entries}
use Rattle.starlark_spec.specs.Grammar.PrecedenceLevel.{or_precedence}
use Rattle.starlark_spec.specs.Grammar.Nonterminal.{Module, LeftAssociative, LoopVars, ForClause, Clauses, Atom, OptionalList}
use Rattle.starlark_spec.specs.Grammar.Derivation.{for_clause, clauses_one, clauses_for, clauses_if, atom_list_comprehension, atom_dict_comprehension}
use Rattle.starlark_spec.specs.Targets.{target}
use Rattle.starlark_spec.specs.Trees.{Comprehended, tree, begin_of, end_of_last, target_of, list_comprehension, dict_comprehension}
use Rattle.starlark_lexer.specs.Kinds.{is}
use Rattle.starlark_spec.specs.Machine.States.{Place, Place.clause_vars_at, Place.clause_source_at, Place.clauses_one_at, Place.clauses_for_at}
use Rattle.starlark_spec.specs.Machine.States.{Place.clauses_if_at, Place.atom_square_at, Place.atom_curly_at, Place.list_clauses_at, Place.dict_clauses_at}
use Rattle.starlark_spec.specs.Machine.States.State.{read, done, clause_in_due, clauses_tail, list_comprehension_due, dict_comprehension_due}
use Rattle.starlark_spec.specs.Machine.Sight.{look_at}
use Rattle.starlark_spec.specs.Machine.Faults.{fault_of}
use Rattle.starlark_parse_held.specs.Held.{expression_of, for_in_of, clauses_in}
use Rattle.starlark_parse_held.specs.declared.expression.HeldExpr.{HeldExpr}
use Rattle.starlark_parse_held.specs.declared.clause.HeldForClause.{HeldForClause}
use Rattle.starlark_parse_held.specs.declared.clause.HeldClauses.{HeldClauses}
use Rattle.starlark_parse_build.specs.Check.Checks.{Names}
use Rattle.starlark_spec.specs.declared.refusal.Refusal.{Refusal}
use Rattle.starlark_parse_cursor.specs.Reading.{At, Advances, begin_at, stop_at}
use Rattle.starlark_parse_cursor.specs.Contract.{Goes, Goes.stays, Goes.keeps, Goes.takes, FailsFrom, Found, FoundOptionalList}
use Rattle.starlark_parse_cursor.proofs.Paths.{after, further, at_same, begin_seen, due, wants}
use Rattle.starlark_parse.specs.Expr.Expressions.{IsOr, IsLoopVars, IsForClause, IsClauses, IsAtom, IsOneTest, IsOneEntry}
use Rattle.starlark_parse.specs.Expr.Contract.{checked}
use Rattle.starlark_parse.proofs.ExprLemmas.Checked.{check_fails}

-- ---- a clause `for`

module _ {S : Type 0} {steps : S → Option CodeLexeme → S → Type 0} where
  pub no_for : {a b : At S} {r : Answer} → (is (look_at a.sight).kind kinds.For ≡ false) × (r ≡ stop_at b) × (b ≡ a)
      → FailsFrom steps (λ (p : Place Module ForClause). read ForClause p) a b r
  no_for h = due (λ p. read ForClause p) h.2 h.1 (λ p. stays) (λ p. rw h.0 refl)

  module _ {a m : At S} {f : Span} (v : Advances steps a (lexeme tokens.For f) m) where
    to_variables : (p : Place Module ForClause) → Goes steps (read ForClause p) a (read LoopVars (clause_vars_at f p)) m
    to_variables p = takes v refl stays

    pub variables_fail : {b : At S} {r : Answer} → FailsFrom steps (λ (p : Place Module LoopVars). read LoopVars p) m b r
        → FailsFrom steps (λ (p : Place Module ForClause). read ForClause p) a b r
    variables_fail k = further (λ p. clause_vars_at f p) to_variables k

    module _ {q : At S} {begin : ℕ} (x : HeldExpr) (d : Found steps (λ (p : Place Module LoopVars). read LoopVars p) begin (IsLoopVars x) m q) where
      to_in : (p : Place Module ForClause) → Goes steps (read ForClause p) a (clause_in_due f d.derivation p) q
      to_in p = after (to_variables p) (after (d.goes (clause_vars_at f p)) (keeps (rw d.means.1 refl) stays))

      pub no_in : {b : At S} {r : Answer} → (is (look_at q.sight).kind kinds.In ≡ false) × (r ≡ stop_at b) × (b ≡ q)
          → FailsFrom steps (λ (p : Place Module ForClause). read ForClause p) a b r
      no_in h = due (λ p. clause_in_due f d.derivation p) h.2 h.1 to_in (λ p. rw h.0 refl)

      module _ {n : At S} {i : Span} (w : Advances steps q (lexeme tokens.In i) n) where
        to_source : (p : Place Module ForClause) → Goes steps (read ForClause p) a
            (read (LeftAssociative or_precedence) (clause_source_at f d.derivation i p)) n
        to_source p = after (to_in p) (takes w refl stays)

        pub source_fails : {b : At S} {r : Answer} → FailsFrom steps (λ (p : Place Module (LeftAssociative or_precedence)). read
            (LeftAssociative or_precedence) p) n b r → FailsFrom steps (λ (p : Place Module ForClause). read ForClause p) a b r
        source_fails k = further (λ p. clause_source_at f d.derivation i p) to_source k

        module _ {b : At S} {from : ℕ} (y : HeldExpr) (e : Found steps (λ (p : Place Module (LeftAssociative or_precedence)). read
            (LeftAssociative or_precedence) p) from (IsOr y) n b) where
          to_clause : (p : Place Module ForClause) → Goes steps (read ForClause p) a (done (for_clause f d.derivation i e.derivation) p) b
          to_clause p = after (to_source p) (after (e.goes (clause_source_at f d.derivation i p)) (keeps refl stays))

          -- the variables are targets
          pub clause_found : (c : HeldForClause) → for_in_of c ≡ t.for_in (target_of (expression_of x)) (expression_of y)
              → fault_of (target (expression_of x)) ≡ None
              → Found steps (λ (p : Place Module ForClause). read ForClause p) (begin_at a) (IsForClause c) a b
          clause_found c h k = record {
            derivation = for_clause f d.derivation i e.derivation;
            means = (
              h ∙ ap (λ z. t.for_in (target_of z) (expression_of y)) d.means.0 ∙ ap (t.for_in (target_of (tree d.derivation))) e.means,
              ap (λ z. fault_of (target z)) (sym d.means.0) ∙ k,
            );
            begin_is = λ rest. begin_seen v;
            end_is = λ before. e.end_is i.end;
            goes = to_clause;
          }

          -- or they are not, or that is not known
          pub clause_fails : {r : Answer} (c : Refusal) → Names (fault_of (target (expression_of x))) c → r ≡ checked c b
              → FailsFrom steps (λ (p : Place Module ForClause). read ForClause p) a b r
          clause_fails c h k = check_fails c (for_clause f d.derivation i e.derivation) (λ p. p) h k (ap (λ z. fault_of (target z)) (sym d.means.0)) to_clause

-- ---- clauses

-- clauses were read, and more may come
pub record ClausesRead {S : Type 0} (steps : S → Option CodeLexeme → S → Type 0) (cs : Comprehended) (a b : At S) : Type 0 where
  pub derivation : Derivation Clauses
  pub means : cs ≡ tree derivation
  pub begin_is : (rest : List Lexeme) → begin_of (yield_of derivation rest) ≡ begin_at a
  pub end_is : (before : ℕ) → b.end ≡ end_of_last (right_side derivation) before
  pub goes : (p : Place Module Clauses) → Goes steps (read Clauses p) a (clauses_tail derivation p) b

module _ {S : Type 0} {steps : S → Option CodeLexeme → S → Type 0} where
  pub first_fails : {a b : At S} {r : Answer} → FailsFrom steps (λ (p : Place Module ForClause). read ForClause p) a b r
      → FailsFrom steps (λ (p : Place Module Clauses). read Clauses p) a b r
  first_fails f = further (λ p. clauses_one_at p) (λ p. keeps refl stays) f

  module _ {a q : At S} (c : HeldForClause) (d : Found steps (λ (p : Place Module ForClause). read ForClause p) (begin_at a) (IsForClause c) a q) where
    to_first : (p : Place Module Clauses) → Goes steps (read Clauses p) a (clauses_tail (clauses_one d.derivation) p) q
    to_first p = keeps refl (after (d.goes (clauses_one_at p)) (keeps (rw d.means.1 refl) stays))

    pub first_wants : FailsFrom steps (λ (p : Place Module Clauses). read Clauses p) a q memory
    first_wants = wants (λ p. clauses_tail (clauses_one d.derivation) p) to_first

    pub first_read : (cs : Comprehended) → cs ≡ (for_in_of c, []) → ClausesRead steps cs a q
    first_read cs h = record {
      derivation = clauses_one d.derivation;
      means = h ∙ ap (λ x. (x, [])) d.means.0;
      begin_is = d.begin_is;
      end_is = d.end_is;
      goes = to_first;
    }

  module _ {cs : Comprehended} {a q : At S} (g : ClausesRead steps cs a q) where
    module _ (h : is (look_at q.sight).kind kinds.For ≡ true) where
      to_for : (p : Place Module Clauses) → Goes steps (read Clauses p) a (read ForClause (clauses_for_at g.derivation p)) q
      to_for p = after (g.goes p) (keeps (rw h refl) stays)

      pub next_fails : {b : At S} {r : Answer} → FailsFrom steps (λ (p : Place Module ForClause). read ForClause p) q b r
          → FailsFrom steps (λ (p : Place Module Clauses). read Clauses p) a b r
      next_fails f = further (λ p. clauses_for_at g.derivation p) to_for f

      module _ {b : At S} {begin : ℕ} (c : HeldForClause) (d : Found steps (λ (p : Place Module ForClause). read ForClause p) begin (IsForClause c) q b) where
        to_next : (p : Place Module Clauses) → Goes steps (read Clauses p) a (clauses_tail (clauses_for g.derivation d.derivation) p) b
        to_next p = after (to_for p) (after (d.goes (clauses_for_at g.derivation p)) (keeps (rw d.means.1 refl) stays))

        pub next_wants : FailsFrom steps (λ (p : Place Module Clauses). read Clauses p) a b memory
        next_wants = wants (λ p. clauses_tail (clauses_for g.derivation d.derivation) p) to_next

        pub next_read : (ds : Comprehended) → ds ≡ (cs.0, cs.1 ++ t.for_clause (for_in_of c) ∷ []) → ClausesRead steps ds a b
        next_read ds k = record {
          derivation = clauses_for g.derivation d.derivation;
          means = k ∙ ap (λ (x : Comprehended). (x.0, x.1 ++ t.for_clause (for_in_of c) ∷ [])) g.means
              ∙ ap (λ x. ((tree g.derivation).0, (tree g.derivation).1 ++ t.for_clause x ∷ [])) d.means.0;
          begin_is = λ rest. g.begin_is _;
          end_is = λ before. d.end_is _;
          goes = to_next;
        }

    module _ {m : At S} {i : Span} (n : is (look_at q.sight).kind kinds.For ≡ false) (v : Advances steps q (lexeme tokens.If i) m) where
      to_condition : (p : Place Module Clauses) → Goes steps (read Clauses p) a (read (LeftAssociative or_precedence) (clauses_if_at g.derivation i p)) m
      to_condition p = after (g.goes p) (takes v refl stays)

      pub condition_fails : {b : At S} {r : Answer} → FailsFrom steps (λ (p : Place Module (LeftAssociative or_precedence)). read
          (LeftAssociative or_precedence) p) m b r → FailsFrom steps (λ (p : Place Module Clauses). read Clauses p) a b r
      condition_fails f = further (λ p. clauses_if_at g.derivation i p) to_condition f

      module _ {b : At S} {begin : ℕ} (e : HeldExpr) (d : Found steps (λ (p : Place Module (LeftAssociative or_precedence)). read
          (LeftAssociative or_precedence) p) begin (IsOr e) m b) where
        to_if : (p : Place Module Clauses) → Goes steps (read Clauses p) a (clauses_tail (clauses_if g.derivation i d.derivation) p) b
        to_if p = after (to_condition p) (after (d.goes (clauses_if_at g.derivation i p)) (keeps refl stays))

        pub condition_wants : FailsFrom steps (λ (p : Place Module Clauses). read Clauses p) a b memory
        condition_wants = wants (λ p. clauses_tail (clauses_if g.derivation i d.derivation) p) to_if

        pub condition_read : (ds : Comprehended) → ds ≡ (cs.0, cs.1 ++ t.if_clause (expression_of e) ∷ []) → ClausesRead steps ds a b
        condition_read ds k = record {
          derivation = clauses_if g.derivation i d.derivation;
          means = k ∙ ap (λ (x : Comprehended). (x.0, x.1 ++ t.if_clause (expression_of e) ∷ [])) g.means
              ∙ ap (λ x. ((tree g.derivation).0, (tree g.derivation).1 ++ t.if_clause x ∷ [])) d.means;
          begin_is = λ rest. g.begin_is _;
          end_is = λ before. d.end_is i.end;
          goes = to_if;
        }

    pub clauses_found : {b : At S} (v : HeldClauses) → cs ≡ clauses_in v → is (look_at q.sight).kind kinds.For ≡ false
        → (is (look_at q.sight).kind kinds.If ≡ false) × (b ≡ q)
        → Found steps (λ (p : Place Module Clauses). read Clauses p) (begin_at a) (IsClauses v) a b
    clauses_found v e n h = record {
      derivation = g.derivation;
      means = sym e ∙ g.means;
      begin_is = g.begin_is;
      end_is = λ before. ap (λ (x : At S). x.end) h.1 ∙ g.end_is before;
      goes = λ p. at_same h.1 (after (g.goes p) (keeps (rw (n, h.0) refl) stays));
    }

-- ---- comprehensions

module _ {S : Type 0} {steps : S → Option CodeLexeme → S → Type 0} {m q : At S} (o : Span) (h : is (look_at q.sight).kind kinds.For ≡ true) where
  module _ (x : HeldExpr) (d : FoundOptionalList steps (IsOneTest x) m q) where
    to_clauses : (p : Place Module Atom) → Goes steps (read (OptionalList elements) (atom_square_at o p)) m (read Clauses (list_clauses_at o d.means.0 p)) q
    to_clauses p = after (subst (λ y. Goes steps (read (OptionalList elements) (atom_square_at o p)) m (done y (atom_square_at o p)) q) d.means.1
        (d.goes (atom_square_at o p))) (keeps (rw h refl) stays)

    pub clauses_fail : {b : At S} {r : Answer} → FailsFrom steps (λ (p : Place Module Clauses). read Clauses p) q b r
        → FailsFrom steps (λ (p : Place Module Atom). read (OptionalList elements) (atom_square_at o p)) m b r
    clauses_fail f = further (λ p. list_clauses_at o d.means.0 p) to_clauses f

    module _ {n : At S} {begin : ℕ} (cs : HeldClauses) (c : Found steps (λ (p : Place Module Clauses). read Clauses p) begin (IsClauses cs) q n) where
      to_end : (p : Place Module Atom) → Goes steps (read (OptionalList elements) (atom_square_at o p)) m (list_comprehension_due o d.means.0 c.derivation p) n
      to_end p = after (to_clauses p) (after (c.goes (list_clauses_at o d.means.0 p)) (keeps refl stays))

      pub no_end : {b : At S} {r : Answer} → (is (look_at n.sight).kind kinds.ClosingSquare ≡ false) × (r ≡ stop_at b) × (b ≡ n)
          → FailsFrom steps (λ (p : Place Module Atom). read (OptionalList elements) (atom_square_at o p)) m b r
      no_end j = due (λ p. list_comprehension_due o d.means.0 c.derivation p) j.2 j.1 to_end (λ p. rw j.0 refl)

      module _ {b : At S} {z : Span} (v : Advances steps n (lexeme tokens.ClosingSquare z) b) where
        to_list : (p : Place Module Atom) → Goes steps (read (OptionalList elements) (atom_square_at o p)) m
            (done (atom_list_comprehension o d.means.0 c.derivation z) p) b
        to_list p = after (to_end p) (takes v refl stays)

        pub list_wants : FailsFrom steps (λ (p : Place Module Atom). read (OptionalList elements) (atom_square_at o p)) m b memory
        list_wants = wants (λ p. done (atom_list_comprehension o d.means.0 c.derivation z) p) to_list

        pub list_found : (e : HeldExpr) → expression_of e ≡ list_comprehension (from_to o.begin b.end) (expression_of x) (clauses_in cs)
            → Found steps (λ (p : Place Module Atom). read (OptionalList elements) (atom_square_at o p)) o.begin (IsAtom e) m b
        list_found e k = record {
          derivation = atom_list_comprehension o d.means.0 c.derivation z;
          means = k ∙ ap (λ y. list_comprehension (from_to o.begin y) (expression_of x) (clauses_in cs)) v.end_is
              ∙ ap (λ y. list_comprehension (from_to o.begin z.end) y (clauses_in cs)) d.means.2
              ∙ ap (list_comprehension (from_to o.begin z.end) (tree d.means.0)) c.means;
          begin_is = λ rest. refl;
          end_is = λ before. v.end_is;
          goes = to_list;
        }

  module _ (key value : HeldExpr) (d : FoundOptionalList steps (IsOneEntry (key, value)) m q) where
    to_entry_clauses : (p : Place Module Atom) → Goes steps (read (OptionalList entries) (atom_curly_at o p)) m (read Clauses (dict_clauses_at o d.means.0 p)) q
    to_entry_clauses p = after (subst (λ y. Goes steps (read (OptionalList entries) (atom_curly_at o p)) m (done y (atom_curly_at o p)) q) d.means.1
        (d.goes (atom_curly_at o p))) (keeps (rw h refl) stays)

    pub entry_clauses_fail : {b : At S} {r : Answer} → FailsFrom steps (λ (p : Place Module Clauses). read Clauses p) q b r
        → FailsFrom steps (λ (p : Place Module Atom). read (OptionalList entries) (atom_curly_at o p)) m b r
    entry_clauses_fail f = further (λ p. dict_clauses_at o d.means.0 p) to_entry_clauses f

    module _ {n : At S} {begin : ℕ} (cs : HeldClauses) (c : Found steps (λ (p : Place Module Clauses). read Clauses p) begin (IsClauses cs) q n) where
      to_entry_end : (p : Place Module Atom) → Goes steps (read (OptionalList entries) (atom_curly_at o p)) m
          (dict_comprehension_due o d.means.0 c.derivation p) n
      to_entry_end p = after (to_entry_clauses p) (after (c.goes (dict_clauses_at o d.means.0 p)) (keeps refl stays))

      pub no_entry_end : {b : At S} {r : Answer} → (is (look_at n.sight).kind kinds.ClosingCurly ≡ false) × (r ≡ stop_at b) × (b ≡ n)
          → FailsFrom steps (λ (p : Place Module Atom). read (OptionalList entries) (atom_curly_at o p)) m b r
      no_entry_end j = due (λ p. dict_comprehension_due o d.means.0 c.derivation p) j.2 j.1 to_entry_end (λ p. rw j.0 refl)

      module _ {b : At S} {z : Span} (v : Advances steps n (lexeme tokens.ClosingCurly z) b) where
        to_dict : (p : Place Module Atom) → Goes steps (read (OptionalList entries) (atom_curly_at o p)) m
            (done (atom_dict_comprehension o d.means.0 c.derivation z) p) b
        to_dict p = after (to_entry_end p) (takes v refl stays)

        pub dict_wants : FailsFrom steps (λ (p : Place Module Atom). read (OptionalList entries) (atom_curly_at o p)) m b memory
        dict_wants = wants (λ p. done (atom_dict_comprehension o d.means.0 c.derivation z) p) to_dict

        pub dict_found : (e : HeldExpr) → expression_of e ≡ dict_comprehension (from_to o.begin b.end) (expression_of key, expression_of value) (clauses_in cs)
            → Found steps (λ (p : Place Module Atom). read (OptionalList entries) (atom_curly_at o p)) o.begin (IsAtom e) m b
        dict_found e k = record {
          derivation = atom_dict_comprehension o d.means.0 c.derivation z;
          means = k ∙ ap (λ y. dict_comprehension (from_to o.begin y) (expression_of key, expression_of value) (clauses_in cs)) v.end_is
              ∙ ap (λ y. dict_comprehension (from_to o.begin z.end) y (clauses_in cs)) d.means.2
              ∙ ap (dict_comprehension (from_to o.begin z.end) (tree d.means.0)) c.means;
          begin_is = λ rest. refl;
          end_is = λ before. v.end_is;
          goes = to_dict;
        }
