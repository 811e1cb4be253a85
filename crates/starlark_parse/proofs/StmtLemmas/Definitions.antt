-- The machine's paths through `def`, in the form in which the code's answers cite them.
use Rattle.std.proofs.Common.{◌≡◌, ℕ, false, List, Option, refl, ◌∙◌, ap}
use Rattle.starlark_lexer.specs.Tokens.{Span, from_to, lexeme}
use Rattle.starlark_lexer.specs.Tokens as tokens
use Rattle.starlark_lexer.specs.Lexer.{CodeLexeme}
use Rattle.starlark_tree.specs.Ast.{Word, Parameter as AstParameter, Statement, no_payload, statement, parameters_of}
use Rattle.starlark_tree.specs.Ast as t
use Rattle.starlark_parse_held.specs.declared.annotation.HeldType.{HeldType}
use Rattle.starlark_parse_held.specs.declared.statement.HeldStmt.{HeldStmt}
use Rattle.starlark_parse_held.specs.Held.{statement_of, annotation_of, type_of}
use Rattle.starlark_lexer.specs.declared.kind.Kind.TheVariants as kinds
use Rattle.starlark_spec.specs.Answers.{Answer}
use Rattle.starlark_spec.specs.Answers.Answer.{memory}
use Rattle.starlark_spec.specs.Grammar.ElementKind.{def_parameters}
use Rattle.starlark_spec.specs.Grammar.Nonterminal.{Module, Stmt, Suite, Note, ReturnType, OptionalList}
use Rattle.starlark_spec.specs.Grammar.Derivation.{stmt_def, return_type_none, return_type_note}
use Rattle.starlark_spec.specs.Trees.{tree, derivation_span}
use Rattle.starlark_lexer.specs.Kinds.{is}
use Rattle.starlark_spec.specs.Machine.States.{Place, def_parameters_at, def_return_type_at, def_suite_at, return_type_note_at}
use Rattle.starlark_spec.specs.Machine.States.State.{read, done, def_name_due, def_round_due, def_close_due, def_colon_due}
use Rattle.starlark_spec.specs.Machine.Sight.{look_at}
use Rattle.starlark_parse_cursor.specs.Reading.{At, Advances, stop_at}
use Rattle.starlark_parse_cursor.specs.Contract.{Goes, Goes.stays, Goes.keeps, Goes.takes, FailsFrom, Found, FoundPerhaps, FoundOptionalList}
use Rattle.starlark_parse_cursor.proofs.Paths.{after, at_same, further, due, wants}
use Rattle.starlark_spec.specs.Machine.Faults.{note_fault}
use Rattle.starlark_parse.specs.Stmt.Lines.{IsNote}
use Rattle.starlark_parse.proofs.StmtLemmas.Rules.{passes, same_types}
use Rattle.starlark_parse.specs.Stmt.Statements.{IsStmt, IsSuite, IsReturn}

-- where it begins
pub def_is : {x : Statement no_payload} {b c n : ℕ} (name : Word) (ps : List (AstParameter no_payload)) (type : t.MaybeType no_payload)
    (body : Statement no_payload) → x ≡ statement (from_to b n) (t.Def name tt (parameters_of ps) type body tt) → b ≡ c
    → x ≡ statement (from_to c n) (t.Def name tt (parameters_of ps) type body tt)
def_is {n = n} name ps type body h e = h ∙ ap (λ y. statement (from_to y n) (t.Def name tt (parameters_of ps) type body tt)) e

module _ {S : Type 0} {steps : S → Option CodeLexeme → S → Type 0} where
  -- ---- what a function returns

  pub no_return : {a b : At S} → (is (look_at a.sight).kind kinds.MinusGreater ≡ false) × (b ≡ a) → (type : Option HeldType) → annotation_of type ≡ t.no_type
      → FoundPerhaps steps (IsReturn type) a b
  no_return h type e = record {
    derivation = return_type_none;
    means = e;
    end_is = ap (λ (x : At S). x.end) h.1;
    goes = λ p. at_same h.1 (keeps (rw h.0 refl) stays);
  }

  module _ {a m : At S} {i : Span} (v : Advances steps a (lexeme tokens.MinusGreater i) m) where
    pub return_fails : {b : At S} {r : Answer} → FailsFrom steps (λ (p : Place Module Note). read Note p) m b r
        → FailsFrom steps (λ (p : Place Module ReturnType). read ReturnType p) a b r
    return_fails f = further (λ p. return_type_note_at i p) (λ p. takes v refl stays) f

    pub return_found : {b : At S} {begin : ℕ} (x : HeldType) (type : Option HeldType) → Found steps (λ (p : Place Module Note). read Note p) begin
        (IsNote m.types x) m b → annotation_of type ≡ type_of x → FoundPerhaps steps (IsReturn type) a b
    return_found x type d h = record {
      derivation = return_type_note i d.derivation;
      means = h ∙ d.means.0;
      end_is = d.end_is i.end;
      goes = λ p. takes v refl (after (d.goes (return_type_note_at i p))
          (passes (ap (λ y. note_fault y d.derivation) (same_types (d.goes (return_type_note_at i p))) ∙ d.means.1) refl stays));
    }

  -- ---- the whole

  module _ {m : At S} (d : Span) where
    pub no_name : {b : At S} {r : Answer} → (is (look_at m.sight).kind kinds.Identifier ≡ false) × (r ≡ stop_at b) × (b ≡ m)
        → FailsFrom steps (λ (p : Place Module Stmt). def_name_due d p) m b r
    no_name h = due (λ p. def_name_due d p) h.2 h.1 (λ p. stays) (λ p. rw h.0 refl)

    module _ {n : At S} (name : Word) (v : Advances steps m (lexeme (tokens.Identifier name.text) name.span) n) where
      to_round : (p : Place Module Stmt) → Goes steps (def_name_due d p) m (def_round_due d name.text name.span p) n
      to_round p = takes v refl stays

      pub no_round : {b : At S} {r : Answer} → (is (look_at n.sight).kind kinds.OpeningRound ≡ false) × (r ≡ stop_at b) × (b ≡ n)
          → FailsFrom steps (λ (p : Place Module Stmt). def_name_due d p) m b r
      no_round h = due (λ p. def_round_due d name.text name.span p) h.2 h.1 to_round (λ p. rw h.0 refl)

      module _ {q : At S} {o : Span} (w : Advances steps n (lexeme tokens.OpeningRound o) q) where
        to_parameters : (p : Place Module Stmt) → Goes steps (def_name_due d p) m
            (read (OptionalList def_parameters) (def_parameters_at d name.text name.span o p)) q
        to_parameters p = after (to_round p) (takes w refl stays)

        pub parameters_fail : {b : At S} {r : Answer} → FailsFrom steps (λ (p : Place Module (OptionalList def_parameters)). read
            (OptionalList def_parameters) p) q b r → FailsFrom steps (λ (p : Place Module Stmt). def_name_due d p) m b r
        parameters_fail f = further (λ p. def_parameters_at d name.text name.span o p) to_parameters f

        module _ {u : At S} {ps : List (AstParameter no_payload)} (l : FoundOptionalList steps {k = def_parameters} (λ e. ps ≡ tree e) q u) where
          to_close : (p : Place Module Stmt) → Goes steps (def_name_due d p) m (def_close_due d name.text name.span o l.derivation p) u
          to_close p = after (to_parameters p) (after (l.goes (def_parameters_at d name.text name.span o p)) (keeps refl stays))

          pub no_close : {b : At S} {r : Answer} → (is (look_at u.sight).kind kinds.ClosingRound ≡ false) × (r ≡ stop_at b) × (b ≡ u)
              → FailsFrom steps (λ (p : Place Module Stmt). def_name_due d p) m b r
          no_close h = due (λ p. def_close_due d name.text name.span o l.derivation p) h.2 h.1 to_close (λ p. rw h.0 refl)

          module _ {x : At S} {c : Span} (y : Advances steps u (lexeme tokens.ClosingRound c) x) where
            to_return : (p : Place Module Stmt) → Goes steps (def_name_due d p) m
                (read ReturnType (def_return_type_at d name.text name.span o l.derivation c p)) x
            to_return p = after (to_close p) (takes y refl stays)

            pub returns_fail : {b : At S} {r : Answer} → FailsFrom steps (λ (p : Place Module ReturnType). read ReturnType p) x b r
                → FailsFrom steps (λ (p : Place Module Stmt). def_name_due d p) m b r
            returns_fail f = further (λ p. def_return_type_at d name.text name.span o l.derivation c p) to_return f

            module _ {z : At S} (type : Option HeldType) (e : FoundPerhaps steps (IsReturn type) x z) where
              to_colon : (p : Place Module Stmt) → Goes steps (def_name_due d p) m (def_colon_due d name.text name.span o l.derivation c e.derivation p) z
              to_colon p = after (to_return p) (after (e.goes (def_return_type_at d name.text name.span o l.derivation c p)) (keeps refl stays))

              pub no_colon : {b : At S} {r : Answer} → (is (look_at z.sight).kind kinds.Colon ≡ false) × (r ≡ stop_at b) × (b ≡ z)
                  → FailsFrom steps (λ (p : Place Module Stmt). def_name_due d p) m b r
              no_colon h = due (λ p. def_colon_due d name.text name.span o l.derivation c e.derivation p) h.2 h.1 to_colon (λ p. rw h.0 refl)

              module _ {s : At S} {k : Span} (g : Advances steps z (lexeme tokens.Colon k) s) where
                to_suite : (p : Place Module Stmt) → Goes steps (def_name_due d p) m
                    (read Suite (def_suite_at d name.text name.span o l.derivation c e.derivation k p)) s
                to_suite p = after (to_colon p) (takes g refl stays)

                pub body_fails : {b : At S} {r : Answer} → FailsFrom steps (λ (p : Place Module Suite). read Suite p) s b r
                    → FailsFrom steps (λ (p : Place Module Stmt). def_name_due d p) m b r
                body_fails f = further (λ p. def_suite_at d name.text name.span o l.derivation c e.derivation k p) to_suite f

                module _ {b : At S} {begin : ℕ} (body : HeldStmt) (f : Found steps (λ (p : Place Module Suite). read Suite p) begin (IsSuite body) s b) where
                  to_end : (p : Place Module Stmt) → Goes steps (def_name_due d p) m
                      (done (stmt_def d name.text name.span o l.derivation c e.derivation k f.derivation) p) b
                  to_end p = after (to_suite p) (after (f.goes (def_suite_at d name.text name.span o l.derivation c e.derivation k p)) (keeps refl stays))

                  pub def_wants : FailsFrom steps (λ (p : Place Module Stmt). def_name_due d p) m b memory
                  def_wants = wants (λ p. done (stmt_def d name.text name.span o l.derivation c e.derivation k f.derivation) p) to_end

                  pub def_found : (x : HeldStmt) → statement_of x ≡ statement (from_to d.begin b.end) (t.Def name tt (parameters_of ps) (annotation_of type)
                      (statement_of body) tt)
                      → Found steps (λ (p : Place Module Stmt). def_name_due d p) d.begin (IsStmt x) m b
                  def_found x h =
                      let all = derivation_span (stmt_def d name.text name.span o l.derivation c e.derivation k f.derivation) in record {
                        derivation = stmt_def d name.text name.span o l.derivation c e.derivation k f.derivation;
                        means = h ∙ ap (λ y. statement (from_to d.begin y) (t.Def name tt (parameters_of ps) (annotation_of type) (statement_of body) tt))
                            (f.end_is _)
                            ∙ ap (λ y. statement all (t.Def name tt (parameters_of y) (annotation_of type) (statement_of body) tt)) l.means
                            ∙ ap (λ y. statement all (t.Def name tt (parameters_of (tree l.derivation)) y (statement_of body) tt)) e.means
                            ∙ ap (λ y. statement all (t.Def name tt (parameters_of (tree l.derivation)) (tree e.derivation) y tt)) f.means;
                        begin_is = λ rest. refl;
                        end_is = λ before. f.end_is _;
                        goes = to_end;
                      }
