-- The machine's paths through `for`, in the form in which the code's answers cite them.
use Rattle.std.proofs.Common.{◌≡◌, ℕ, false, Option, None, refl, sym, ◌∙◌, ap}
use Rattle.starlark_lexer.specs.Tokens.{Span, from_to, lexeme}
use Rattle.starlark_lexer.specs.Tokens as tokens
use Rattle.starlark_lexer.specs.Lexer.{CodeLexeme}
use Rattle.starlark_tree.specs.Ast.{Expression, Statement, no_payload, statement}
use Rattle.starlark_tree.specs.Ast as t
use Rattle.starlark_parse_held.specs.declared.expression.HeldExpr.{HeldExpr}
use Rattle.starlark_parse_held.specs.declared.statement.HeldStmt.{HeldStmt}
use Rattle.starlark_parse_held.specs.Held.{expression_of, statement_of}
use Rattle.starlark_lexer.specs.declared.kind.Kind.TheVariants as kinds
use Rattle.starlark_spec.specs.Answers.{Answer}
use Rattle.starlark_spec.specs.Answers.Answer.{memory}
use Rattle.starlark_spec.specs.Grammar.Nonterminal.{Module, Stmt, Test, LoopVars, Suite}
use Rattle.starlark_spec.specs.Grammar.Derivation.{stmt_for, for_loop}
use Rattle.starlark_spec.specs.Targets.{target}
use Rattle.starlark_spec.specs.Trees.{tree, derivation_span, target_of}
use Rattle.starlark_lexer.specs.Kinds.{is}
use Rattle.starlark_spec.specs.Machine.States.{Place, stmt_for_at, for_vars_at, for_source_at, for_suite_at}
use Rattle.starlark_spec.specs.Machine.States.State.{read, done, for_in_due, for_colon_due}
use Rattle.starlark_spec.specs.Machine.Sight.{look_at}
use Rattle.starlark_spec.specs.Machine.Faults.{fault_of}
use Rattle.starlark_parse_cursor.specs.Reading.{At, Advances, stop_at}
use Rattle.starlark_parse_cursor.specs.Contract.{Goes, Goes.stays, Goes.keeps, Goes.takes, FailsFrom, Found}
use Rattle.starlark_parse_cursor.proofs.Paths.{after, further, due, wants}
use Rattle.starlark_parse.specs.Expr.Expressions.{IsTest, IsLoopVars}
use Rattle.starlark_spec.specs.declared.refusal.Refusal.{Refusal}
use Rattle.starlark_parse_build.specs.Check.Checks.{Names}
use Rattle.starlark_parse.specs.Expr.Contract.{checked}
use Rattle.starlark_parse.proofs.ExprLemmas.Checked.{check_fails}
use Rattle.starlark_parse.proofs.StmtLemmas.Rules.{passes}
use Rattle.starlark_parse.specs.Stmt.Statements.{IsStmt, IsSuite, for_vars_due}

-- where it begins
pub for_is : {x : Statement no_payload} {b c n : ℕ} (vars source : Expression no_payload) (body : Statement no_payload)
    → x ≡ statement (from_to b n) (t.For (target_of vars) source body) → b ≡ c → x ≡ statement (from_to c n) (t.For (target_of vars) source body)
for_is {n = n} vars source body h k = h ∙ ap (λ y. statement (from_to y n) (t.For (target_of vars) source body)) k

module _ {S : Type 0} {steps : S → Option CodeLexeme → S → Type 0} {m : At S} (f : Span) where
  pub variables_fail : {b : At S} {r : Answer} → FailsFrom steps (λ (p : Place Module LoopVars). read LoopVars p) m b r → FailsFrom steps (for_vars_due f) m b r
  variables_fail g = further (λ p. for_vars_at f (stmt_for_at p)) (λ p. stays) g

  module _ {q : At S} {begin : ℕ} (vars : HeldExpr) (d : Found steps (λ (p : Place Module LoopVars). read LoopVars p) begin (IsLoopVars vars) m q) where
    to_in : (p : Place Module Stmt) → Goes steps (for_vars_due f p) m (for_in_due f d.derivation (stmt_for_at p)) q
    to_in p = after (d.goes (for_vars_at f (stmt_for_at p))) (passes d.means.1 refl stays)

    pub no_in : {b : At S} {r : Answer} → (is (look_at q.sight).kind kinds.In ≡ false) × (r ≡ stop_at b) × (b ≡ q) → FailsFrom steps (for_vars_due f) m b r
    no_in h = due (λ p. for_in_due f d.derivation (stmt_for_at p)) h.2 h.1 to_in (λ p. rw h.0 refl)

    module _ {n : At S} {i : Span} (v : Advances steps q (lexeme tokens.In i) n) where
      to_source : (p : Place Module Stmt) → Goes steps (for_vars_due f p) m (read Test (for_source_at f d.derivation i (stmt_for_at p))) n
      to_source p = after (to_in p) (takes v refl stays)

      pub source_fails : {b : At S} {r : Answer} → FailsFrom steps (λ (p : Place Module Test). read Test p) n b r → FailsFrom steps (for_vars_due f) m b r
      source_fails g = further (λ p. for_source_at f d.derivation i (stmt_for_at p)) to_source g

      module _ {u : At S} {there : ℕ} (source : HeldExpr) (e : Found steps (λ (p : Place Module Test). read Test p) there (IsTest source) n u) where
        to_colon : (p : Place Module Stmt) → Goes steps (for_vars_due f p) m (for_colon_due f d.derivation i e.derivation (stmt_for_at p)) u
        to_colon p = after (to_source p) (after (e.goes (for_source_at f d.derivation i (stmt_for_at p))) (keeps refl stays))

        pub no_colon : {b : At S} {r : Answer} → (is (look_at u.sight).kind kinds.Colon ≡ false) × (r ≡ stop_at b) × (b ≡ u)
            → FailsFrom steps (for_vars_due f) m b r
        no_colon h = due (λ p. for_colon_due f d.derivation i e.derivation (stmt_for_at p)) h.2 h.1 to_colon (λ p. rw h.0 refl)

        module _ {x : At S} {c : Span} (w : Advances steps u (lexeme tokens.Colon c) x) where
          to_suite : (p : Place Module Stmt) → Goes steps (for_vars_due f p) m (read Suite (for_suite_at f d.derivation i e.derivation c (stmt_for_at p))) x
          to_suite p = after (to_colon p) (takes w refl stays)

          pub body_fails : {b : At S} {r : Answer} → FailsFrom steps (λ (p : Place Module Suite). read Suite p) x b r → FailsFrom steps (for_vars_due f) m b r
          body_fails g = further (λ p. for_suite_at f d.derivation i e.derivation c (stmt_for_at p)) to_suite g

          module _ {b : At S} {where_it : ℕ} (body : HeldStmt) (k : Found steps (λ (p : Place Module Suite). read Suite p) where_it (IsSuite body) x b) where
            to_loop : (p : Place Module Stmt) → Goes steps (for_vars_due f p) m (done (for_loop f d.derivation i e.derivation c k.derivation) (stmt_for_at p)) b
            to_loop p = after (to_suite p) (after (k.goes (for_suite_at f d.derivation i e.derivation c (stmt_for_at p))) (keeps refl stays))

            pub loop_wants : FailsFrom steps (for_vars_due f) m b memory
            loop_wants = wants (λ p. done (for_loop f d.derivation i e.derivation c k.derivation) (stmt_for_at p)) to_loop

            -- its variables are not targets, or memory ran out
            pub loop_fails : {r : Answer} (x : Refusal) → Names (fault_of (target (expression_of vars))) x → r ≡ checked x b
                → FailsFrom steps (for_vars_due f) m b r
            loop_fails x h g = check_fails x (for_loop f d.derivation i e.derivation c k.derivation) (λ p. stmt_for_at p) h g
                (ap (λ y. fault_of (target y)) (sym d.means.0)) to_loop

            pub loop_found : (y : HeldStmt) → fault_of (target (expression_of vars)) ≡ None → statement_of y ≡ statement (from_to f.begin b.end)
                (t.For (target_of (expression_of vars)) (expression_of source) (statement_of body))
                → Found steps (for_vars_due f) f.begin (IsStmt y) m b
            loop_found y h g =
                let all = derivation_span (for_loop f d.derivation i e.derivation c k.derivation) in record {
                  derivation = stmt_for (for_loop f d.derivation i e.derivation c k.derivation);
                  means = g ∙ ap (λ z. statement (from_to f.begin z) (t.For (target_of (expression_of vars)) (expression_of source) (statement_of body)))
                      (k.end_is _)
                      ∙ ap (λ z. statement all (t.For (target_of z) (expression_of source) (statement_of body))) d.means.0
                      ∙ ap (λ z. statement all (t.For (target_of (tree d.derivation)) z (statement_of body))) e.means
                      ∙ ap (λ z. statement all (t.For (target_of (tree d.derivation)) (tree e.derivation) z)) k.means;
                  begin_is = λ rest. refl;
                  end_is = λ before. k.end_is _;
                  goes = λ p. after (to_loop p) (passes (ap (λ z. fault_of (target z)) (sym d.means.0) ∙ h) refl stays);
                }
