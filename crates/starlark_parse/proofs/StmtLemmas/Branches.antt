-- The machine's paths through `if` with its branches, in the form in which the code's answers cite them.
use Rattle.std.proofs.Common.{◌≡◌, ℕ, false, List, [], ◌∷◌, ◌++◌, map, Option, Some, None, refl, sym, ◌∙◌, ap, subst}
use Rattle.std.proofs.lemmas.List.{map-append}
use Rattle.starlark_lexer.specs.Tokens.{Span, from_to, lexeme}
use Rattle.starlark_lexer.specs.Tokens as tokens
use Rattle.starlark_lexer.specs.Lexer.{CodeLexeme}
use Rattle.starlark_tree.specs.Ast.{Expression, Statement, statement, no_payload}
use Rattle.starlark_parse_held.specs.declared.expression.HeldExpr.{HeldExpr}
use Rattle.starlark_parse_held.specs.declared.statement.HeldStmt.{HeldStmt}
use Rattle.starlark_parse_held.specs.Held.{expression_of, statement_of, other_of}
use Rattle.starlark_lexer.specs.declared.kind.Kind.TheVariants as kinds
use Rattle.starlark_spec.specs.Answers.{Answer}
use Rattle.starlark_spec.specs.Answers.Answer.{memory}
use Rattle.starlark_spec.specs.Grammar.{Derivation, right_side}
use Rattle.starlark_spec.specs.Grammar.Nonterminal.{Module, Stmt, Test, Suite, Rest}
use Rattle.starlark_spec.specs.Grammar.Derivation.{stmt_if, rest_none, rest_elif, rest_else}
use Rattle.starlark_spec.specs.Trees.{tree, end_of_last, derivation_span, if_form}
use Rattle.starlark_lexer.specs.Kinds.{is}
use Rattle.starlark_spec.specs.Machine.States.{Place, State, if_test_at, if_suite_at, if_rest_at, elif_test_at, elif_suite_at, elif_rest_at, else_suite_at}
use Rattle.starlark_spec.specs.Machine.States.State.{read, done, if_colon_due, elif_colon_due, else_colon_due}
use Rattle.starlark_spec.specs.Machine.Sight.{look_at}
use Rattle.starlark_spec.specs.Machine.Moves.{Fail}
use Rattle.starlark_spec.specs.Machine.Faults.{Moves, ruled}
use Rattle.starlark_parse_cursor.specs.Reading.{At, Advances, stop_at}
use Rattle.starlark_parse_cursor.specs.Contract.{Goes, Goes.stays, Goes.keeps, Goes.takes, FailsFrom, Found, FoundPerhaps}
use Rattle.starlark_parse_cursor.proofs.Paths.{after, at_same, further, due, wants}
use Rattle.starlark_parse.specs.Expr.Expressions.{IsTest}
use Rattle.starlark_parse.specs.declared.stmt.compound.Branch.{Branch}
use Rattle.starlark_parse.specs.Stmt.Statements.{IsStmt, IsSuite, IsRest, Seen, branch_seen, folded, Head, of_if, of_elif, condition_due, rest_due, FoundBranch}

-- where a statement begins
pub if_is : {x : Statement no_payload} {b c n : ℕ} (e : Expression no_payload) (body : Statement no_payload) (other : Option (Statement no_payload))
    → x ≡ statement (from_to b n) (if_form e body other) → b ≡ c → x ≡ statement (from_to c n) (if_form e body other)
if_is {n = n} e body other h k = h ∙ ap (λ y. statement (from_to y n) (if_form e body other)) k

-- ---- a condition and its suite

abbrev test_place : Head → Place Module Test
test_place (of_if i p) = if_test_at i p
test_place (of_elif i p) = elif_test_at i p

abbrev colon_state : Derivation Test → Head → State Module
colon_state d (of_if i p) = if_colon_due i d p
colon_state d (of_elif i p) = elif_colon_due i d p

abbrev suite_place : Derivation Test → Span → Head → Place Module Suite
suite_place d c (of_if i p) = if_suite_at i d c p
suite_place d c (of_elif i p) = elif_suite_at i d c p

module _ {S : Type 0} {steps : S → Option CodeLexeme → S → Type 0} where
  to_test : {m : At S} (h : Head) → Goes steps (condition_due h) m (read Test (test_place h)) m
  to_test (of_if i p) = stays
  to_test (of_elif i p) = stays

  pub condition_fails : {m b : At S} {r : Answer} → FailsFrom steps (λ (p : Place Module Test). read Test p) m b r → FailsFrom steps condition_due m b r
  condition_fails f = further test_place to_test f

  module _ {m q : At S} {begin : ℕ} (e : HeldExpr) (d : Found steps (λ (p : Place Module Test). read Test p) begin (IsTest e) m q) where
    to_colon : (h : Head) → Goes steps (condition_due h) m (colon_state d.derivation h) q
    to_colon (of_if i p) = after (d.goes (if_test_at i p)) (keeps refl stays)
    to_colon (of_elif i p) = after (d.goes (elif_test_at i p)) (keeps refl stays)

    colon_fails : is (look_at q.sight).kind kinds.Colon ≡ false → (h : Head) → ruled q.types (colon_state d.derivation h) (look_at q.sight) ≡ Moves Fail
    colon_fails k (of_if i p) = rw k refl
    colon_fails k (of_elif i p) = rw k refl

    pub no_colon : {b : At S} {r : Answer} → (is (look_at q.sight).kind kinds.Colon ≡ false) × (r ≡ stop_at b) × (b ≡ q) → FailsFrom steps condition_due m b r
    no_colon k = due (colon_state d.derivation) k.2 k.1 to_colon (colon_fails k.0)

    module _ {n : At S} {c : Span} (v : Advances steps q (lexeme tokens.Colon c) n) where
      to_suite : (h : Head) → Goes steps (condition_due h) m (read Suite (suite_place d.derivation c h)) n
      to_suite (of_if i p) = after (to_colon (of_if i p)) (takes v refl stays)
      to_suite (of_elif i p) = after (to_colon (of_elif i p)) (takes v refl stays)

      pub suite_fails : {b : At S} {r : Answer} → FailsFrom steps (λ (p : Place Module Suite). read Suite p) n b r → FailsFrom steps condition_due m b r
      suite_fails f = further (suite_place d.derivation c) to_suite f

      module _ {b : At S} {there : ℕ} (s : HeldStmt) (k : Found steps (λ (p : Place Module Suite). read Suite p) there (IsSuite s) n b) where
        to_rest : (h : Head) → Goes steps (condition_due h) m (rest_due h d.derivation c k.derivation) b
        to_rest (of_if i p) = after (to_suite (of_if i p)) (after (k.goes (if_suite_at i d.derivation c p)) (keeps refl stays))
        to_rest (of_elif i p) = after (to_suite (of_elif i p)) (after (k.goes (elif_suite_at i d.derivation c p)) (keeps refl stays))

        pub branch_found : (x : Branch) → x.condition ≡ e → x.body ≡ s → FoundBranch steps x m b
        branch_found x f g = record {
          condition = d.derivation;
          colon = c;
          body = k.derivation;
          condition_is = ap expression_of f ∙ d.means;
          body_is = ap statement_of g ∙ k.means;
          end_is = k.end_is;
          goes = to_rest;
        }

-- ---- several of them

-- an `elif` as it is read
pub record Elif : Type 0 where
  pub word : Span
  pub condition : Derivation Test
  pub colon : Span
  pub body : Derivation Suite

-- after these the rest
abbrev pub under : List Elif → Place Module Rest → Place Module Rest
under [] p = p
under (b ∷ bs) p = under bs (elif_rest_at b.word b.condition b.colon b.body p)

abbrev pub wrapped : List Elif → Derivation Rest → Derivation Rest
wrapped [] e = e
wrapped (b ∷ bs) e = rest_elif b.word b.condition b.colon b.body (wrapped bs e)

-- the suites end one after the other
abbrev pub EndsAt : List Elif → ℕ → ℕ → Type 0
EndsAt [] from to = from ≡ to
EndsAt (b ∷ bs) from to = (middle : ℕ) × ((before : ℕ) → end_of_last (right_side b.body) before ≡ middle) × EndsAt bs middle to

abbrev pub elif_seen : Elif → Seen
elif_seen b = (b.word.begin, tree b.condition, tree b.body)

under_more : (bs : List Elif) (b : Elif) (p : Place Module Rest) → under (bs ++ b ∷ []) p ≡ elif_rest_at b.word b.condition b.colon b.body (under bs p)
under_more [] b p = refl
under_more (c ∷ bs) b p = under_more bs b (elif_rest_at c.word c.condition c.colon c.body p)

ends_more : (bs : List Elif) (b : Elif) (from middle to : ℕ) → EndsAt bs from middle → ((before : ℕ) → end_of_last (right_side b.body) before ≡ to)
    → EndsAt (bs ++ b ∷ []) from to
ends_more [] b from middle to e f = (to, f, refl)
ends_more (c ∷ bs) b from middle to e f = (e.0, e.1, ends_more bs b e.0 middle to e.2 f)

wrapped_ends : (bs : List Elif) (e : Derivation Rest) (from middle to : ℕ) → EndsAt bs from middle → end_of_last (right_side e) middle ≡ to
    → end_of_last (right_side (wrapped bs e)) from ≡ to
wrapped_ends [] e from middle to h k = ap (end_of_last (right_side e)) h ∙ k
wrapped_ends (b ∷ bs) e from middle to h k = ap (end_of_last (right_side (wrapped bs e))) (h.1 _) ∙ wrapped_ends bs e h.0 middle to h.2 k

wrapped_means : (bs : List Elif) (e : Derivation Rest) (from middle to : ℕ) → EndsAt bs from middle → end_of_last (right_side e) middle ≡ to
    → tree (wrapped bs e) ≡ folded (map elif_seen bs) (tree e) to
wrapped_means [] e from middle to h k = refl
wrapped_means (b ∷ bs) e from middle to h k =
    ap (λ x. Some (statement (from_to b.word.begin x) (if_form (tree b.condition) (tree b.body) (tree (wrapped bs e)))))
    (ap (end_of_last (right_side (wrapped bs e))) (h.1 _) ∙ wrapped_ends bs e h.0 middle to h.2 k)
    ∙ ap (λ x. Some (statement (from_to b.word.begin to) (if_form (tree b.condition) (tree b.body) x))) (wrapped_means bs e h.0 middle to h.2 k)

-- a branch is put around what comes after it
pub folded_more : (bs : List Seen) (b : Seen) (last : Option (Statement no_payload)) (end : ℕ) → folded (bs ++ b ∷ []) last end
    ≡ folded bs (Some (statement (from_to b.0 end) (if_form b.1 b.2 last))) end
folded_more [] b last end = refl
folded_more (c ∷ bs) b last end = ap (λ x. Some (statement (from_to c.0 end) (if_form c.1 c.2 x))) (folded_more bs b last end)

-- the last of the branches is put around what comes after it
pub chain_more : (all before : List Branch) (b : Branch) (last : Option (Statement no_payload)) (x : Statement no_payload) (end : ℕ) → all ≡ before ++ b ∷ []
    → x ≡ statement (from_to b.begin.byte end) (if_form (expression_of b.condition) (statement_of b.body) last) → folded (map branch_seen before) (Some x) end
    ≡ folded (map branch_seen all) last end
chain_more all before b last x end e h =
    ap (λ y. folded (map branch_seen before) (Some y) end) h ∙ sym (folded_more (map branch_seen before) (branch_seen b) last end)
    ∙ sym (ap (λ y. folded y last end) (map-append branch_seen before (b ∷ []))) ∙ sym (ap (λ y. folded (map branch_seen y) last end) e)

-- one more branch
pub seen_more : (all before : List Branch) (b : Branch) (begin : ℕ) → all ≡ before ++ b ∷ [] → b.begin.byte ≡ begin
    → map branch_seen all ≡ map branch_seen before ++ (begin, expression_of b.condition, statement_of b.body) ∷ []
seen_more all before b begin e h =
    ap (map branch_seen) e ∙ map-append branch_seen before (b ∷ [])
    ∙ ap (λ n. map branch_seen before ++ (n, expression_of b.condition, statement_of b.body) ∷ []) h

-- branches were read, and more may come
pub record Branched {S : Type 0} (steps : S → Option CodeLexeme → S → Type 0) (a b : At S) (seen : List Seen) : Type 0 where
  pub elifs : List Elif
  pub means : seen ≡ map elif_seen elifs
  pub ends_at : EndsAt elifs a.end b.end
  pub goes : (p : Place Module Rest) → Goes steps (read Rest p) a (read Rest (under elifs p)) b

map_more : (bs : List Elif) (b : Elif) → map elif_seen (bs ++ b ∷ []) ≡ map elif_seen bs ++ elif_seen b ∷ []
map_more [] b = refl
map_more (c ∷ bs) b = ap (λ x. elif_seen c ∷ x) (map_more bs b)

module _ {S : Type 0} {steps : S → Option CodeLexeme → S → Type 0} where
  -- all that is left is to put the branches around the last of it
  wraps : {a : At S} (bs : List Elif) (e : Derivation Rest) (p : Place Module Rest) → Goes steps (done e (under bs p)) a (done (wrapped bs e) p) a
  wraps [] e p = stays
  wraps (b ∷ bs) e p = after (wraps bs e (elif_rest_at b.word b.condition b.colon b.body p)) (keeps refl stays)

  pub no_branches : (a : At S) → Branched steps a a []
  no_branches a = record { elifs = []; means = refl; ends_at = refl; goes = λ p. stays }

  module _ {a q : At S} {seen : List Seen} (g : Branched steps a q seen) where
    pub branches_want : FailsFrom steps (λ (p : Place Module Rest). read Rest p) a q memory
    branches_want = wants (λ p. read Rest (under g.elifs p)) g.goes

    -- the same for an equal cursor
    pub branched_to : {n : At S} → n ≡ q → Branched steps a n seen
    branched_to e = subst (λ x. Branched steps a x seen) (sym e) g

    pub branched_as : {other : List Seen} → other ≡ seen → Branched steps a q other
    branched_as e = record { elifs = g.elifs; means = e ∙ g.means; ends_at = g.ends_at; goes = g.goes }

    module _ {m : At S} {i : Span} (v : Advances steps q (lexeme tokens.Elif i) m) where
      to_branch : (p : Place Module Rest) → Goes steps (read Rest p) a (condition_due (of_elif i (under g.elifs p))) m
      to_branch p = after (g.goes p) (takes v refl stays)

      pub branch_fails : {b : At S} {r : Answer} → FailsFrom steps condition_due m b r → FailsFrom steps (λ (p : Place Module Rest). read Rest p) a b r
      branch_fails f = further (λ p. of_elif i (under g.elifs p)) to_branch f

      module _ {b : At S} (x : Branch) (d : FoundBranch steps x m b) where
        this : Elif
        this = record { word = i; condition = d.condition; colon = d.colon; body = d.body }

        pub branched_more : Branched steps a b (seen ++ (i.begin, expression_of x.condition, statement_of x.body) ∷ [])
        unfolding this
        branched_more = record {
          elifs = g.elifs ++ this ∷ [];
          means = ap (λ y. seen ++ (i.begin, y, statement_of x.body) ∷ []) d.condition_is ∙ ap (λ y. seen ++ (i.begin, tree d.condition, y) ∷ []) d.body_is
              ∙ ap (λ y. y ++ elif_seen this ∷ []) g.means ∙ sym (map_more g.elifs this);
          ends_at = ends_more g.elifs this _ _ _ g.ends_at (λ before. sym (d.end_is before));
          goes = λ p. subst (λ y. Goes steps (read Rest p) a (read Rest y) b) (sym (under_more g.elifs this p))
              (after (to_branch p) (d.goes (of_elif i (under g.elifs p))));
        }

        pub branch_wants : FailsFrom steps (λ (p : Place Module Rest). read Rest p) a b memory
        branch_wants = wants (λ p. rest_due (of_elif i (under g.elifs p)) d.condition d.colon d.body)
            (λ p. after (to_branch p) (d.goes (of_elif i (under g.elifs p))))

    -- ---- the end of it

    pub last_fails : {b : At S} {r : Answer} → FailsFrom steps (λ (p : Place Module Rest). read Rest p) q b r
        → FailsFrom steps (λ (p : Place Module Rest). read Rest p) a b r
    last_fails f = further (λ p. under g.elifs p) g.goes f

    module _ {b : At S} (last : Option HeldStmt) (d : FoundPerhaps steps (IsRest last) q b) where
      pub rest_wants : FailsFrom steps (λ (p : Place Module Rest). read Rest p) a b memory
      rest_wants = wants (λ p. done d.derivation (under g.elifs p)) (λ p. after (g.goes p) (d.goes (under g.elifs p)))

      pub rest_found : (s : Option HeldStmt) → other_of s ≡ folded seen (other_of last) b.end → FoundPerhaps steps (IsRest s) a b
      rest_found s h = record {
        derivation = wrapped g.elifs d.derivation;
        means = h ∙ ap (λ x. folded x (other_of last) b.end) g.means ∙ ap (λ x. folded (map elif_seen g.elifs) x b.end) d.means
            ∙ sym (wrapped_means g.elifs d.derivation _ _ _ g.ends_at (sym d.end_is));
        end_is = sym (wrapped_ends g.elifs d.derivation _ _ _ g.ends_at (sym d.end_is));
        goes = λ p. after (g.goes p) (after (d.goes (under g.elifs p)) (wraps g.elifs d.derivation p));
      }

  -- ---- the last part

  module _ {a : At S} (k : is (look_at a.sight).kind kinds.Elif ≡ false) where
    pub no_last : {b : At S} → (is (look_at a.sight).kind kinds.Else ≡ false) × (b ≡ a) → FoundPerhaps steps (IsRest None) a b
    no_last h = record { derivation = rest_none; means = refl; end_is = ap (λ (x : At S). x.end) h.1; goes = λ p. at_same h.1 (keeps (rw (k, h.0) refl) stays) }

  module _ {a m : At S} {i : Span} (v : Advances steps a (lexeme tokens.Else i) m) where
    to_else : (p : Place Module Rest) → Goes steps (read Rest p) a (else_colon_due i p) m
    to_else p = takes v refl stays

    pub no_else_colon : {b : At S} {r : Answer} → (is (look_at m.sight).kind kinds.Colon ≡ false) × (r ≡ stop_at b) × (b ≡ m)
        → FailsFrom steps (λ (p : Place Module Rest). read Rest p) a b r
    no_else_colon h = due (λ p. else_colon_due i p) h.2 h.1 to_else (λ p. rw h.0 refl)

    module _ {q : At S} {c : Span} (w : Advances steps m (lexeme tokens.Colon c) q) where
      pub else_fails : {b : At S} {r : Answer} → FailsFrom steps (λ (p : Place Module Suite). read Suite p) q b r
          → FailsFrom steps (λ (p : Place Module Rest). read Rest p) a b r
      else_fails f = further (λ p. else_suite_at i c p) (λ p. after (to_else p) (takes w refl stays)) f

      pub else_found : {b : At S} {there : ℕ} (x : HeldStmt) → Found steps (λ (p : Place Module Suite). read Suite p) there (IsSuite x) q b
          → FoundPerhaps steps (IsRest (Some x)) a b
      else_found x d = record {
        derivation = rest_else i c d.derivation;
        means = ap Some d.means;
        end_is = d.end_is _;
        goes = λ p. after (to_else p) (takes w refl (after (d.goes (else_suite_at i c p)) (keeps refl stays)));
      }

  -- ---- the whole

  pub head_fails : {m b : At S} {r : Answer} (i : Span) → FailsFrom steps condition_due m b r
      → FailsFrom steps (λ (p : Place Module Stmt). read Test (if_test_at i p)) m b r
  head_fails i f = further (λ p. of_if i p) (λ p. stays) f

  module _ {m q : At S} (i : Span) (x : Branch) (d : FoundBranch steps x m q) where
    to_others : (p : Place Module Stmt) → Goes steps (read Test (if_test_at i p)) m (read Rest (if_rest_at i d.condition d.colon d.body p)) q
    to_others p = d.goes (of_if i p)

    pub if_fails : {b : At S} {r : Answer} → FailsFrom steps (λ (p : Place Module Rest). read Rest p) q b r
        → FailsFrom steps (λ (p : Place Module Stmt). read Test (if_test_at i p)) m b r
    if_fails f = further (λ p. if_rest_at i d.condition d.colon d.body p) to_others f

    module _ {b : At S} (s : Option HeldStmt) (e : FoundPerhaps steps (IsRest s) q b) where
      to_end : (p : Place Module Stmt) → Goes steps (read Test (if_test_at i p)) m (done (stmt_if i d.condition d.colon d.body e.derivation) p) b
      to_end p = after (to_others p) (after (e.goes (if_rest_at i d.condition d.colon d.body p)) (keeps refl stays))

      if_ends : (before : ℕ) → b.end ≡ end_of_last (right_side (stmt_if i d.condition d.colon d.body e.derivation)) before
      if_ends before = e.end_is ∙ ap (end_of_last (right_side e.derivation)) (d.end_is _)

      pub if_found : (y : HeldStmt) → statement_of y ≡ statement (from_to i.begin b.end) (if_form (expression_of x.condition) (statement_of x.body)
          (other_of s)) → Found steps (λ (p : Place Module Stmt). read Test (if_test_at i p)) i.begin (IsStmt y) m b
      if_found y h = record {
        derivation = stmt_if i d.condition d.colon d.body e.derivation;
        means = h ∙ ap (λ z. statement (from_to i.begin z) (if_form (expression_of x.condition) (statement_of x.body) (other_of s))) (if_ends 0)
            ∙ ap (λ z. statement (derivation_span (stmt_if i d.condition d.colon d.body e.derivation)) (if_form z (statement_of x.body) (other_of s)))
            d.condition_is
            ∙ ap (λ z. statement (derivation_span (stmt_if i d.condition d.colon d.body e.derivation)) (if_form (tree d.condition) z (other_of s))) d.body_is
            ∙ ap (λ z. statement (derivation_span (stmt_if i d.condition d.colon d.body e.derivation)) (if_form (tree d.condition) (tree d.body) z)) e.means;
        begin_is = λ rest. refl;
        end_is = if_ends;
        goes = to_end;
      }

      pub if_wants : FailsFrom steps (λ (p : Place Module Stmt). read Test (if_test_at i p)) m b memory
      if_wants = wants (λ p. done (stmt_if i d.condition d.colon d.body e.derivation) p) to_end
