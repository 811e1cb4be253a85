-- The machine's paths through small statements, in the form in which the code's answers cite them.
use Rattle.std.specs.Prelude.{⊤}
use Rattle.std.proofs.Common.{◌≡◌, ℕ, Bool, true, false, if◌then◌else◌, List, [], ◌∷◌, ◌++◌, Option, Some, None, Result, Ok, Err, refl, sym, ◌∙◌, ap, subst}
use Rattle.starlark_lexer.specs.Tokens.{Text, Span, from_to, Lexeme, lexeme, Terminal}
use Rattle.starlark_lexer.specs.Tokens as tokens
use Rattle.starlark_lexer.specs.Lexer.{CodeLexeme}
use Rattle.starlark_tree.specs.Ast.{Expression, expression, no_payload, MaybeType, Statement, statement, LoadArg, Word}
use Rattle.starlark_tree.specs.Ast as t
use Rattle.starlark_tree.specs.declared.ast.operator.AssignOp.{AssignOp}
use Rattle.starlark_lexer.specs.declared.kind.Kind.{Kind}
use Rattle.starlark_lexer.specs.declared.kind.Kind.TheVariants as kinds
use Rattle.starlark_spec.specs.Assignments.{assigned, assigned_target}
use Rattle.starlark_spec.specs.Answers.{Answer}
use Rattle.starlark_spec.specs.Answers.Answer.{memory}
use Rattle.starlark_spec.specs.Grammar.{AssignSign, Derivation, yield_of, right_side}
use Rattle.starlark_spec.specs.Grammar.AssignSign.{equal_sign, plus_equal, minus_equal, star_equal, slash_equal, slash_slash_equal, percent_equal}
use Rattle.starlark_spec.specs.Grammar.AssignSign.{ampersand_equal, pipe_equal, caret_equal, less_less_equal, greater_greater_equal}
use Rattle.starlark_spec.specs.Grammar.ElementOf.{of_elements}
use Rattle.starlark_spec.specs.Grammar.Nonterminal.{Module, Small, TestList, Atom, Annotation, Symbols}
use Rattle.starlark_spec.specs.Grammar.Derivation.{small_return, small_return_value, small_break, small_continue, small_pass, small_load, small_test}
use Rattle.starlark_spec.specs.Grammar.Derivation.{small_assign, list_plain, list_comma, comma_list_one, comma_list_more}
use Rattle.starlark_spec.specs.Trees.{tree, begin_of, end_of_last, derivation_span, at, target_of, assign_operator}
use Rattle.starlark_lexer.specs.Kinds.{is, kind_of}
use Rattle.starlark_spec.specs.Machine.States.{Place, State, Place.small_list_at, Place.assign_annotation_at, Place.assign_value_at, Place.return_value_at}
use Rattle.starlark_spec.specs.Machine.States.{Place.load_symbols_at}
use Rattle.starlark_spec.specs.Machine.States.State.{read, done, after_return, load_round_due, load_string_due, load_due}
use Rattle.starlark_spec.specs.Machine.Sight.{Look, look_at}
use Rattle.starlark_spec.specs.Machine.Firsts.{starts_test, assign_at, is_leaf}
use Rattle.starlark_spec.specs.Machine.Moves.{Keep, Fail, move_small, move_done, single_test, after_list}
use Rattle.starlark_spec.specs.Machine.Faults.{Moves, ruled, small_fault, list_fault, fault_of}
use Rattle.starlark_spec.specs.declared.refusal.Refusal.{Refusal}
use Rattle.starlark_parse_build.specs.Check.Checks.{Names}
use Rattle.starlark_parse_held.specs.Held.{expression_of}
use Rattle.starlark_parse_held.specs.declared.expression.HeldExpr.{HeldExpr}
use Rattle.starlark_spec.specs.declared.refusal.Refusal.TheVariants as refusals
use Rattle.starlark_spec.specs.Refusals.{refused}
use Rattle.starlark_parse_cursor.specs.Reading.{At, Advances, begin_at, stop_at}
use Rattle.starlark_parse_cursor.specs.Contract.{Goes, Goes.stays, Goes.keeps, Goes.takes, FailsFrom, FailsFrom.sticks, Found, Parses, ParsesFrom}
use Rattle.starlark_parse_cursor.specs.Contract.{ends_expression}
use Rattle.starlark_parse_cursor.proofs.Looks.{same_spans}
use Rattle.starlark_parse_cursor.proofs.Paths.{after, further, due, wants, begin_seen}
use Rattle.starlark_parse.specs.Expr.Contract.{checked}
use Rattle.starlark_parse.specs.Expr.Expressions.{IsAtom}
use Rattle.starlark_parse.specs.Stmt.Lines.{has_several, augmented, assigns, assigned_to, FoundSymbols}
use Rattle.starlark_spec.proofs.Constructors.{not_false, not_none, not_some, not_true}
use Rattle.starlark_parse.proofs.ExprLemmas.Checked.{check_fails}
use Rattle.starlark_parse.proofs.StmtLemmas.Rules.{unbroken, passes}
use Rattle.starlark_parse.proofs.StmtLemmas.TestLists.{FoundList}
use Rattle.starlark_parse.proofs.StmtLemmas.Leaves.{leaf_kept, leaf_listed, leaf_wants}
use Rattle.starlark_parse.proofs.StmtLemmas.Types.{FoundAnnotation, no_type_found}

-- a small statement, which breaks no rule
abbrev pub FoundSmall : {S : Type 0} → (S → Option CodeLexeme → S → Type 0) → (Place Module Small → State Module) → ℕ → Statement no_payload → At S → At S
    → Type 0
FoundSmall steps from begin s a b = Found steps from begin (λ d. (s ≡ tree d) × (small_fault d ≡ None)) a b

-- the same in terms of the statements before that of the derivation and after it
abbrev pub AddedSmall : {S : Type 0} → (S → Option CodeLexeme → S → Type 0) → (Place Module Small → State Module) → ℕ → List (Statement no_payload)
    → List (Statement no_payload) → At S → At S → Type 0
AddedSmall steps from begin ss ts a b = Found steps from begin (λ d. (ts ≡ ss ++ tree d ∷ []) × (small_fault d ≡ None)) a b

-- what begins with none of the keywords of small statements is a list
no_word : {b : _} (p : Place b Small) (x : Lexeme) (k : Kind) → is k kinds.Pass ≡ false → is k kinds.Break ≡ false → is k kinds.Continue ≡ false
    → is k kinds.Return ≡ false → is k kinds.Load ≡ false
    → move_small p x k ≡ Keep (read TestList (small_list_at p))
no_word p x kinds.Return f g h i j = not_false i
no_word p x kinds.Break f g h i j = not_false g
no_word p x kinds.Continue f g h i j = not_false h
no_word p x kinds.Pass f g h i j = not_false f
no_word p x kinds.Load f g h i j = not_false j
no_word p x k f g h i j = refl

-- what continues an assignment, and what does not
pub no_sign : (k : Kind) → assigns k ≡ false → (is k kinds.Colon ≡ false) × (assign_at k ≡ None)
no_sign kinds.Colon h = not_false h
no_sign kinds.Equal h = not_false h
no_sign kinds.PlusEqual h = not_false h
no_sign kinds.MinusEqual h = not_false h
no_sign kinds.StarEqual h = not_false h
no_sign kinds.SlashEqual h = not_false h
no_sign kinds.SlashSlashEqual h = not_false h
no_sign kinds.PercentEqual h = not_false h
no_sign kinds.AmpersandEqual h = not_false h
no_sign kinds.PipeEqual h = not_false h
no_sign kinds.CaretEqual h = not_false h
no_sign kinds.LessLessEqual h = not_false h
no_sign kinds.GreaterGreaterEqual h = not_false h
no_sign k h = (refl, refl)

goes_on : {b : _} (d : Derivation TestList) (p : Place b Small) (k : Kind) → assigns k ≡ true
    → (if is k kinds.Colon then Keep (read Annotation (assign_annotation_at d p)) else after_list d p (assign_at k))
    ≡ Keep (read Annotation (assign_annotation_at d p))
goes_on d p kinds.Colon h = refl
goes_on d p kinds.Equal h = refl
goes_on d p kinds.PlusEqual h = refl
goes_on d p kinds.MinusEqual h = refl
goes_on d p kinds.StarEqual h = refl
goes_on d p kinds.SlashEqual h = refl
goes_on d p kinds.SlashSlashEqual h = refl
goes_on d p kinds.PercentEqual h = refl
goes_on d p kinds.AmpersandEqual h = refl
goes_on d p kinds.PipeEqual h = refl
goes_on d p kinds.CaretEqual h = refl
goes_on d p kinds.LessLessEqual h = refl
goes_on d p kinds.GreaterGreaterEqual h = refl
goes_on d p k h = not_true h

some_sign : {b : _} (d : Derivation TestList) (p : Place b Small) (l : Look) → assigns l.kind ≡ true → move_done d (small_list_at p) l
    ≡ Keep (read Annotation (assign_annotation_at d p))
some_sign d p l h = goes_on d p l.kind h

no_single : (d : Derivation TestList) → true ≡ has_several d → single_test d ≡ None
no_single (list_plain (comma_list_one u d)) h = cc
no_single (list_plain (comma_list_more u d c e)) h = refl
no_single (list_comma d c) h = refl

several_stop : {b : _} (d : Derivation TestList) (p : Place b Small) (l : Look) → true ≡ has_several d → assigns l.kind ≡ false
    → move_done d (small_list_at p) l ≡ Fail
several_stop d p l h k = rw ((no_sign l.kind k).0, (no_sign l.kind k).1, no_single d h) refl

-- an augmented assignment's operator
pub augmented_sign : (k : Kind) (op : AssignOp) → augmented k ≡ Some op → (o : AssignSign) × (assign_at k ≡ Some o) × (Some op ≡ assign_operator o)
augmented_sign kinds.PlusEqual op h = (plus_equal, refl, sym h)
augmented_sign kinds.MinusEqual op h = (minus_equal, refl, sym h)
augmented_sign kinds.StarEqual op h = (star_equal, refl, sym h)
augmented_sign kinds.SlashEqual op h = (slash_equal, refl, sym h)
augmented_sign kinds.SlashSlashEqual op h = (slash_slash_equal, refl, sym h)
augmented_sign kinds.PercentEqual op h = (percent_equal, refl, sym h)
augmented_sign kinds.AmpersandEqual op h = (ampersand_equal, refl, sym h)
augmented_sign kinds.PipeEqual op h = (pipe_equal, refl, sym h)
augmented_sign kinds.CaretEqual op h = (caret_equal, refl, sym h)
augmented_sign kinds.LessLessEqual op h = (less_less_equal, refl, sym h)
augmented_sign kinds.GreaterGreaterEqual op h = (greater_greater_equal, refl, sym h)
augmented_sign k op h = not_some h

pub no_assign_sign : (k : Kind) → is k kinds.Equal ≡ false → augmented k ≡ None → assign_at k ≡ None
no_assign_sign kinds.Equal h g = not_false h
no_assign_sign kinds.PlusEqual h g = not_none g
no_assign_sign kinds.MinusEqual h g = not_none g
no_assign_sign kinds.StarEqual h g = not_none g
no_assign_sign kinds.SlashEqual h g = not_none g
no_assign_sign kinds.SlashSlashEqual h g = not_none g
no_assign_sign kinds.PercentEqual h g = not_none g
no_assign_sign kinds.AmpersandEqual h g = not_none g
no_assign_sign kinds.PipeEqual h g = not_none g
no_assign_sign kinds.CaretEqual h g = not_none g
no_assign_sign kinds.LessLessEqual h g = not_none g
no_assign_sign kinds.GreaterGreaterEqual h g = not_none g
no_assign_sign k h g = refl

moved : {S : Type 0} {a m : At S} (k : Kind) → m ≡ a → is (look_at m.sight).kind k ≡ false → is (look_at a.sight).kind k ≡ false
moved {S = S} k e h = subst (λ (x : At S). is (look_at x.sight).kind k ≡ false) e h

-- if none of the keywords was consumed, a list comes
pub no_word_came : {S : Type 0} {a m n o q r : At S} → (is (look_at a.sight).kind kinds.Pass ≡ false) × (m ≡ a)
    → (is (look_at m.sight).kind kinds.Break ≡ false) × (n ≡ m) → (is (look_at n.sight).kind kinds.Continue ≡ false) × (o ≡ n)
    → (is (look_at o.sight).kind kinds.Return ≡ false) × (q ≡ o) → (is (look_at q.sight).kind kinds.Load ≡ false) × (r ≡ q) → (p : Place Module Small)
    → ruled a.types (read Small p) (look_at a.sight) ≡ Moves (Keep (read TestList (small_list_at p)))
no_word_came {a = a} f g h i j p = ap (λ m. Moves m) (no_word p (look_at a.sight).first (look_at a.sight).kind
    f.0 (moved kinds.Break f.1 g.0) (moved kinds.Continue (g.1 ∙ f.1) h.0) (moved kinds.Return (h.1 ∙ g.1 ∙ f.1) i.0)
    (moved kinds.Load (i.1 ∙ h.1 ∙ g.1 ∙ f.1) j.0))

module _ {S : Type 0} {steps : S → Option CodeLexeme → S → Type 0} where
  -- a small statement that was read is added
  pub added : {from : Place Module Small → State Module} {begin : ℕ} {a b : At S} {s : Statement no_payload} (ss : List (Statement no_payload))
      {ts : List (Statement no_payload)} → ts ≡ ss ++ s ∷ [] → FoundSmall steps from begin s a b → AddedSmall steps from begin ss ts a b
  added ss h f = record {
    derivation = f.derivation;
    means = (h ∙ ap (λ x. ss ++ x ∷ []) f.means.0, f.means.1);
    begin_is = f.begin_is;
    end_is = f.end_is;
    goes = f.goes;
  }

  -- ---- one keyword

  pub pass_found : {a b : At S} {i : Span} {s : Statement no_payload} → Advances steps a (lexeme tokens.Pass i) b → s ≡ statement i t.Pass
      → FoundSmall steps (λ p. read Small p) (begin_at a) s a b
  pass_found {i = i} v h = record {
    derivation = small_pass i;
    means = (h, refl);
    begin_is = λ rest. begin_seen v;
    end_is = λ before. v.end_is;
    goes = λ p. takes v refl stays;
  }

  pub break_found : {a b : At S} {i : Span} {s : Statement no_payload} → Advances steps a (lexeme tokens.Break i) b → s ≡ statement i t.Break
      → FoundSmall steps (λ p. read Small p) (begin_at a) s a b
  break_found {i = i} v h = record {
    derivation = small_break i;
    means = (h, refl);
    begin_is = λ rest. begin_seen v;
    end_is = λ before. v.end_is;
    goes = λ p. takes v refl stays;
  }

  pub continue_found : {a b : At S} {i : Span} {s : Statement no_payload} → Advances steps a (lexeme tokens.Continue i) b → s ≡ statement i t.Continue
      → FoundSmall steps (λ p. read Small p) (begin_at a) s a b
  continue_found {i = i} v h = record {
    derivation = small_continue i;
    means = (h, refl);
    begin_is = λ rest. begin_seen v;
    end_is = λ before. v.end_is;
    goes = λ p. takes v refl stays;
  }

  pub pass_wants : {a b : At S} {i : Span} → Advances steps a (lexeme tokens.Pass i) b → FailsFrom steps (λ (p : Place Module Small). read Small p) a b memory
  pass_wants {i = i} v = wants (λ p. done (small_pass i) p) (λ p. takes v refl stays)

  pub break_wants : {a b : At S} {i : Span} → Advances steps a (lexeme tokens.Break i) b → FailsFrom steps (λ (p : Place Module Small). read Small p) a b memory
  break_wants {i = i} v = wants (λ p. done (small_break i) p) (λ p. takes v refl stays)

  pub continue_wants : {a b : At S} {i : Span} → Advances steps a (lexeme tokens.Continue i) b
      → FailsFrom steps (λ (p : Place Module Small). read Small p) a b memory
  continue_wants {i = i} v = wants (λ p. done (small_continue i) p) (λ p. takes v refl stays)

  -- ---- after `return`

  module _ {a : At S} {r : Span} where
    pub no_value_found : {s : Statement no_payload} → a.end ≡ r.end → starts_test (look_at a.sight).kind ≡ false → s ≡ statement r (t.Return None)
        → FoundSmall steps (λ p. after_return r p) r.begin s a a
    no_value_found e h k = record {
      derivation = small_return r;
      means = (k, refl);
      begin_is = λ rest. refl;
      end_is = λ before. e;
      goes = λ p. keeps (rw h refl) stays;
    }

    -- no memory for what is read from here
    pub return_wants : FailsFrom steps (λ (p : Place Module Small). after_return r p) a a memory
    return_wants = wants (λ p. after_return r p) (λ p. stays)

    module _ (h : starts_test (look_at a.sight).kind ≡ true) where
      to_value : (p : Place Module Small) → Goes steps (after_return r p) a (read TestList (return_value_at r p)) a
      to_value p = keeps (rw h refl) stays

      pub value_fails : {b : At S} {n : Answer} → FailsFrom steps (λ (p : Place Module TestList). read TestList p) a b n
          → FailsFrom steps (λ (p : Place Module Small). after_return r p) a b n
      value_fails f = further (λ p. return_value_at r p) to_value f

      pub value_wants : {b : At S} {e : Expression no_payload} {several : Bool} → FoundList steps e several a b
          → FailsFrom steps (λ (p : Place Module Small). after_return r p) a b memory
      value_wants d = wants (λ p. done d.derivation (return_value_at r p)) (λ p. after (to_value p) (d.goes (return_value_at r p)))

      pub value_found : {b : At S} {e : Expression no_payload} {several : Bool} {s : Statement no_payload} → FoundList steps e several a b
          → s ≡ statement (from_to r.begin b.end) (t.Return (Some e)) → FoundSmall steps (λ p. after_return r p) r.begin s a b
      value_found {e = e} d k = record {
        derivation = small_return_value r d.derivation;
        means = (
          k ∙ ap (λ x. statement (from_to r.begin x) (t.Return (Some e))) (d.end_is r.end)
              ∙ ap (λ x. statement (derivation_span (small_return_value r d.derivation)) (t.Return (Some x))) d.means.0,
          refl,
        );
        begin_is = λ rest. refl;
        end_is = λ before. d.end_is r.end;
        goes = λ p. after (to_value p) (after (d.goes (return_value_at r p)) (passes d.means.1 refl stays));
      }

  -- ---- a list, and an assignment to it

  -- the same for an equal cursor
  pub small_at : {a n b : At S} {s : Statement no_payload} → n ≡ a → FoundSmall steps (λ p. read Small p) (begin_at n) s n b
      → FoundSmall steps (λ p. read Small p) (begin_at a) s a b
  small_at {b = b} {s = s} e d = subst (λ (x : At S). FoundSmall steps (λ p. read Small p) (begin_at x) s x b) e d

  pub fails_at : {a n b : At S} {r : Answer} → n ≡ a → FailsFrom steps (λ (p : Place Module Small). read Small p) n b r
      → FailsFrom steps (λ (p : Place Module Small). read Small p) a b r
  fails_at {b = b} {r = r} e f = subst (λ (x : At S). FailsFrom steps (λ (p : Place Module Small). read Small p) x b r) e f

  pub list_fails : {a b : At S} {n : Answer} → FailsFrom steps (λ (p : Place Module TestList). read TestList p) a b n
      → FailsFrom steps (λ (p : Place Module Small). read TestList (small_list_at p)) a b n
  list_fails f = further (λ p. small_list_at p) (λ p. stays) f

  module _ {a q : At S} {e : Expression no_payload} {several : Bool} (d : FoundList steps e several a q) where
    to_list : (p : Place Module Small) → Goes steps (read TestList (small_list_at p)) a (done d.derivation (small_list_at p)) q
    to_list p = d.goes (small_list_at p)

    -- no memory for the statement that the list is
    pub list_wants : FailsFrom steps (λ (p : Place Module Small). read TestList (small_list_at p)) a q memory
    list_wants = wants (λ p. done d.derivation (small_list_at p)) to_list

    -- what is read after the list
    pub list_read : {V : Type 0} (Means : V → Derivation Small → Type 0) (b : At S) {begin : ℕ} (r : Result V Refusal) → begin ≡ begin_at a
        → ParsesFrom steps (λ (p : Place Module Small). done d.derivation (small_list_at p)) begin Means q r b
        → ParsesFrom steps (λ (p : Place Module Small). read TestList (small_list_at p)) (begin_at a) Means a r b
    list_read Means b (Ok v) same x = record {
      derivation = x.derivation;
      means = x.means;
      begin_is = λ rest. x.begin_is rest ∙ same;
      end_is = x.end_is;
      goes = λ p. after (to_list p) (x.goes p);
    }
    list_read Means b (Err e) same f = further (λ p. p) to_list f

    -- neither a type nor an operator comes
    module _ (h : assigns (look_at q.sight).kind ≡ false) where
      pub several_stick : {r : Answer} → several ≡ true → r ≡ stop_at q → FailsFrom steps (λ (p : Place Module Small). read TestList (small_list_at p)) a q r
      several_stick k e = sticks e (λ p. record {
        state = done d.derivation (small_list_at p);
        goes = to_list p;
        fails = unbroken q.types d.derivation (small_list_at p) (look_at q.sight) d.means.1
            (several_stop d.derivation p (look_at q.sight) (sym k ∙ d.means.2) h);
      })

      pub single_found : {s : Statement no_payload} → several ≡ false → s ≡ statement (from_to (begin_at a) q.end) (t.Evaluate e)
          → FoundSmall steps (λ p. read TestList (small_list_at p)) (begin_at a) s a q
      single_found k x = single_is d.derivation d.means.0 (sym k ∙ d.means.2) d.begin_is d.end_is to_list x
        where
          single_is : {s : Statement no_payload} (l : Derivation TestList) → e ≡ tree l → false ≡ has_several l
              → ((rest : List Lexeme) → begin_of (yield_of l rest) ≡ begin_at a) → ((before : ℕ) → q.end ≡ end_of_last (right_side l) before)
              → ((p : Place Module Small) → Goes steps (read TestList (small_list_at p)) a (done l (small_list_at p)) q)
              → s ≡ statement (from_to (begin_at a) q.end) (t.Evaluate e)
              → FoundSmall steps (λ p. read TestList (small_list_at p)) (begin_at a) s a q
          single_is (list_plain (comma_list_one of_elements c)) m n b z r x = record {
            derivation = small_test c;
            means = (x ∙ ap (λ y. statement y (t.Evaluate e)) (same_spans (sym (b [])) (z 0)) ∙ ap (λ y. statement (derivation_span c) (t.Evaluate y)) m, refl);
            begin_is = b;
            end_is = z;
            goes = λ p. after (r p) (keeps (rw ((no_sign (look_at q.sight).kind h).0, (no_sign (look_at q.sight).kind h).1) refl) stays);
          }
          single_is (list_plain (comma_list_more u f c g)) m n b z r x = cc
          single_is (list_comma f c) m n b z r x = cc

  -- ---- the operator of an assignment

  pub sign_taken : {a m b : At S} {s : Span} {op : AssignOp} (k : Kind) → m ≡ a → k ≡ (look_at m.sight).kind → Some op ≡ augmented k
      → (what : Terminal) × Advances steps m (lexeme what s) b
      → (x : Lexeme) × (sign : AssignSign) × Advances steps a x b × (assign_at (kind_of x.token) ≡ Some sign) × (Some op ≡ assign_operator sign)
  sign_taken {m = m} {b = b} {s = s} {op = op} k same is e w =
      let seen : (look_at m.sight).kind ≡ kind_of w.0 = ap (λ y. (look_at y).kind) w.1.sees in
      let o = augmented_sign (kind_of w.0) op (sym (e ∙ ap augmented (is ∙ seen))) in
      (lexeme w.0 s, o.0, subst (λ (y : At S). Advances steps y (lexeme w.0 s) b) same w.1, o.1, o.2)

  -- ---- after the left side of an assignment

  module _ {q : At S} (d : Derivation TestList) (f : list_fault d ≡ None) (h : assigns (look_at q.sight).kind ≡ true) where
    to_annotation : (p : Place Module Small) → Goes steps (done d (small_list_at p)) q (read Annotation (assign_annotation_at d p)) q
    to_annotation p = passes f (some_sign d p (look_at q.sight) h) stays

    pub annotation_fails : {b : At S} {r : Answer} → FailsFrom steps (λ (p : Place Module Annotation). read Annotation p) q b r
        → FailsFrom steps (λ (p : Place Module Small). done d (small_list_at p)) q b r
    annotation_fails k = further (λ p. assign_annotation_at d p) to_annotation k

    module _ {n : At S} {type : MaybeType no_payload} (y : FoundAnnotation steps type q n) where
      to_sign : (p : Place Module Small) → Goes steps (done d (small_list_at p)) q (done y.derivation (assign_annotation_at d p)) n
      to_sign p = after (to_annotation p) (y.goes (assign_annotation_at d p))

      pub sign_absent : {b : At S} {r : Answer} → (assign_at (look_at n.sight).kind ≡ None) × (r ≡ stop_at b) × (b ≡ n)
          → FailsFrom steps (λ (p : Place Module Small). done d (small_list_at p)) q b r
      sign_absent k = due (λ p. done y.derivation (assign_annotation_at d p)) k.2 k.1 to_sign (λ p. rw k.0 refl)

      module _ {m : At S} {x : Lexeme} {o : AssignSign} (v : Advances steps n x m) (k : assign_at (kind_of x.token) ≡ Some o) where
        to_right : (p : Place Module Small) → Goes steps (done d (small_list_at p)) q (read TestList (assign_value_at d y.derivation o x.span p)) m
        to_right p = after (to_sign p) (takes v (rw k refl) stays)

        pub right_fails : {b : At S} {r : Answer} → FailsFrom steps (λ (p : Place Module TestList). read TestList p) m b r
            → FailsFrom steps (λ (p : Place Module Small). done d (small_list_at p)) q b r
        right_fails j = further (λ p. assign_value_at d y.derivation o x.span p) to_right j

        module _ {b : At S} {right : Expression no_payload} {several : Bool} (z : FoundList steps right several m b) where
          to_assignment : (p : Place Module Small) → Goes steps (done d (small_list_at p)) q (done (small_assign d y.derivation o x.span z.derivation) p) b
          to_assignment p = after (to_right p) (after (z.goes (assign_value_at d y.derivation o x.span p)) (passes z.means.1 refl stays))

          module _ {left : Expression no_payload} {op : Option AssignOp} (l : left ≡ tree d) (g : op ≡ assign_operator o) where
            same_fault : fault_of (assigned_target left type op) ≡ small_fault (small_assign d y.derivation o x.span z.derivation)
            same_fault = ap (λ u. fault_of (assigned_target u type op)) l ∙ ap (λ u. fault_of (assigned_target (tree d) u op)) y.means
                ∙ ap (λ u. fault_of (assigned_target (tree d) (tree y.derivation) u)) g

            pub assignment_breaks : {r : Answer} (u : Refusal) → Names (fault_of (assigned_target left type op)) u → r ≡ checked u b
                → FailsFrom steps (λ (p : Place Module Small). done d (small_list_at p)) q b r
            assignment_breaks u i j = check_fails u (small_assign d y.derivation o x.span z.derivation) (λ p. p) i j (sym same_fault) to_assignment

            pub assignment_found : {begin : ℕ} {s : Statement no_payload} → ((rest : List Lexeme) → begin_of (yield_of d rest) ≡ begin)
                → None ≡ fault_of (assigned_target left type op)
                → s ≡ statement (from_to begin b.end) (assigned type op right (target_of left)) → FoundSmall steps (λ p. done d (small_list_at p)) begin s q b
            assignment_found {begin = begin} c i j = record {
              derivation = small_assign d y.derivation o x.span z.derivation;
              means = (
                j ∙ ap (λ u. statement u (assigned type op right (target_of left))) (same_spans (sym (c _)) (z.end_is _))
                    ∙ ap (λ u. statement (derivation_span (small_assign d y.derivation o x.span z.derivation)) (assigned u op right (target_of left))) y.means
                    ∙ ap (λ u. statement (derivation_span (small_assign d y.derivation o x.span z.derivation))
                    (assigned (tree y.derivation) u right (target_of left))) g
                    ∙ ap (λ u. statement (derivation_span (small_assign d y.derivation o x.span z.derivation))
                    (assigned (tree y.derivation) (assign_operator o) u (target_of left))) z.means.0
                    ∙ ap (λ u. statement (derivation_span (small_assign d y.derivation o x.span z.derivation))
                    (assigned (tree y.derivation) (assign_operator o) (tree z.derivation) (target_of u))) l,
                sym (i ∙ same_fault),
              );
              begin_is = λ rest. c _;
              end_is = λ before. z.end_is _;
              goes = to_assignment;
            }

  -- ---- a name, and the value that is assigned to it

  -- the refusal as out of memory
  pub memory_fails : {from : Place Module Small → State Module} {a b : At S} {e : Refusal} → e ≡ refusals.Memory → FailsFrom steps from a b memory
      → FailsFrom steps from a b (refused e)
  memory_fails {from = from} {a = a} {b = b} h f = subst (λ x. FailsFrom steps from a b (refused x)) (sym h) f

  module _ {a m : At S} {w : Word} (u : Advances steps a (lexeme (tokens.Identifier w.text) w.span) m) where
    pub name_leaf : is_leaf (look_at a.sight).kind ≡ true
    name_leaf = ap (λ k. is_leaf (look_at k).kind) u.sees

    pub name_atom : {b : At S} (e : HeldExpr) → b ≡ m → expression_of e ≡ expression w.span (t.Identifier w tt) → Parses steps Atom IsAtom a (Ok e) b
    name_atom e same h = subst (λ (x : At S). Parses steps Atom IsAtom a (Ok e) x) (sym same) (leaf_kept u name_leaf e h)

    -- no memory for the expression that the name is
    pub name_wants : {b : At S} → b ≡ m → FailsFrom steps (λ (p : Place Module Small). read TestList (small_list_at p)) a b memory
    name_wants same = subst (λ (x : At S). FailsFrom steps (λ (p : Place Module Small). read TestList (small_list_at p)) a x memory) (sym same)
        (list_fails (leaf_wants u name_leaf))

    module _ {q : At S} {i : Span} (v : Advances steps m (lexeme tokens.Equal i) q) where
      named : FoundList steps (expression w.span (t.Identifier w tt)) false a m
      named = leaf_listed u name_leaf (ap (λ k. ends_expression (look_at k).kind) v.sees) (ap (λ k. is (look_at k).kind kinds.Comma) v.sees)

      comes : assigns (look_at m.sight).kind ≡ true
      comes = ap (λ k. assigns (look_at k).kind) v.sees

      untyped : FoundAnnotation steps t.no_type m m
      untyped = no_type_found (ap (λ k. is (look_at k).kind kinds.Colon) v.sees, refl)

      pub assigned_fails : {b : At S} {r : Answer} → FailsFrom steps (λ (p : Place Module TestList). read TestList p) q b r
          → FailsFrom steps (λ (p : Place Module Small). read TestList (small_list_at p)) a b r
      assigned_fails f = further (λ p. p) (to_list named) (right_fails named.derivation named.means.1 comes untyped v refl f)

      module _ {b : At S} {right : Expression no_payload} {several : Bool} (z : FoundList steps right several q b) where
        pub assigned_wants : FailsFrom steps (λ (p : Place Module Small). read TestList (small_list_at p)) a b memory
        assigned_wants = further (λ p. p) (to_list named)
            (wants (λ p. done (small_assign named.derivation untyped.derivation equal_sign i z.derivation) p)
            (to_assignment named.derivation named.means.1 comes untyped v refl z))

        pub assigned_found : {s : Statement no_payload} → s ≡ assigned_to w b.end right → FoundSmall steps (λ p. read TestList (small_list_at p))
            (begin_at a) s a b
        assigned_found {s = s} j =
            let same : w.span.begin ≡ begin_at a = begin_seen u in
            list_read named (λ (v : ⊤) d. (s ≡ tree d) × (small_fault d ≡ None)) b (Ok tt) refl
            (assignment_found named.derivation named.means.1 comes untyped v refl z named.means.0 refl named.begin_is refl
            (j ∙ ap (λ y. statement (from_to y b.end) (t.Assign (t.NameTarget w.span w tt) t.no_type right)) same))

  -- ---- after `load`

  module _ {a : At S} {l : Span} where
    pub round_absent : {b : At S} {r : Answer} → (is (look_at a.sight).kind kinds.OpeningRound ≡ false) × (r ≡ stop_at b) × (b ≡ a)
        → FailsFrom steps (λ (p : Place Module Small). load_round_due l p) a b r
    round_absent h = due (λ p. load_round_due l p) h.2 h.1 (λ p. stays) (λ p. rw h.0 refl)

    module _ {m : At S} {o : Span} (v : Advances steps a (lexeme tokens.OpeningRound o) m) where
      pub module_absent : {b : At S} {r : Answer} → (is (look_at m.sight).kind kinds.String ≡ false) × (r ≡ stop_at b) × (b ≡ m)
          → FailsFrom steps (λ (p : Place Module Small). load_round_due l p) a b r
      module_absent h = due (λ p. load_string_due l o p) h.2 h.1 (λ p. takes v refl stays) (λ p. rw h.0 refl)

      module _ {n : At S} {text : Text} {i : Span} (w : Advances steps m (lexeme (tokens.String text) i) n) where
        to_symbols : (p : Place Module Small) → Goes steps (load_round_due l p) a (read Symbols (load_symbols_at l o text i p)) n
        to_symbols p = takes v refl (takes w refl stays)

        pub load_fails : {b : At S} {r : Answer} → FailsFrom steps (λ (p : Place Module Symbols). read Symbols p) n b r
            → FailsFrom steps (λ (p : Place Module Small). load_round_due l p) a b r
        load_fails f = further (λ p. load_symbols_at l o text i p) to_symbols f

        module _ {q : At S} {args : List (LoadArg no_payload)} (d : FoundSymbols steps args n q) where
          to_closing : (p : Place Module Small) → Goes steps (load_round_due l p) a (load_due l o text i d.derivation p) q
          to_closing p = after (to_symbols p) (after (d.goes (load_symbols_at l o text i p)) (keeps refl stays))

          pub closing_absent : {b : At S} {r : Answer} → (is (look_at q.sight).kind kinds.ClosingRound ≡ false) × (r ≡ stop_at b) × (b ≡ q)
              → FailsFrom steps (λ (p : Place Module Small). load_round_due l p) a b r
          closing_absent h = due (λ p. load_due l o text i d.derivation p) h.2 h.1 to_closing (λ p. rw h.0 refl)

          pub load_wants : {b : At S} {c : Span} → Advances steps q (lexeme tokens.ClosingRound c) b
              → FailsFrom steps (λ (p : Place Module Small). load_round_due l p) a b memory
          load_wants {c = c} x = wants (λ p. done (small_load l o text i d.derivation c) p) (λ p. after (to_closing p) (takes x refl stays))

          pub load_found : {b : At S} {c : Span} {s : Statement no_payload} → Advances steps q (lexeme tokens.ClosingRound c) b
              → s ≡ statement (from_to l.begin b.end) (t.Load (at text i) args tt) → FoundSmall steps (λ p. load_round_due l p) l.begin s a b
          load_found {c = c} x k = record {
            derivation = small_load l o text i d.derivation c;
            means = (
              k ∙ ap (λ y. statement (from_to l.begin y) (t.Load (at text i) args tt)) x.end_is
                  ∙ ap (λ y. statement (from_to l.begin c.end) (t.Load (at text i) y tt)) d.means,
              refl,
            );
            begin_is = λ rest. refl;
            end_is = λ before. x.end_is;
            goes = λ p. after (to_closing p) (takes x refl stays);
          }
