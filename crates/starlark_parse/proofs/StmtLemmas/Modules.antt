-- The machine's paths through statements and modules, in the form in which the code's answers cite them.
use Rattle.std.proofs.Common.{◌≡◌, ℕ, Bool, true, false, List, [], ◌∷◌, ◌++◌, ◌≤◌, Option, Some, None, unwrap_or, option_map, IfSome, Result, Ok, Err, arith}
use Rattle.std.proofs.Common.{refl, sym, ◌∙◌, ap, subst}
use Rattle.std.specs.Prelude.{⊤}
use Rattle.std.specs.Result.{IsErrAnd}
use Rattle.starlark_lexer.specs.Tokens.{Span, from_to, Lexeme, lexeme, Terminal}
use Rattle.starlark_lexer.specs.Tokens as tokens
use Rattle.starlark_lexer.specs.Lexer.{CodeLexeme}
use Rattle.starlark_lexer.specs.declared.span.Pos.{Pos}
use Rattle.starlark_tree.specs.Ast.{Statement, no_payload}
use Rattle.starlark_parse_held.specs.declared.statement.HeldStmt.{HeldStmt}
use Rattle.starlark_parse_held.specs.declared.statement.HeldStmts.{HeldStmts}
use Rattle.starlark_parse_held.specs.Held.{statement_of, statements_in}
use Rattle.starlark_lexer.specs.declared.kind.Kind.{Kind}
use Rattle.starlark_lexer.specs.declared.kind.Kind.TheVariants as kinds
use Rattle.starlark_spec.specs.Items.{at_end, fails, out_of_memory}
use Rattle.starlark_spec.specs.Answers.{Answer}
use Rattle.starlark_spec.specs.Answers.Answer.{memory}
use Rattle.starlark_spec.specs.Grammar.{Nonterminal, Derivation, right_side, yield_of}
use Rattle.starlark_spec.specs.Grammar.Nonterminal.{Module, Stmt, Simple}
use Rattle.starlark_spec.specs.Grammar.Derivation.{module_none, module_newline, module_stmt, stmt_simple}
use Rattle.starlark_spec.specs.Trees.{tree, begin_of, end_of_last, first_begin, module_span, one_or_block}
use Rattle.starlark_lexer.specs.Kinds.{is, kind_of}
use Rattle.starlark_spec.specs.Machine.States.{Place, State, top, module_root, module_stmt_at, stmt_simple_at}
use Rattle.starlark_spec.specs.Machine.States.State.{read, done, def_name_due, module_tail}
use Rattle.starlark_spec.specs.Machine.Sight.{Sight, token, ending, look_at}
use Rattle.starlark_spec.specs.Machine.Moves.{Keep, move_stmt}
use Rattle.starlark_spec.specs.Machine.Faults.{Moves, ruled}
use Rattle.starlark_spec.specs.declared.refusal.Refusal.{Refusal}
use Rattle.starlark_spec.specs.Refusals.{refused}
use Rattle.starlark_parse_cursor.specs.Reading.{At, Advances, begin_at}
use Rattle.starlark_parse_cursor.specs.Contract.{Goes, Goes.stays, Goes.keeps, Goes.takes, FailsFrom, Found}
use Rattle.starlark_parse_cursor.proofs.Paths.{after, at_same, further, wants, begin_seen}
use Rattle.starlark_parse.specs.Stmt.Lines.{ParsesLine}
use Rattle.starlark_parse.specs.Stmt.Statements.{IsStmt, ParsesStmt, if_test_due, for_vars_due}
use Rattle.starlark_parse.specs.Stmt.Modules.{FoundModule, ParsesModule}
use Rattle.starlark_parse.proofs.StmtLemmas.SimpleStatements.{AddedLine}
use Rattle.starlark_parse.proofs.StmtLemmas.Blocks.{Added}

-- ---- statements

no_word : {b : Nonterminal} (p : Place b Stmt) (x : Lexeme) (k : Kind) → is k kinds.Def ≡ false → is k kinds.If ≡ false → is k kinds.For ≡ false
    → move_stmt p x k ≡ Keep (read Simple (stmt_simple_at p))
no_word p x kinds.Def f g h = cc
no_word p x kinds.If f g h = cc
no_word p x kinds.For f g h = cc
no_word p x k f g h = refl

module _ {S : Type 0} {steps : S → Option CodeLexeme → S → Type 0} where
  module _ {a m n o : At S} (f : (is (look_at a.sight).kind kinds.Def ≡ false) × (m ≡ a)) (g : (is (look_at m.sight).kind kinds.If ≡ false) × (n ≡ m))
      (h : (is (look_at n.sight).kind kinds.For ≡ false) × (o ≡ n)) where
    to_simple : (p : Place Module Stmt) → Goes steps (read Stmt p) a (read Simple (stmt_simple_at p)) o
    to_simple p = at_same (h.1 ∙ g.1 ∙ f.1) (keeps (ap (λ m. Moves m) (no_word p (look_at a.sight).first (look_at a.sight).kind f.0
        (subst (λ (x : At S). is (look_at x.sight).kind kinds.If ≡ false) f.1 g.0) (subst (λ (x : At S). is (look_at x.sight).kind kinds.For ≡ false)
        (g.1 ∙ f.1) h.0))) stays)

    simple_fails : {b : At S} {r : Answer} → FailsFrom steps (λ (p : Place Module Simple). read Simple p) o b r
        → FailsFrom steps (λ (p : Place Module Stmt). read Stmt p) a b r
    simple_fails e = further (λ p. stmt_simple_at p) to_simple e

    simple_found : {b : At S} (ss : List (Statement no_payload)) {ts : List (Statement no_payload)} → AddedLine steps ss ts o b
        → Added steps (begin_at a) ss ts a b
    simple_found ss d = record {
      derivation = stmt_simple d.derivation;
      means = d.means;
      begin_is = λ rest. d.begin_is rest ∙ ap begin_at (h.1 ∙ g.1 ∙ f.1);
      end_is = d.end_is;
      goes = λ p. after (to_simple p) (after (d.goes (stmt_simple_at p)) (keeps refl stays));
    }

  -- after `def`, `if` and `for`
  pub to_def : {a m : At S} {d : Span} → Advances steps a (lexeme tokens.Def d) m → (p : Place Module Stmt) → Goes steps (read Stmt p) a (def_name_due d p) m
  to_def v p = takes v refl stays

  pub to_if : {a m : At S} {i : Span} → Advances steps a (lexeme tokens.If i) m → (p : Place Module Stmt) → Goes steps (read Stmt p) a (if_test_due i p) m
  to_if v p = takes v refl stays

  pub to_for : {a m : At S} {f : Span} → Advances steps a (lexeme tokens.For f) m → (p : Place Module Stmt) → Goes steps (read Stmt p) a (for_vars_due f p) m
  to_for {a = a} v p = keeps (ap (λ k. ruled a.types (read Stmt p) (look_at k)) v.sees) (takes v refl stays)

  -- what is read after the keyword that a statement begins with
  module _ {from : Place Module Stmt → State Module} {a n m : At S} {x : Lexeme} (same : n ≡ a) (v : Advances steps n x m) (k : (p : Place Module Stmt)
      → Goes steps (read Stmt p) n (from p) m) where
    to_word : (p : Place Module Stmt) → Goes steps (read Stmt p) a (from p) m
    to_word p = subst (λ (y : At S). Goes steps (read Stmt p) y (from p) m) same (k p)

    pub word_fails : {b : At S} {r : Answer} → FailsFrom steps from m b r → FailsFrom steps (λ (p : Place Module Stmt). read Stmt p) a b r
    word_fails f = further (λ p. p) to_word f

    pub word_wants : {b : At S} (s : HeldStmt) → Found steps from x.span.begin (IsStmt s) m b
        → FailsFrom steps (λ (p : Place Module Stmt). read Stmt p) a b memory
    word_wants s d = wants (λ p. done d.derivation p) (λ p. after (to_word p) (d.goes p))

    pub word_added : {b : At S} (s : HeldStmt) (ss : List (Statement no_payload)) {ts : List (Statement no_payload)} → ts ≡ ss ++ statement_of s ∷ []
        → Found steps from x.span.begin (IsStmt s) m b → Added steps (begin_at a) ss ts a b
    word_added s ss h d = record {
      derivation = d.derivation;
      means = h ∙ ap (λ y. ss ++ y ∷ []) d.means;
      begin_is = λ rest. d.begin_is rest ∙ begin_seen v ∙ ap begin_at same;
      end_is = d.end_is;
      goes = λ p. after (to_word p) (d.goes p);
    }

-- the result of a line is that of the statement
pub simple_parses : {S : Type 0} (steps : S → Option CodeLexeme → S → Type 0) (old new : HeldStmts) (a m n o b : At S) (r : Result ⊤ Refusal)
    → (is (look_at a.sight).kind kinds.Def ≡ false) × (m ≡ a) → (is (look_at m.sight).kind kinds.If ≡ false) × (n ≡ m)
    → (is (look_at n.sight).kind kinds.For ≡ false) × (o ≡ n) → ParsesLine steps old new o r b → ParsesStmt steps old new a r b
simple_parses steps old new a m n o b (Ok v) f g h d = simple_found f g h (statements_in old) d
simple_parses steps old new a m n o b (Err e) f g h k = simple_fails f g h k

-- ---- modules

no_token_ends : (x : Terminal) → is (kind_of x) kinds.End ≡ false
no_token_ends (tokens.Identifier text) = refl
no_token_ends x = refl

true_or_false : {A : Type 0} (b : Bool) → b ≡ true → b ≡ false → A
true_or_false true h k = cc
true_or_false false h k = cc

pub sees_end : (k : Sight) → is (look_at k).kind kinds.End ≡ true → k ≡ ending at_end
sees_end (token x) h = true_or_false (is (kind_of x.token) kinds.End) h (no_token_ends x.token)
sees_end (ending at_end) h = refl
sees_end (ending (fails f)) h = cc
sees_end (ending out_of_memory) h = cc

-- statements were read, and more may come
pub record Statements {S : Type 0} (steps : S → Option CodeLexeme → S → Type 0) (a b : At S) (ss : List (Statement no_payload)) (begin : Option ℕ) : Type 0
  where
    pub derivation : Derivation Module
    pub means : tree derivation ≡ ss
    pub begin_is : first_begin derivation ≡ begin
    pub end_is : b.end ≡ end_of_last (right_side derivation) a.end
    pub goes : (p : Place Module Module) → Goes steps (read Module p) a (module_tail derivation p) b

module _ {S : Type 0} {steps : S → Option CodeLexeme → S → Type 0} where
  pub no_statements_yet : (a : At S) → Statements steps a a [] None
  no_statements_yet a = record { derivation = module_none; means = refl; begin_is = refl; end_is = refl; goes = λ p. keeps refl stays }

  module _ {a q : At S} {ss : List (Statement no_payload)} {begin : Option ℕ} (g : Statements steps a q ss begin) where
    pub statements_want : FailsFrom steps (λ (p : Place Module Module). read Module p) a q memory
    statements_want = wants (λ p. module_tail g.derivation p) g.goes

    -- the same for equal values
    pub restated : {rs : List (Statement no_payload)} {first : Option ℕ} → rs ≡ ss → first ≡ begin → Statements steps a q rs first
    restated e f = record { derivation = g.derivation; means = g.means ∙ sym e; begin_is = g.begin_is ∙ sym f; end_is = g.end_is; goes = g.goes }

    pub newline_read : {b : At S} {c : _} → Advances steps q (lexeme tokens.Newline c) b → Statements steps a b ss begin
    newline_read {c = c} v = record {
      derivation = module_newline g.derivation c;
      means = g.means;
      begin_is = g.begin_is;
      end_is = v.end_is;
      goes = λ p. after (g.goes p) (takes v refl stays);
    }

    module _ {n : At S} (h : is (look_at q.sight).kind kinds.End ≡ false) (k : (is (look_at q.sight).kind kinds.Newline ≡ false) × (n ≡ q)) where
      statement_comes : (p : Place Module Module) → Goes steps (read Module p) a (read Stmt (module_stmt_at g.derivation p)) n
      statement_comes p = at_same k.1 (after (g.goes p) (keeps (rw (h, k.0) refl) stays))

      pub statement_fails : {b : At S} {r : Answer} → FailsFrom steps (λ (p : Place Module Stmt). read Stmt p) n b r
          → FailsFrom steps (λ (p : Place Module Module). read Module p) a b r
      statement_fails f = further (λ p. module_stmt_at g.derivation p) statement_comes f

      pub statement_read : {b : At S} {ts : List (Statement no_payload)} → Added steps (begin_at n) ss ts n b
          → Statements steps a b ts (Some (unwrap_or begin (begin_at n)))
      statement_read d = record {
        derivation = module_stmt g.derivation d.derivation;
        means = ap (λ x. x ++ tree d.derivation ∷ []) g.means ∙ sym d.means;
        begin_is = ap (λ x. Some (unwrap_or x (begin_of (yield_of d.derivation [])))) g.begin_is ∙ ap (λ x. Some (unwrap_or begin x)) (d.begin_is []);
        end_is = d.end_is _;
        goes = λ p. after (statement_comes p) (after (d.goes (module_stmt_at g.derivation p)) (keeps refl stays));
      }

    pub module_found : (s : HeldStmt) → a.end ≡ 0 → is (look_at q.sight).kind kinds.End ≡ true
        → statement_of s ≡ one_or_block (from_to (unwrap_or begin q.end) q.end) ss → FoundModule steps a q (statement_of s)
    module_found s z h k =
        let e : q.end ≡ end_of_last (right_side g.derivation) 0 = g.end_is ∙ ap (end_of_last (right_side g.derivation)) z in record {
          derivation = g.derivation;
          tree_is = k ∙ ap (λ x. one_or_block (from_to (unwrap_or begin x) x) ss) e
              ∙ ap (λ x. one_or_block (from_to (unwrap_or x (end_of_last (right_side g.derivation) 0)) (end_of_last (right_side g.derivation) 0)) ss)
              (sym g.begin_is) ∙ ap (one_or_block (module_span g.derivation)) (sym g.means);
          at_end = sees_end q.sight h;
          goes = after (g.goes (top module_root)) (keeps (rw h refl) stays);
        }

pub unwraps : (begin : Option Pos) (end : Pos) → (unwrap_or begin end).byte ≡ unwrap_or (option_map (λ (p : Pos). p.byte) begin) end.byte
unwraps None end = refl
unwraps (Some p) end = refl

pub begins_before : (begin : Option Pos) (end : Pos) → IfSome begin (λ p. p.byte ≤ end.byte) → (unwrap_or begin end).byte ≤ end.byte
begins_before None end h = omega arith
begins_before (Some p) end h = h

pub stays_before : (begin : Option Pos) (end later : Pos) → IfSome begin (λ p. p.byte ≤ end.byte) → end.byte ≤ later.byte
    → IfSome begin (λ p. p.byte ≤ later.byte)
stays_before None end later h k = tt
stays_before (Some p) end later h k = omega (arith, h, k)

pub first_before : (begin : Option Pos) (end here later : Pos) → IfSome begin (λ p. p.byte ≤ end.byte) → end.byte ≤ later.byte → here.byte ≤ later.byte
    → (unwrap_or begin here).byte ≤ later.byte
first_before None end here later h k l = l
first_before (Some p) end here later h k l = omega (arith, h, k)

pub joined_is : {e : Statement no_payload} (begin : Option Pos) (first end : Pos) (ss : List (Statement no_payload))
    → e ≡ one_or_block (from_to first.byte end.byte) ss → first ≡ unwrap_or begin end
    → e ≡ one_or_block (from_to (unwrap_or (option_map (λ (p : Pos). p.byte) begin) end.byte) end.byte) ss
joined_is begin first end ss h f = h ∙ ap (λ (p : Pos). one_or_block (from_to p.byte end.byte) ss) f ∙ ap (λ x. one_or_block (from_to x end.byte) ss)
    (unwraps begin end)

-- the exit of a `?` in a module
pub module_exits : {S : Type 0} {steps : S → Option CodeLexeme → S → Type 0} (a b : At S) (r : Result HeldStmt Refusal) (e : Refusal)
    → IsErrAnd r (λ y. y ≡ e) → FailsFrom steps (λ (p : Place Module Module). read Module p) a b (refused e) → ParsesModule steps a r b
module_exits {steps = steps} a b (Err y) e h f = subst (λ x. FailsFrom steps (λ (p : Place Module Module). read Module p) a b (refused x)) (sym h) f
module_exits a b (Ok v) e h f = absurd h
