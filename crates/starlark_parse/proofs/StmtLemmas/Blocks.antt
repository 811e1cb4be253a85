-- The machine's paths through lines, blocks and suites, in the form in which the code's answers cite them.
use Rattle.std.specs.Prelude.{⊤}
use Rattle.std.specs.Result.{IsErrAnd}
use Rattle.std.proofs.Common.{◌≡◌, ℕ, true, false, Result, Ok, Err, List, [], ◌∷◌, ◌++◌, Option, refl, sym, ◌∙◌, ap}
use Rattle.starlark_lexer.specs.Tokens.{Span, from_to, Lexeme, lexeme}
use Rattle.starlark_lexer.specs.Tokens as tokens
use Rattle.starlark_lexer.specs.Lexer.{CodeLexeme}
use Rattle.starlark_tree.specs.Ast.{Statement, no_payload}
use Rattle.starlark_parse_held.specs.declared.statement.HeldStmt.{HeldStmt}
use Rattle.starlark_parse_held.specs.Held.{statement_of}
use Rattle.starlark_lexer.specs.declared.kind.Kind.{Kind}
use Rattle.starlark_lexer.specs.declared.kind.Kind.TheVariants as kinds
use Rattle.starlark_spec.specs.Answers.{Answer}
use Rattle.starlark_spec.specs.Answers.Answer.{memory}
use Rattle.starlark_spec.specs.Grammar.{Nonterminal, Derivation, right_side}
use Rattle.starlark_spec.specs.Grammar.Nonterminal.{Module, Stmt, Simple, Suite, Block, Newlines}
use Rattle.starlark_spec.specs.Grammar.Derivation.{newlines_none, newlines_more, block_first, block_newline, block_stmt, suite_simple, suite_block, suite_open}
use Rattle.starlark_spec.specs.Trees.{tree, end_of_last, block_begin, block_span, one_or_block}
use Rattle.starlark_lexer.specs.Kinds.{is}
use Rattle.starlark_spec.specs.Machine.States.{Place, suite_simple_at, suite_newlines_at, suite_block_at, block_newlines_at, block_first_at, block_stmt_at}
use Rattle.starlark_spec.specs.Machine.States.State.{read, done, newlines_tail, block_tail, indent_due}
use Rattle.starlark_spec.specs.Machine.Sight.{look_at}
use Rattle.starlark_spec.specs.Machine.Moves.{Keep, move_block}
use Rattle.starlark_spec.specs.Machine.Faults.{Moves}
use Rattle.starlark_spec.specs.declared.refusal.Refusal.{Refusal}
use Rattle.starlark_spec.specs.Refusals.{refused}
use Rattle.starlark_parse_cursor.specs.Reading.{At, Advances, begin_at, stop_at}
use Rattle.starlark_parse_cursor.specs.Contract.{Goes, Goes.stays, Goes.keeps, Goes.takes, FailsFrom, Found, Parses}
use Rattle.starlark_parse_cursor.proofs.Paths.{after, at_same, further, due, wants, begin_seen}
use Rattle.starlark_parse.specs.Stmt.Lines.{IsSimple}
use Rattle.starlark_parse.specs.Stmt.Statements.{IsSuite, ends_block, ReadsNewlines, FoundBlock, Begun, Opened, Closed, Closed.by_dedent, Closed.by_end, Closes}
use Rattle.starlark_spec.proofs.Constructors.{not_false, not_true}

-- if none of these comes, a statement does
goes_on : {b : Nonterminal} (d : Derivation Block) (p : Place b Block) (x : Lexeme) (k : Kind) → is k kinds.Newline ≡ false → ends_block k ≡ false
    → move_block d p x k ≡ Keep (read Stmt (block_stmt_at d p))
goes_on d p x kinds.Newline f g = not_false f
goes_on d p x kinds.Dedent f g = not_false g
goes_on d p x kinds.End f g = not_false g
goes_on d p x k f g = refl

ends_there : {b : Nonterminal} (d : Derivation Block) (p : Place b Block) (x : Lexeme) (k : Kind) → ends_block k ≡ true → move_block d p x k ≡ Keep (done d p)
ends_there d p x kinds.Dedent f = refl
ends_there d p x kinds.End f = refl
ends_there d p x k f = not_true f

no_dedent_at_end : (k : Kind) → is k kinds.End ≡ true → is k kinds.Dedent ≡ false
no_dedent_at_end kinds.End h = refl
no_dedent_at_end k h = not_true h

-- a statement that was read, in terms of the statements before it and after it
abbrev pub Added : {S : Type 0} → (S → Option CodeLexeme → S → Type 0) → ℕ → List (Statement no_payload) → List (Statement no_payload) → At S → At S → Type 0
Added steps begin ss ts a b = Found steps (λ (p : Place Module Stmt). read Stmt p) begin (λ d. ts ≡ ss ++ tree d ∷ []) a b

-- lines without a token were read, and more may come
pub record Gap {S : Type 0} (steps : S → Option CodeLexeme → S → Type 0) (a b : At S) : Type 0 where
  pub derivation : Derivation Newlines
  pub end_is : b.end ≡ end_of_last (right_side derivation) a.end
  pub goes : (p : Place Module Newlines) → Goes steps (read Newlines p) a (newlines_tail derivation p) b

module _ {S : Type 0} {steps : S → Option CodeLexeme → S → Type 0} where
  -- ---- lines

  pub no_gap : (a : At S) → Gap steps a a
  no_gap a = record { derivation = newlines_none; end_is = refl; goes = λ p. keeps refl stays }

  pub gap_more : {a q b : At S} {c : Span} → Gap steps a q → Advances steps q (lexeme tokens.Newline c) b → Gap steps a b
  gap_more {c = c} g v = record { derivation = newlines_more g.derivation c; end_is = v.end_is; goes = λ p. after (g.goes p) (takes v refl stays) }

  pub gap_read : {a q b : At S} → Gap steps a q → (is (look_at q.sight).kind kinds.Newline ≡ false) × (b ≡ q) → ReadsNewlines steps a b
  gap_read g h = record {
    derivation = g.derivation;
    end_is = ap (λ (x : At S). x.end) h.1 ∙ g.end_is;
    goes = λ p. at_same h.1 (after (g.goes p) (keeps (rw h.0 refl) stays));
  }

  -- ---- blocks

  module _ {a q : At S} (g : ReadsNewlines steps a q) where
    to_first : (p : Place Module Block) → Goes steps (read Block p) a (read Stmt (block_first_at g.derivation p)) q
    to_first p = keeps refl (after (g.goes (block_newlines_at p)) (keeps refl stays))

    pub first_fails : {b : At S} {r : Answer} → FailsFrom steps (λ (p : Place Module Stmt). read Stmt p) q b r
        → FailsFrom steps (λ (p : Place Module Block). read Block p) a b r
    first_fails f = further (λ p. block_first_at g.derivation p) to_first f

    pub first_read : {m : At S} {begin : ℕ} {ss ts : List (Statement no_payload)} → ss ≡ [] → Added steps begin ss ts q m → Begun steps a m begin ts
    first_read e d = record {
      derivation = block_first g.derivation d.derivation;
      means = sym (d.means ∙ ap (λ x. x ++ tree d.derivation ∷ []) e);
      begin_is = d.begin_is [];
      end_is = λ before. d.end_is _;
      goes = λ p. after (to_first p) (after (d.goes (block_first_at g.derivation p)) (keeps refl stays));
    }

  module _ {a q : At S} {begin : ℕ} {ss : List (Statement no_payload)} (g : Begun steps a q begin ss) where
    -- the same for an equal place
    pub begun_at : {first : ℕ} → first ≡ begin → Begun steps a q first ss
    begun_at f = record { derivation = g.derivation; means = g.means; begin_is = g.begin_is ∙ sym f; end_is = g.end_is; goes = g.goes }

    pub begun_wants : FailsFrom steps (λ (p : Place Module Block). read Block p) a q memory
    begun_wants = wants (λ p. block_tail g.derivation p) g.goes

    pub line_read : {b : At S} {c : Span} → Advances steps q (lexeme tokens.Newline c) b → Begun steps a b begin ss
    line_read {c = c} v = record {
      derivation = block_newline g.derivation c;
      means = g.means;
      begin_is = g.begin_is;
      end_is = λ before. v.end_is;
      goes = λ p. after (g.goes p) (takes v refl stays);
    }

    module _ {n : At S} (k : (is (look_at q.sight).kind kinds.Newline ≡ false) × (n ≡ q)) (h : ends_block (look_at q.sight).kind ≡ false) where
      to_next : (p : Place Module Block) → Goes steps (read Block p) a (read Stmt (block_stmt_at g.derivation p)) n
      to_next p = at_same k.1 (after (g.goes p) (keeps (ap (λ m. Moves m) (goes_on g.derivation p (look_at q.sight).first (look_at q.sight).kind k.0 h)) stays))

      pub next_fails : {b : At S} {r : Answer} → FailsFrom steps (λ (p : Place Module Stmt). read Stmt p) n b r
          → FailsFrom steps (λ (p : Place Module Block). read Block p) a b r
      next_fails f = further (λ p. block_stmt_at g.derivation p) to_next f

      pub next_read : {m : At S} {there : ℕ} {ts : List (Statement no_payload)} → Added steps there ss ts n m → Begun steps a m begin ts
      next_read d = record {
        derivation = block_stmt g.derivation d.derivation;
        means = ap (λ x. x ++ tree d.derivation ∷ []) g.means ∙ sym d.means;
        begin_is = g.begin_is;
        end_is = λ before. d.end_is _;
        goes = λ p. after (to_next p) (after (d.goes (block_stmt_at g.derivation p)) (keeps refl stays));
      }

    pub block_ends : (s : HeldStmt) → ends_block (look_at q.sight).kind ≡ true → statement_of s ≡ one_or_block (from_to begin q.end) ss → FoundBlock steps s a q
    block_ends s e h = record {
      derivation = g.derivation;
      means = h ∙ ap (λ x. one_or_block (from_to x q.end) ss) (sym g.begin_is) ∙ ap (λ x. one_or_block (from_to (block_begin g.derivation) x) ss) (g.end_is 0)
          ∙ ap (one_or_block (block_span g.derivation)) (sym g.means);
      end_is = g.end_is;
      goes = λ p. after (g.goes p) (keeps (ap (λ m. Moves m) (ends_there g.derivation p (look_at q.sight).first (look_at q.sight).kind e)) stays);
    }

  -- ---- suites

  module _ {a m : At S} (k : (is (look_at a.sight).kind kinds.Newline ≡ false) × (m ≡ a)) where
    to_line : (p : Place Module Suite) → Goes steps (read Suite p) a (read Simple (suite_simple_at p)) m
    to_line p = at_same k.1 (keeps (rw k.0 refl) stays)

    line_fails : {b : At S} {r : Answer} → FailsFrom steps (λ (p : Place Module Simple). read Simple p) m b r
        → FailsFrom steps (λ (p : Place Module Suite). read Suite p) a b r
    line_fails f = further (λ p. suite_simple_at p) to_line f

    line_found : {b : At S} (s : HeldStmt) → Found steps (λ (p : Place Module Simple). read Simple p) (begin_at m) (IsSimple s) m b
        → Found steps (λ (p : Place Module Suite). read Suite p) (begin_at a) (IsSuite s) a b
    line_found s d = record {
      derivation = suite_simple d.derivation;
      means = d.means;
      begin_is = λ rest. d.begin_is rest ∙ ap begin_at k.1;
      end_is = d.end_is;
      goes = λ p. after (to_line p) (after (d.goes (suite_simple_at p)) (keeps refl stays));
    }

  module _ {a m q : At S} {n : Span} (v : Advances steps a (lexeme tokens.Newline n) m) (g : ReadsNewlines steps m q) where
    to_indent : (p : Place Module Suite) → Goes steps (read Suite p) a (indent_due n g.derivation p) q
    to_indent p = takes v refl (after (g.goes (suite_newlines_at n p)) (keeps refl stays))

    pub no_indent : {b : At S} {r : Answer} → (is (look_at q.sight).kind kinds.Indent ≡ false) × (r ≡ stop_at b) × (b ≡ q)
        → FailsFrom steps (λ (p : Place Module Suite). read Suite p) a b r
    no_indent h = due (λ p. indent_due n g.derivation p) h.2 h.1 to_indent (λ p. rw h.0 refl)

    pub opened : {b : At S} {i : Span} → Advances steps q (lexeme tokens.Indent i) b → Opened steps a b
    opened {i = i} w = record { newline = n; lines = g.derivation; indent = i; begin_is = begin_seen v; goes = λ p. after (to_indent p) (takes w refl stays) }

  module _ {a q : At S} (o : Opened steps a q) where
    pub block_fails : {b : At S} {r : Answer} → FailsFrom steps (λ (p : Place Module Block). read Block p) q b r
        → FailsFrom steps (λ (p : Place Module Suite). read Suite p) a b r
    block_fails f = further (λ p. suite_block_at o.newline o.lines o.indent p) o.goes f

    module _ {e : At S} (s : HeldStmt) (d : FoundBlock steps s q e) where
      to_dedent : (p : Place Module Suite) → Goes steps (read Suite p) a (done d.derivation (suite_block_at o.newline o.lines o.indent p)) e
      to_dedent p = after (o.goes p) (d.goes (suite_block_at o.newline o.lines o.indent p))

      pub suite_found : {b : At S} → Closed steps e b → Found steps (λ (p : Place Module Suite). read Suite p) (begin_at a) (IsSuite s) a b
      suite_found (by_dedent {x = x} y) = record {
        derivation = suite_block o.newline o.lines o.indent d.derivation x;
        means = d.means;
        begin_is = λ rest. o.begin_is;
        end_is = λ before. y.end_is;
        goes = λ p. after (to_dedent p) (takes y refl stays);
      }
      suite_found (by_end h same) = record {
        derivation = suite_open o.newline o.lines o.indent d.derivation;
        means = d.means;
        begin_is = λ rest. o.begin_is;
        end_is = λ before. ap (λ (x : At S). x.end) same ∙ d.end_is _;
        goes = λ p. at_same same (after (to_dedent p) (keeps (rw (no_dedent_at_end (look_at e.sight).kind h, h) refl) stays));
      }

      pub no_dedent : {b : At S} {r : Answer} → (is (look_at e.sight).kind kinds.End ≡ false) × (is (look_at e.sight).kind kinds.Dedent ≡ false)
          × (r ≡ stop_at b) × (b ≡ e) → FailsFrom steps (λ (p : Place Module Suite). read Suite p) a b r
      no_dedent h = due (λ p. done d.derivation (suite_block_at o.newline o.lines o.indent p)) h.3 h.2 to_dedent (λ p. rw (h.1, h.0) refl)

-- the result of a line is that of the suite
pub line_parses : {S : Type 0} (steps : S → Option CodeLexeme → S → Type 0) (a m b : At S) (r : Result HeldStmt Refusal)
    → (is (look_at a.sight).kind kinds.Newline ≡ false) × (m ≡ a) → Parses steps Simple IsSimple m r b → Parses steps Suite IsSuite a r b
line_parses steps a m b (Ok s) k d = line_found k s d
line_parses steps a m b (Err e) k f = line_fails k f

-- the exit of a `?` if a block does not end
pub stays_open : {S : Type 0} (steps : S → Option CodeLexeme → S → Type 0) (a b : At S) (r : Result ⊤ Refusal) (e : Refusal) → IsErrAnd r (λ y. y ≡ e)
    → (is (look_at a.sight).kind kinds.End ≡ false) × (is (look_at a.sight).kind kinds.Dedent ≡ false) × (refused e ≡ stop_at b) × (b ≡ a) → Closes steps a r b
stays_open steps a b (Err y) e h k = (k.0, k.1, ap refused h ∙ k.2, k.3)
stays_open steps a b (Ok v) e h k = absurd h
