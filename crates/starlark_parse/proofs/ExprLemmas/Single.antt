-- Expressions of one atom and of one operation, which do not go through the operator stack.
use Rattle.std.proofs.Common.{◌≡◌, ℕ, Bool, true, false, Option, Some, None, Result, Ok, refl, sym, ◌∙◌, ap, subst, arith, ◌⊎◌}
use Rattle.std.specs.Option.{is_some}
use Rattle.starlark_lexer.specs.Tokens.{Span, lexeme, Terminal}
use Rattle.starlark_lexer.specs.Lexer.{CodeLexeme}
use Rattle.starlark_lexer.specs.declared.kind.Kind.{Kind}
use Rattle.starlark_lexer.specs.declared.kind.Kind.TheVariants as kinds
use Rattle.starlark_lexer.specs.Kinds.{is, kind_of}
use Rattle.starlark_tree.specs.Ast.{Expression, no_payload}
use Rattle.starlark_tree.specs.declared.ast.operator.BinOp.{BinOp}
use Rattle.starlark_spec.specs.Answers.{Answer}
use Rattle.starlark_spec.specs.Answers.Answer.{memory}
use Rattle.starlark_spec.specs.Grammar.{Derivation}
use Rattle.starlark_spec.specs.Grammar.PrecedenceLevel.{or_precedence}
use Rattle.starlark_spec.specs.Grammar.Nonterminal.{Module, Test, LeftAssociative, Unary, Primary, Atom}
use Rattle.starlark_spec.specs.Grammar.Derivation.{test_or, unary_primary, primary_atom}
use Rattle.starlark_spec.specs.Trees.{operation, tree, begin_of}
use Rattle.starlark_spec.specs.Machine.States.{Place, Place.test_or_at, Place.unary_primary_at, Place.primary_atom_at}
use Rattle.starlark_spec.specs.Machine.States.State.{read}
use Rattle.starlark_spec.specs.Machine.Sight.{look_at}
use Rattle.starlark_spec.specs.Machine.Firsts.{is_leaf, is_sign}
use Rattle.starlark_parse_held.specs.Held.{expression_of}
use Rattle.starlark_parse_held.specs.declared.expression.HeldExpr.{HeldExpr}
use Rattle.starlark_parse_build.specs.Operations.{Stack, Level, level_of, takes_not, is_vacant, is_comparison, disjunctions, waits, waits_at, nothing_waits}
use Rattle.starlark_parse_build.specs.Operations.Level.{or_level, and_level, comparison_level, bit_or_level, bit_xor_level, bit_and_level, shift_level}
use Rattle.starlark_parse_build.specs.Operations.Level.{add_level, multiply_level}
use Rattle.starlark_spec.specs.declared.refusal.Refusal.{Refusal}
use Rattle.starlark_parse_cursor.specs.Reading.{At, Advances, begin_at}
use Rattle.starlark_parse_cursor.specs.Contract.{Goes, Goes.stays, Goes.keeps, Goes.takes, FailsFrom, Found, Parses, ParsesFrom, starts_suffix, ends_expression}
use Rattle.starlark_parse_cursor.proofs.Paths.{after, further, begin_seen, wants, into_kept}
use Rattle.starlark_parse.specs.Expr.Expressions.{IsTest, IsOr, IsPrimary, IsAtom, leaf_expression}
use Rattle.starlark_parse.specs.Expr.Operators.{IsUnary, binary_operator}
use Rattle.starlark_parse.specs.Expr.Operating.{TakesNots, TakesNots.none_may_come, TakesOperator, HasRead, HasRead.nothing_read, HasRead.operator_read}
use Rattle.starlark_parse.specs.Expr.Operating.{OperandRead}
use Rattle.starlark_spec.proofs.Constructors.{not_true}
use Rattle.starlark_parse.proofs.ExprLemmas.Leaves.{leaf_is}
use Rattle.starlark_parse.proofs.ExprLemmas.Suffixes.{atom_read, suffixed_found, past_suffixes}
use Rattle.starlark_parse.proofs.ExprLemmas.Operands.{or_due, to_primary, unary_of_primary, value_found}
use Rattle.starlark_parse.proofs.ExprLemmas.Waiting.{nothing_held, unary_at, operand_due, disjunction, bound, from_nothing, from_nots, to_end}
use Rattle.starlark_parse.proofs.ExprLemmas.Operators.{Operands, OperandDue, no_nots_yet, nots_read, nothing_yet, nots_taken, operands_found, operator_taken}

-- what an atom of one token is not
record BeginsPlain (l : Kind) : Type 0 where
  no_lambda : is l kinds.Lambda ≡ false
  no_not : is l kinds.Not ≡ false
  no_sign : is_sign l ≡ false

leaf_begins : (l : Kind) → is_leaf l ≡ true → BeginsPlain l
leaf_begins kinds.Identifier h = record { no_lambda = refl; no_not = refl; no_sign = refl }
leaf_begins kinds.Int h = record { no_lambda = refl; no_not = refl; no_sign = refl }
leaf_begins kinds.Float h = record { no_lambda = refl; no_not = refl; no_sign = refl }
leaf_begins kinds.String h = record { no_lambda = refl; no_not = refl; no_sign = refl }
leaf_begins kinds.Bytes h = record { no_lambda = refl; no_not = refl; no_sign = refl }
leaf_begins kinds.Ellipsis h = record { no_lambda = refl; no_not = refl; no_sign = refl }
leaf_begins l h = not_true h

-- what comes if nothing continues
record GoesOnNot (l : Kind) : Type 0 where
  no_suffix : starts_suffix l ≡ false
  no_operator : binary_operator l ≡ None
  no_if : is l kinds.If ≡ false

nothing_goes_on : (l : Kind) → ends_expression l ≡ true → GoesOnNot l
nothing_goes_on kinds.Newline h = record { no_suffix = refl; no_operator = refl; no_if = refl }
nothing_goes_on kinds.Comma h = record { no_suffix = refl; no_operator = refl; no_if = refl }
nothing_goes_on kinds.Semicolon h = record { no_suffix = refl; no_operator = refl; no_if = refl }
nothing_goes_on kinds.Colon h = record { no_suffix = refl; no_operator = refl; no_if = refl }
nothing_goes_on kinds.Equal h = record { no_suffix = refl; no_operator = refl; no_if = refl }
nothing_goes_on kinds.ClosingRound h = record { no_suffix = refl; no_operator = refl; no_if = refl }
nothing_goes_on kinds.ClosingSquare h = record { no_suffix = refl; no_operator = refl; no_if = refl }
nothing_goes_on kinds.ClosingCurly h = record { no_suffix = refl; no_operator = refl; no_if = refl }
nothing_goes_on kinds.Else h = record { no_suffix = refl; no_operator = refl; no_if = refl }
nothing_goes_on kinds.For h = record { no_suffix = refl; no_operator = refl; no_if = refl }
nothing_goes_on l h = not_true h

pub none_is : {A : Type 0} (x : Option A) → is_some x ≡ false → x ≡ None
none_is None h = refl
none_is (Some y) h = cc

-- an operation that waits alone, with its right operand
operation_alone : (o : BinOp) (end last : ℕ) (e f : Expression no_payload) → disjunctions (waits o end e nothing_waits) last f ≡ operation e o f
operation_alone o end last e f = go (level_of o)
  where
    go : (l : Level) → disjunctions (waits_at l o end e nothing_waits) last f ≡ operation e o f
    go or_level = refl
    go and_level = refl
    go comparison_level = refl
    go bit_or_level = refl
    go bit_xor_level = refl
    go bit_and_level = refl
    go shift_level = refl
    go add_level = refl
    go multiply_level = refl

-- what is not a lambda
pub no_lambda_parses : {S : Type 0} (steps : S → Option CodeLexeme → S → Type 0) (a b : At S) (r : Result HeldExpr Refusal)
    → is (look_at a.sight).kind kinds.Lambda ≡ false → ParsesFrom steps or_due (begin_at a) IsTest a r b → Parses steps Test IsTest a r b
no_lambda_parses steps a b r h d = into_kept steps or_due IsTest a a b r refl (λ p. rw h refl) d

-- where an expression reads its first atom
abbrev leaf_place : Place Module Test → Place Module Atom
leaf_place p = primary_atom_at (unary_primary_at (unary_at nothing_held (test_or_at p)))

pub leaf_no_lambda : (l : Kind) → is_leaf l ≡ true → is l kinds.Lambda ≡ false
leaf_no_lambda l h = (leaf_begins l h).no_lambda

pub leaf_no_not : (l : Kind) → is_leaf l ≡ true → is l kinds.Not ≡ false
leaf_no_not l h = (leaf_begins l h).no_not

module _ {S : Type 0} {steps : S → Option CodeLexeme → S → Type 0} where
  -- ---- what was read from a start

  pub no_not_comes : (w : Stack) {a : At S} → is (look_at a.sight).kind kinds.Not ≡ false → TakesNots steps w a w a
  no_not_comes w {a = a} h = go (takes_not w) refl
    where
      go : (x : Bool) → takes_not w ≡ x → TakesNots steps w a w a
      go true e = nots_read (no_nots_yet w a) e (h, refl)
      go false e = none_may_come e refl refl

  pub has_read : {start b : At S} {w : Stack} → HasRead steps start w b → Operands steps w start b
  has_read (nothing_read h) = nothing_yet _ h
  has_read (operator_read g t o d k f e v) = operator_taken (nots_taken (has_read g) t) o d k _ e f v

  pub has_read_as : {start b : At S} {w z : Stack} → z ≡ w → HasRead steps start w b → HasRead steps start z b
  has_read_as {start = start} {b = b} e h = subst (λ x. HasRead steps start x b) (sym e) h

  module _ {start a : At S} {w : Stack} {o : HeldExpr} (r : OperandRead steps start w o a) where
    pub read_due : OperandDue steps w start r.due
    read_due = nots_taken (has_read r.reads) r.nots

    module _ {c : BinOp} (k : binary_operator (look_at a.sight).kind ≡ Some c) (f : is_vacant w.comparison ≡ true ⊎ (is_comparison c ≡ false)) {z : Stack}
        (e : z ≡ waits c a.end (expression_of o) w) {b : At S} (v : TakesOperator steps c a b) where
      pub operator_follows : HasRead steps start z b
      operator_follows = operator_read r.reads r.nots o r.operand k f e v

      pub operand_follows : {y : Stack} {m n : At S} {begin : ℕ} (p : HeldExpr) → TakesNots steps z b y m
          → Found steps (λ (q : Place Module Unary). read Unary q) begin (IsUnary p) m n → OperandRead steps start y p n
      operand_follows p t d = record { waited = z; before = b; due = _; begin = _; reads = operator_follows; nots = t; operand = d }

  -- memory ran out after an operator
  pub operator_wants : {start b : At S} {w : Stack} → HasRead steps start w b
      → FailsFrom steps (λ (p : Place Module (LeftAssociative or_precedence)). read (LeftAssociative or_precedence) p) start b memory
  operator_wants h = let g = has_read h in wants (λ p. operand_due g.held p) g.goes

  -- ---- the first operand, before which no `not` comes

  module _ {start : At S} (n : is (look_at start.sight).kind kinds.Not ≡ false) where
    pub first_due : OperandDue steps nothing_waits start start
    first_due = nots_taken (nothing_yet start refl) (no_not_comes nothing_waits n)

    pub first_read : {q : At S} {begin : ℕ} (o : HeldExpr) → Found steps (λ (p : Place Module Unary). read Unary p) begin (IsUnary o) start q
        → OperandRead steps start nothing_waits o q
    first_read o d = record {
      waited = nothing_waits;
      before = start;
      due = start;
      begin = _;
      reads = nothing_read refl;
      nots = no_not_comes nothing_waits n;
      operand = d;
    }

  -- ---- one operation

  pub right_due : {start b : At S} {w : Stack} → HasRead steps start w b → is (look_at b.sight).kind kinds.Not ≡ false → OperandDue steps w start b
  right_due g n = nots_taken (has_read g) (no_not_comes _ n)

  pub one_operation : {start b q : At S} {c : BinOp} (end : ℕ) {begin : ℕ} (o : HeldExpr)
      → HasRead steps start (waits c end (expression_of o) nothing_waits) b → is (look_at b.sight).kind kinds.Not ≡ false
      → (right : HeldExpr) → Found steps (λ (p : Place Module Unary). read Unary p) begin (IsUnary right) b q → (e : HeldExpr)
      → binary_operator (look_at q.sight).kind ≡ None
      → expression_of e ≡ operation (expression_of o) c (expression_of right)
      → Found steps (λ (p : Place Module (LeftAssociative or_precedence)). read (LeftAssociative or_precedence) p) (begin_at start) (IsOr e) start q
  one_operation {q = q} {c = c} end o g n right d e k m =
      operands_found (right_due g n) right d e k (m ∙ sym (operation_alone c end q.end (expression_of o) (expression_of right)))

  -- ---- whole expressions

  pub no_lambda_found : {a b : At S} {Means : Derivation Test → Type 0} → is (look_at a.sight).kind kinds.Lambda ≡ false
      → Found steps or_due (begin_at a) Means a b
      → Found steps (λ (p : Place Module Test). read Test p) (begin_at a) Means a b
  no_lambda_found h d = record {
    derivation = d.derivation;
    means = d.means;
    begin_is = d.begin_is;
    end_is = d.end_is;
    goes = λ p. keeps (rw h refl) (d.goes p);
  }

  pub no_lambda_fails : {a b : At S} {r : Answer} → is (look_at a.sight).kind kinds.Lambda ≡ false → FailsFrom steps or_due a b r
      → FailsFrom steps (λ (p : Place Module Test). read Test p) a b r
  no_lambda_fails h f = further (λ p. p) (λ p. keeps (rw h refl) stays) f

  -- an operand that nothing continues
  operand_parses : {a b : At S} (e : HeldExpr) → is (look_at a.sight).kind kinds.Lambda ≡ false → is (look_at a.sight).kind kinds.Not ≡ false
      → Found steps (λ (p : Place Module Unary). read Unary p) (begin_at a) (IsUnary e) a b → binary_operator (look_at b.sight).kind ≡ None
      → is (look_at b.sight).kind kinds.If ≡ false → Parses steps Test IsTest a (Ok e) b
  operand_parses {a = a} {b = b} e l n d k i =
      let o = operands_found (first_due n) e d e k refl in no_lambda_parses steps a b (Ok e) l (value_found o e o.means (i, refl))

  module _ {a : At S} (leaf : is_leaf (look_at a.sight).kind ≡ true) where
    leaf_due : (p : Place Module Test) → Goes steps (read Test p) a (read Primary (unary_primary_at (unary_at nothing_held (test_or_at p)))) a
    leaf_due p = keeps (rw (leaf_begins (look_at a.sight).kind leaf).no_lambda refl) (after (from_nothing (test_or_at p))
        (after (from_nots nothing_held (test_or_at p) refl (leaf_begins (look_at a.sight).kind leaf).no_not)
        (to_primary (leaf_begins (look_at a.sight).kind leaf).no_sign (unary_at nothing_held (test_or_at p)))))

    pub primary_fails : {b : At S} {r : Answer} → FailsFrom steps (λ (p : Place Module Primary). read Primary p) a b r
        → FailsFrom steps (λ (p : Place Module Test). read Test p) a b r
    primary_fails f = further (λ p. unary_primary_at (unary_at nothing_held (test_or_at p))) leaf_due f

    pub leaf_fails : {b : At S} {r : Answer} → FailsFrom steps (λ (p : Place Module Atom). read Atom p) a b r
        → FailsFrom steps (λ (p : Place Module Test). read Test p) a b r
    leaf_fails f = further leaf_place (λ p. after (leaf_due p) (keeps refl stays)) f

    pub primary_unary : {b : At S} (e : HeldExpr) → Found steps (λ (p : Place Module Primary). read Primary p) (begin_at a) (IsPrimary e) a b
        → Found steps (λ (p : Place Module Unary). read Unary p) (begin_at a) (IsUnary e) a b
    primary_unary {b = b} e d = unary_of_primary steps a b (Ok e) (leaf_begins (look_at a.sight).kind leaf).no_sign d

    -- an operand that begins with one token, and that nothing continues
    pub primary_alone : {b : At S} (e : HeldExpr) → Found steps (λ (p : Place Module Primary). read Primary p) (begin_at a) (IsPrimary e) a b
        → ends_expression (look_at b.sight).kind ≡ true → Parses steps Test IsTest a (Ok e) b
    primary_alone {b = b} e d h =
        let k = nothing_goes_on (look_at b.sight).kind h in operand_parses e (leaf_begins (look_at a.sight).kind leaf).no_lambda
        (leaf_begins (look_at a.sight).kind leaf).no_not (primary_unary e d) k.no_operator k.no_if

    pub atom_alone : {b : At S} (e : HeldExpr) → Found steps (λ (p : Place Module Atom). read Atom p) (begin_at a) (IsAtom e) a b
        → ends_expression (look_at b.sight).kind ≡ true → Parses steps Test IsTest a (Ok e) b
    atom_alone {b = b} e d h = primary_alone e (suffixed_found e (atom_read e d) (nothing_goes_on (look_at b.sight).kind h).no_suffix) h

  -- one token is an expression
  pub leaf_found : {a b : At S} {x : Terminal} {s : Span} → Advances steps a (lexeme x s) b → is_leaf (kind_of x) ≡ true
      → ends_expression (look_at b.sight).kind ≡ true
      → Found steps (λ (p : Place Module Test). read Test p) (begin_at a) (λ (d : Derivation Test). leaf_expression x s ≡ tree d) a b
  leaf_found {a = a} {b = b} {x = x} {s = s} v k h =
      let l = leaf_is x s k in
      let ends = nothing_goes_on (look_at b.sight).kind h in
      let leaf : is_leaf (look_at a.sight).kind ≡ true = ap (λ y. is_leaf (look_at y).kind) v.sees ∙ k in
      let read_it : Derivation Unary = unary_primary (primary_atom l.derivation) in
      record {
        derivation = test_or (disjunction nothing_held read_it);
        means = l.means;
        begin_is = λ rest. ap begin_of (l.spells rest) ∙ begin_seen v;
        end_is = λ before. v.end_is ∙ sym (l.ends before);
        goes = λ p.
            after (leaf_due leaf p) (keeps refl (takes v (l.takes_it (leaf_place p) a.types)
            (keeps refl (after (past_suffixes (primary_atom l.derivation) (unary_primary_at (unary_at nothing_held (test_or_at p))) ends.no_suffix)
            (keeps refl (after (to_end nothing_held read_it (test_or_at p) (omega (arith, ap bound ends.no_operator))) (keeps (rw ends.no_if refl) stays)))))));
      }
