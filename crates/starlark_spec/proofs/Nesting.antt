-- The tree of a derivation lies where its tokens do, and its parts lie in one another.
use Rattle.std.proofs.Common.{◌≡◌, ℕ, ◌≤◌, List as Seq, [], ◌∷◌, ◌++◌, Option, Some, None, unwrap_or, refl, ap, subst, arith, false}
use Rattle.std.specs.Bool.{⊤}
use Rattle.starlark_lexer.specs.Tokens.{Span, from_to, Lexeme, lexeme}
use Rattle.starlark_lexer.specs.Tokens as tokens
use Rattle.starlark_tree.specs.Ast as t
use Rattle.starlark_tree.specs.Ast.{Word, no_payload, Expression, expression, expression_span, Statement, statement, expressions_of, statements_of}
use Rattle.starlark_tree.specs.Ast.{arguments_of, parameters_of, pairs_of}
use Rattle.starlark_tree.specs.declared.ast.operator.AssignOp.{AssignOp}
use Rattle.starlark_tree.specs.declared.ast.operator.BinOp.{BinOp}
use Rattle.starlark_spec.specs.Assignments.{assigned}
use Rattle.starlark_spec.specs.Grammar.{Nonterminal, ElementKind, ElementOf, PrecedenceLevel, OperandOf, UnarySign, Derivation, RightSide, right_side}
use Rattle.starlark_spec.specs.Grammar.{yield_of, side_yield, sign_side}
use Rattle.starlark_spec.specs.Grammar as G
use Rattle.starlark_spec.specs.Trees.{begin_of, end_of_last, derivation_span, Subscript, one_index, two_indices, bounds, Pair, Comprehended, ElementTree}
use Rattle.starlark_spec.specs.Trees.{TreeOf, element_tree, operand_tree, operator_of, compared_by, operation, signed, one_or_tuple, grouped, subscripted}
use Rattle.starlark_spec.specs.Trees.{one_or_block, commas, element_commas, block_begin, block_span, if_form, load_arguments, tree, first_begin, module_span}
use Rattle.starlark_spec.specs.Trees.{target_of, assign_operator}
use Rattle.starlark_spec.specs.Nested.{IsInside, ExpressionIn, ExpressionsIn, MaybeIn, MaybeTypeIn, PairsIn, ArgumentsIn, ArgumentIn, ParametersIn}
use Rattle.starlark_spec.specs.Nested.{ParameterIn, ForInIn, ClausesIn, ClauseIn, TargetIn, LoadArgIn, Each, StatementIn, FormIn, StatementsIn, IsNested}
use Rattle.starlark_spec.specs.Nested.{AreInOrder, TreesAreNested}
use Rattle.starlark_spec.proofs.TokenSpans.{Laid, grows, laid, solid, begun, any_ends, Covers, covers}
use Rattle.starlark_spec.proofs.TargetSpans.{target_in, inside_inside}
use Rattle.starlark_lexer.specs.declared.kind.Kind.TheVariants as kinds
use Rattle.starlark_spec.proofs.Complete.{starts}

some_is : {x y : ℕ} → Some x ≡ Some y → x ≡ y
some_is {x = x} is = ap (λ o. unwrap_or o x) is

-- ---- what a nonterminal's tree is, inside a span

abbrev SubscriptIn : Span → Subscript → Type 0
SubscriptIn s (one_index i) = ExpressionIn s i
SubscriptIn s (two_indices i j) = ExpressionIn s i × ExpressionIn s j
SubscriptIn s (bounds start stop step) = MaybeIn s start × MaybeIn s stop × MaybeIn s step

abbrev PairIn : Span → Pair → Type 0
PairIn s p = ExpressionIn s p.0 × ExpressionIn s p.1

abbrev SymbolIn : Span → Word × Word → Type 0
SymbolIn s w = IsInside s w.0.span × IsInside s w.1.span

abbrev ComprehendedIn : Span → Comprehended → Type 0
ComprehendedIn s c = ForInIn s c.0 × Each (ClauseIn s) c.1

abbrev RestIn : Span → Option (Statement no_payload) → Type 0
RestIn s None = ⊤
RestIn s (Some x) = StatementIn s x

abbrev ItemIn : (k : ElementKind) → Span → ElementTree k → Type 0
ItemIn G.elements s x = ExpressionIn s x
ItemIn G.arguments s x = ArgumentIn s x
ItemIn G.entries s x = PairIn s x
ItemIn G.lambda_parameters s x = ParameterIn s x
ItemIn G.variables s x = ExpressionIn s x
ItemIn G.symbols s x = SymbolIn s x
ItemIn G.def_parameters s x = ParameterIn s x

abbrev Lies : (n : Nonterminal) → Span → TreeOf n → Type 0
Lies G.Module s v = Each (StatementIn s) v
Lies G.Stmt s v = StatementIn s v
Lies G.Simple s v = StatementIn s v
Lies G.Smalls s v = Each (StatementIn s) v
Lies G.Small s v = StatementIn s v
Lies G.TestList s v = ExpressionIn s v
Lies G.Annotation s v = MaybeTypeIn s v
Lies G.Note s v = ExpressionIn s v
Lies G.Symbols s v = Each (LoadArgIn s) v
Lies G.Sym s v = SymbolIn s v
Lies G.Suite s v = StatementIn s v
Lies G.Block s v = Each (StatementIn s) v
Lies G.Newlines s v = ⊤
Lies G.Rest s v = RestIn s v
Lies G.For s v = StatementIn s v
Lies G.ReturnType s v = MaybeTypeIn s v
Lies G.DefParam s v = ParameterIn s v
Lies G.Test s v = ExpressionIn s v
Lies (G.LeftAssociative k) s v = ExpressionIn s v
Lies G.Not s v = ExpressionIn s v
Lies G.Comp s v = ExpressionIn s v
Lies G.Unary s v = ExpressionIn s v
Lies G.Primary s v = ExpressionIn s v
Lies G.Atom s v = ExpressionIn s v
Lies G.Sub s v = SubscriptIn s v
Lies G.Bound s v = MaybeIn s v
Lies G.Arg s v = ArgumentIn s v
Lies G.Entry s v = PairIn s v
Lies G.LambdaParam s v = ParameterIn s v
Lies G.FStringParts s v = Each (ExpressionIn s) v.values
Lies G.Conversion s v = ⊤
Lies G.LoopVars s v = ExpressionIn s v
Lies G.ForClause s v = ForInIn s v
Lies G.Clauses s v = ComprehendedIn s v
Lies (G.OptionalList k) s v = Each (ItemIn k s) v
Lies (G.CommaList k) s v = Each (ItemIn k s) v

operand_in : {k : PrecedenceLevel} {n : Nonterminal} (s : Span) (u : OperandOf k n) (v : TreeOf n) → Lies n s v → ExpressionIn s (operand_tree u v)
operand_in s G.of_or v h = h
operand_in s G.of_and v h = h
operand_in s G.of_bit_or v h = h
operand_in s G.of_xor v h = h
operand_in s G.of_bit_and v h = h
operand_in s G.of_shift v h = h
operand_in s G.of_add v h = h
operand_in s G.of_multiply v h = h

item_in : {k : ElementKind} {n : Nonterminal} (s : Span) (u : ElementOf k n) (v : TreeOf n) → Lies n s v → ItemIn k s (element_tree u v)
item_in s G.of_elements v h = h
item_in s G.of_arguments v h = h
item_in s G.of_entries v h = h
item_in s G.of_lambda_parameters v h = h
item_in s G.of_variables v h = h
item_in s G.of_symbols v h = h
item_in s G.of_def_parameters v h = h

-- ---- what is built of parts

one_more : {A : Type 0} (Holds : A → Type 0) (xs : Seq A) (y : A) → Each Holds xs → Holds y → Each Holds (xs ++ y ∷ [])
one_more Holds [] y h g = (g, tt)
one_more Holds (x ∷ xs) y h g = (h.0, one_more Holds xs y h.1 g)

expressions_in : (s : Span) (es : Seq (Expression no_payload)) → Each (ExpressionIn s) es → ExpressionsIn s (expressions_of es)
expressions_in s [] h = tt
expressions_in s (e ∷ es) h = (h.0, expressions_in s es h.1)

arguments_in : (s : Span) (es : Seq (t.Argument no_payload)) → Each (ArgumentIn s) es → ArgumentsIn s (arguments_of es)
arguments_in s [] h = tt
arguments_in s (e ∷ es) h = (h.0, arguments_in s es h.1)

parameters_in : (s : Span) (es : Seq (t.Parameter no_payload)) → Each (ParameterIn s) es → ParametersIn s (parameters_of es)
parameters_in s [] h = tt
parameters_in s (e ∷ es) h = (h.0, parameters_in s es h.1)

pairs_in : (s : Span) (es : Seq Pair) → Each (PairIn s) es → PairsIn s (pairs_of es)
pairs_in s [] h = tt
pairs_in s (e ∷ es) h = (h.0.0, h.0.1, pairs_in s es h.1)

clauses_in : (s : Span) (cs : Seq (t.Clause no_payload)) → Each (ClauseIn s) cs → ClausesIn s (t.clauses_of cs)
clauses_in s [] h = tt
clauses_in s (c ∷ cs) h = (h.0, clauses_in s cs h.1)

statements_in : (s : Span) (ss : Seq (Statement no_payload)) → Each (StatementIn s) ss → StatementsIn s (statements_of ss)
statements_in s [] h = tt
statements_in s (x ∷ xs) h = (h.0, statements_in s xs h.1)

span_in : (s : Span) (e : Expression no_payload) → ExpressionIn s e → IsInside s (expression_span e)
span_in s (expression own shape) h = h.0

-- an expression lies in any span that contains its own
moved : (s other : Span) (e : Expression no_payload) → ExpressionIn s e → other.begin ≤ (expression_span e).begin → (expression_span e).end ≤ other.end
    → ExpressionIn other e
moved s other (expression own shape) h b e = (record { begins = b; runs = h.0.runs; ends = e }, h.1)

wider_statement : (s own : Span) (x : Statement no_payload) → IsInside s own → StatementIn own x → StatementIn s x
wider_statement s own (statement inner form) w h = (inside_inside w h.0, h.1)

wider : (s own : Span) (e : Expression no_payload) → IsInside s own → ExpressionIn own e → ExpressionIn s e
wider s own (expression inner shape) w h = (inside_inside w h.0, h.1)

tuple_or_one : (s own : Span) (es : Seq (Expression no_payload)) → IsInside s own → Each (ExpressionIn own) es → ExpressionIn s (one_or_tuple own es)
tuple_or_one s own [] w h = (w, tt)
tuple_or_one s own (e ∷ []) w h = wider s own e w h.0
tuple_or_one s own (e ∷ (f ∷ es)) w h = (w, expressions_in own (e ∷ (f ∷ es)) h)

block_or_one : (s own : Span) (ss : Seq (Statement no_payload)) → IsInside s own → Each (StatementIn own) ss → StatementIn s (one_or_block own ss)
block_or_one s own [] w h = (w, tt)
block_or_one s own (e ∷ []) w h = wider_statement s own e w h.0
block_or_one s own (e ∷ (f ∷ es)) w h = (w, statements_in own (e ∷ (f ∷ es)) h)

-- two operands, the left one before an offset and the right one after it
operation_in : (s : Span) (m n : ℕ) (o : BinOp) (e f : Expression no_payload) → ExpressionIn (from_to s.begin m) e → m ≤ n → ExpressionIn (from_to n s.end) f
    → ExpressionIn s (operation e o f)
operation_in s m n o e f h between g =
    let x = span_in (from_to s.begin m) e h in
    let y = span_in (from_to n s.end) f g in
    let own : Span = from_to (expression_span e).begin (expression_span f).end in (
      record { begins = omega (arith, x.begins); runs = omega (arith, x.runs, x.ends, between, y.begins, y.runs); ends = omega (arith, y.ends) },
      (
        moved (from_to s.begin m) own e h (omega arith) (omega (arith, x.ends, between, y.begins, y.runs)),
        moved (from_to n s.end) own f g (omega (arith, x.runs, x.ends, between, y.begins)) (omega arith),
      ),
    )

signed_in : (s : Span) (u : UnarySign) (own : Span) (e : Expression no_payload) → IsInside s own → ExpressionIn own e → ExpressionIn s (signed u own e)
signed_in s G.plus_sign own e w h = (w, h)
signed_in s G.minus_sign own e w h = (w, h)
signed_in s G.tilde_sign own e w h = (w, h)

subscripted_in : (s own : Span) (e : Expression no_payload) (x : Subscript) → IsInside s own → ExpressionIn own e → SubscriptIn own x
    → ExpressionIn s (subscripted own e x)
subscripted_in s own e (one_index i) w h g = (w, (h, g))
subscripted_in s own e (two_indices i j) w h g = (w, (h, g.0, g.1))
subscripted_in s own e (bounds start stop step) w h g = (w, (h, g.0, g.1, g.2))

assigned_in : (s : Span) (type : t.MaybeType no_payload) (o : Option AssignOp) (e : Expression no_payload) (x : t.Target no_payload) → MaybeTypeIn s type
    → ExpressionIn s e → TargetIn s x → FormIn s (assigned type o e x)
assigned_in s type None e x a b c = (c, a, b)
assigned_in s type (Some o) e x a b c = (c, b)

if_in : (s : Span) (c : Expression no_payload) (b : Statement no_payload) (r : Option (Statement no_payload)) → ExpressionIn s c → StatementIn s b
    → RestIn s r → FormIn s (if_form c b r)
if_in s c b None x y z = (x, y)
if_in s c b (Some o) x y z = (x, y, z)

typed_in : (s : Span) (e : Expression no_payload) → ExpressionIn s e → MaybeTypeIn s (t.typed (expression_span e) e tt)
typed_in s (expression own shape) h = (h.0, (record { begins = omega arith; runs = h.0.runs; ends = omega arith }, h.1))

load_in : (s : Span) (names : Seq (Word × Word)) (cs : Seq Span) → Each (SymbolIn s) names → Each (IsInside s) cs → Each (LoadArgIn s) (load_arguments names cs)
load_in s [] cs h g = tt
load_in s (n ∷ ns) [] h g = ((h.0.0, h.0.1, tt), load_in s ns [] h.1 tt)
load_in s (n ∷ ns) (c ∷ cs) h g = ((h.0.0, h.0.1, g.0), load_in s ns cs h.1 g.1)

-- from its first token to its last a part lies where it does
inside_of : {s : Span} {p : RightSide} {a : ℕ} → s.begin ≤ a → end_of_last p a ≤ s.end → Covers p a
    → IsInside s (from_to (begin_of (side_yield p [])) (end_of_last p 0))
inside_of b t c = record { begins = omega (arith, b, c.after); runs = c.runs; ends = omega (arith, c.same, t) }

-- the first of an optional offset and another
first_of : (o : Option ℕ) (b n top : ℕ) → unwrap_or o b ≡ n → b ≤ top → ((k : ℕ) → o ≡ Some k → k ≤ top) → n ≤ top
first_of None b n top is h g = omega (arith, is, h)
first_of (Some k) b n top is h g = omega (arith, is, g k refl)

earlier : (o : Option ℕ) (b n w : ℕ) → w ≤ unwrap_or o b → o ≡ Some n → w ≤ n
earlier None b n w h is = cc
earlier (Some k) b n w h is = omega (arith, h, some_is is)

at_last : (o : Option ℕ) (b w : ℕ) → w ≤ unwrap_or o b → ((n : ℕ) → o ≡ Some n → n ≤ b) → w ≤ b
at_last None b w h g = h
at_last (Some k) b w h g = omega (arith, h, g k refl)

begins_at : (o : Option ℕ) (n e : ℕ) → o ≡ Some n → unwrap_or o e ≤ n
begins_at None n e is = cc
begins_at (Some k) n e is = omega (arith, some_is is)

-- where a derivation ends does not depend on what is before it
sym_ends : {n : Nonterminal} (d : Derivation n) (a b : ℕ) → starts n kinds.End ≡ false → end_of_last (right_side d) a ≡ end_of_last (right_side d) b
sym_ends d a b none = any_ends (right_side d) a b (solid d none)

-- where a block's first statement begins
record BlockIn (x : Derivation G.Block) (a : ℕ) : Type 0 where
  pub after : a ≤ block_begin x
  pub runs : block_begin x ≤ end_of_last (right_side x) a
  pub same : end_of_last (right_side x) 0 ≡ end_of_last (right_side x) a

block_in : (x : Derivation G.Block) (a : ℕ) → Laid (right_side x) a → BlockIn x a
block_in (G.block_first d s) a l =
    let c0 : Covers (right_side s) (end_of_last (right_side d) a) = covers (right_side s) (end_of_last (right_side d) a) (solid s refl) l.1 in
    record {
      after = omega (arith, grows (right_side d) a l.0, c0.after);
      runs = omega (arith, c0.runs, c0.same);
      same = sym_ends s (end_of_last (right_side d) 0) (end_of_last (right_side d) a) refl;
    }
block_in (G.block_newline x s) a l =
    let y = block_in x a l.0 in
    record { after = y.after; runs = omega (arith, y.runs, l.1.0, l.1.1); same = refl }
block_in (G.block_stmt x s) a l =
    let y = block_in x a l.0 in
    record {
      after = y.after;
      runs = omega (arith, y.runs, grows (right_side s) (end_of_last (right_side x) a) l.1);
      same = sym_ends s (end_of_last (right_side x) 0) (end_of_last (right_side x) a) refl;
    }

commas_after : {k : ElementKind} (d : Derivation (G.CommaList k)) (a : ℕ) (z : Span) → Laid (right_side d) a → z.begin ≤ a
    → end_of_last (right_side d) a ≤ z.end → Each (IsInside z) (element_commas d)
commas_after (G.comma_list_one u d) a z l b e = tt
commas_after (G.comma_list_more u d c x) a z l b e =
    one_more (IsInside z) (element_commas d) c (commas_after d a z l.0 b (omega (arith, l.1.0.0, l.1.0.1, grows (right_side x) c.end l.1.1, e)))
    (record { begins = omega (arith, b, grows (right_side d) a l.0, l.1.0.0); runs = l.1.0.1; ends = omega (arith, grows (right_side x) c.end l.1.1, e) })

commas_in : {k : ElementKind} (d : Derivation (G.OptionalList k)) (a : ℕ) (z : Span) → Laid (right_side d) a → z.begin ≤ a
    → end_of_last (right_side d) a ≤ z.end → Each (IsInside z) (commas d)
commas_in G.optional_list_none a z l b e = tt
commas_in (G.optional_list_plain d) a z l b e = commas_after d a z l b e
commas_in (G.optional_list_comma d c) a z l b e =
    one_more (IsInside z) (element_commas d) c (commas_after d a z l.0 b (omega (arith, l.1.0, l.1.1, e)))
    (record { begins = omega (arith, b, grows (right_side d) a l.0, l.1.0); runs = l.1.1; ends = e })

mutual
  -- the tree of a derivation lies inside each span that contains its tokens
  tree_in : {n : Nonterminal} (d : Derivation n) (a : ℕ) (z : Span) → Laid (right_side d) a → z.begin ≤ a → end_of_last (right_side d) a ≤ z.end
      → Lies n z (tree d)
  tree_in G.module_none a z l b e = tt
  tree_in (G.module_newline m s) a z l b e = (tree_in m (a) (z) l.0 (omega (arith, grows (right_side m) (a) l.0, l.1.0, l.1.1, b, e))
      (omega (arith, grows (right_side m) (a) l.0, l.1.0, l.1.1, b, e)))
  tree_in (G.module_stmt m d) a z l b e = one_more (StatementIn z) (tree m) (tree d)
      (tree_in m (a) (z) l.0 (omega (arith, grows (right_side m) (a) l.0, grows (right_side d) (end_of_last (right_side m) (a)) l.1, b, e))
      (omega (arith, grows (right_side m) (a) l.0, grows (right_side d) (end_of_last (right_side m) (a)) l.1, b, e)))
      (tree_in d (end_of_last (right_side m) (a)) (z) l.1 (omega (
        arith,
        grows (right_side m) (a) l.0,
        grows (right_side d) (end_of_last (right_side m) (a)) l.1,
        b,
        e,
      )) (omega (
        arith,
        grows (right_side m) (a) l.0,
        grows (right_side d) (end_of_last (right_side m) (a)) l.1,
        b,
        e,
      )))
  tree_in (G.stmt_simple d) a z l b e = tree_in d a z l b e
  tree_in (G.stmt_def d text i o ps c r k s) a z l b e = let cv : Covers (right_side (G.stmt_def d text i o ps c r k s)) a =
      covers (right_side (G.stmt_def d text i o ps c r k s)) a (solid (G.stmt_def d text i o ps c r k s) refl) l in
      let own : Span = derivation_span (G.stmt_def d text i o ps c r k s) in (
        (inside_of b e cv),
        (
          (record {
            begins = omega (
              arith,
              cv.own.0.0,
              cv.own.0.1,
              cv.own.1.0.0,
              cv.own.1.0.1,
              cv.own.1.1.0.0,
              cv.own.1.1.0.1,
              grows (right_side ps) (o.end) cv.own.1.1.1.0,
              cv.own.1.1.1.1.0.0,
              cv.own.1.1.1.1.0.1,
              grows (right_side r) (c.end) cv.own.1.1.1.1.1.0,
              cv.own.1.1.1.1.1.1.0.0,
              cv.own.1.1.1.1.1.1.0.1,
              grows (right_side s) (k.end) cv.own.1.1.1.1.1.1.1,
              cv.runs,
              cv.same_own,
            );
            runs = cv.own.1.0.1;
            ends = omega (
              arith,
              cv.own.0.0,
              cv.own.0.1,
              cv.own.1.0.0,
              cv.own.1.0.1,
              cv.own.1.1.0.0,
              cv.own.1.1.0.1,
              grows (right_side ps) (o.end) cv.own.1.1.1.0,
              cv.own.1.1.1.1.0.0,
              cv.own.1.1.1.1.0.1,
              grows (right_side r) (c.end) cv.own.1.1.1.1.1.0,
              cv.own.1.1.1.1.1.1.0.0,
              cv.own.1.1.1.1.1.1.0.1,
              grows (right_side s) (k.end) cv.own.1.1.1.1.1.1.1,
              cv.runs,
              cv.same_own,
            );
          }),
          parameters_in own (tree ps) (tree_in ps (o.end) (own) cv.own.1.1.1.0 (omega (
            arith,
            cv.own.0.0,
            cv.own.0.1,
            cv.own.1.0.0,
            cv.own.1.0.1,
            cv.own.1.1.0.0,
            cv.own.1.1.0.1,
            grows (right_side ps) (o.end) cv.own.1.1.1.0,
            cv.own.1.1.1.1.0.0,
            cv.own.1.1.1.1.0.1,
            grows (right_side r) (c.end) cv.own.1.1.1.1.1.0,
            cv.own.1.1.1.1.1.1.0.0,
            cv.own.1.1.1.1.1.1.0.1,
            grows (right_side s) (k.end) cv.own.1.1.1.1.1.1.1,
            cv.runs,
            cv.same_own,
          ))
              (omega (
                arith,
                cv.own.0.0,
                cv.own.0.1,
                cv.own.1.0.0,
                cv.own.1.0.1,
                cv.own.1.1.0.0,
                cv.own.1.1.0.1,
                grows (right_side ps) (o.end) cv.own.1.1.1.0,
                cv.own.1.1.1.1.0.0,
                cv.own.1.1.1.1.0.1,
                grows (right_side r) (c.end) cv.own.1.1.1.1.1.0,
                cv.own.1.1.1.1.1.1.0.0,
                cv.own.1.1.1.1.1.1.0.1,
                grows (right_side s) (k.end) cv.own.1.1.1.1.1.1.1,
                cv.runs,
                cv.same_own,
              ))),
          (tree_in r (c.end) (own) cv.own.1.1.1.1.1.0 (omega (
            arith,
            cv.own.0.0,
            cv.own.0.1,
            cv.own.1.0.0,
            cv.own.1.0.1,
            cv.own.1.1.0.0,
            cv.own.1.1.0.1,
            grows (right_side ps) (o.end) cv.own.1.1.1.0,
            cv.own.1.1.1.1.0.0,
            cv.own.1.1.1.1.0.1,
            grows (right_side r) (c.end) cv.own.1.1.1.1.1.0,
            cv.own.1.1.1.1.1.1.0.0,
            cv.own.1.1.1.1.1.1.0.1,
            grows (right_side s) (k.end) cv.own.1.1.1.1.1.1.1,
            cv.runs,
            cv.same_own,
          ))
              (omega (
                arith,
                cv.own.0.0,
                cv.own.0.1,
                cv.own.1.0.0,
                cv.own.1.0.1,
                cv.own.1.1.0.0,
                cv.own.1.1.0.1,
                grows (right_side ps) (o.end) cv.own.1.1.1.0,
                cv.own.1.1.1.1.0.0,
                cv.own.1.1.1.1.0.1,
                grows (right_side r) (c.end) cv.own.1.1.1.1.1.0,
                cv.own.1.1.1.1.1.1.0.0,
                cv.own.1.1.1.1.1.1.0.1,
                grows (right_side s) (k.end) cv.own.1.1.1.1.1.1.1,
                cv.runs,
                cv.same_own,
              ))),
          (tree_in s (k.end) (own) cv.own.1.1.1.1.1.1.1 (omega (
            arith,
            cv.own.0.0,
            cv.own.0.1,
            cv.own.1.0.0,
            cv.own.1.0.1,
            cv.own.1.1.0.0,
            cv.own.1.1.0.1,
            grows (right_side ps) (o.end) cv.own.1.1.1.0,
            cv.own.1.1.1.1.0.0,
            cv.own.1.1.1.1.0.1,
            grows (right_side r) (c.end) cv.own.1.1.1.1.1.0,
            cv.own.1.1.1.1.1.1.0.0,
            cv.own.1.1.1.1.1.1.0.1,
            grows (right_side s) (k.end) cv.own.1.1.1.1.1.1.1,
            cv.runs,
            cv.same_own,
          ))
              (omega (
                arith,
                cv.own.0.0,
                cv.own.0.1,
                cv.own.1.0.0,
                cv.own.1.0.1,
                cv.own.1.1.0.0,
                cv.own.1.1.0.1,
                grows (right_side ps) (o.end) cv.own.1.1.1.0,
                cv.own.1.1.1.1.0.0,
                cv.own.1.1.1.1.0.1,
                grows (right_side r) (c.end) cv.own.1.1.1.1.1.0,
                cv.own.1.1.1.1.1.1.0.0,
                cv.own.1.1.1.1.1.1.0.1,
                grows (right_side s) (k.end) cv.own.1.1.1.1.1.1.1,
                cv.runs,
                cv.same_own,
              ))),
        ),
      )
  tree_in (G.stmt_if i d c s r) a z l b e = let cv : Covers (right_side (G.stmt_if i d c s r)) a =
      covers (right_side (G.stmt_if i d c s r)) a (solid (G.stmt_if i d c s r) refl) l in let own : Span = derivation_span (G.stmt_if i d c s r) in (
        (inside_of b e cv),
        if_in own (tree d) (tree s) (tree r)
            (tree_in d (i.end) (own) cv.own.1.0 (omega (
              arith,
              cv.own.0.0,
              cv.own.0.1,
              grows (right_side d) (i.end) cv.own.1.0,
              cv.own.1.1.0.0,
              cv.own.1.1.0.1,
              grows (right_side s) (c.end) cv.own.1.1.1.0,
              grows (right_side r) (end_of_last (right_side s) (c.end)) cv.own.1.1.1.1,
              cv.runs,
              cv.same_own,
            ))
            (omega (
              arith,
              cv.own.0.0,
              cv.own.0.1,
              grows (right_side d) (i.end) cv.own.1.0,
              cv.own.1.1.0.0,
              cv.own.1.1.0.1,
              grows (right_side s) (c.end) cv.own.1.1.1.0,
              grows (right_side r) (end_of_last (right_side s) (c.end)) cv.own.1.1.1.1,
              cv.runs,
              cv.same_own,
            )))
            (tree_in s (c.end) (own) cv.own.1.1.1.0 (omega (
              arith,
              cv.own.0.0,
              cv.own.0.1,
              grows (right_side d) (i.end) cv.own.1.0,
              cv.own.1.1.0.0,
              cv.own.1.1.0.1,
              grows (right_side s) (c.end) cv.own.1.1.1.0,
              grows (right_side r) (end_of_last (right_side s) (c.end)) cv.own.1.1.1.1,
              cv.runs,
              cv.same_own,
            ))
            (omega (
              arith,
              cv.own.0.0,
              cv.own.0.1,
              grows (right_side d) (i.end) cv.own.1.0,
              cv.own.1.1.0.0,
              cv.own.1.1.0.1,
              grows (right_side s) (c.end) cv.own.1.1.1.0,
              grows (right_side r) (end_of_last (right_side s) (c.end)) cv.own.1.1.1.1,
              cv.runs,
              cv.same_own,
            )))
            (tree_in r (end_of_last (right_side s) (c.end)) (own) cv.own.1.1.1.1 (omega (
              arith,
              cv.own.0.0,
              cv.own.0.1,
              grows (right_side d) (i.end) cv.own.1.0,
              cv.own.1.1.0.0,
              cv.own.1.1.0.1,
              grows (right_side s) (c.end) cv.own.1.1.1.0,
              grows (right_side r) (end_of_last (right_side s) (c.end)) cv.own.1.1.1.1,
              cv.runs,
              cv.same_own,
            )) (omega (
              arith,
              cv.own.0.0,
              cv.own.0.1,
              grows (right_side d) (i.end) cv.own.1.0,
              cv.own.1.1.0.0,
              cv.own.1.1.0.1,
              grows (right_side s) (c.end) cv.own.1.1.1.0,
              grows (right_side r) (end_of_last (right_side s) (c.end)) cv.own.1.1.1.1,
              cv.runs,
              cv.same_own,
            ))),
      )
  tree_in (G.stmt_for d) a z l b e = tree_in d a z l b e
  tree_in (G.for_loop f d i x c s) a z l b e = let cv : Covers (right_side (G.for_loop f d i x c s)) a =
      covers (right_side (G.for_loop f d i x c s)) a (solid (G.for_loop f d i x c s) refl) l in let own : Span = derivation_span (G.for_loop f d i x c s) in (
        (inside_of b e cv),
        (
          target_in own (tree d) (tree_in d (f.end) (own) cv.own.1.0
              (omega (
                arith,
                cv.own.0.0,
                cv.own.0.1,
                grows (right_side d) (f.end) cv.own.1.0,
                cv.own.1.1.0.0,
                cv.own.1.1.0.1,
                grows (right_side x) (i.end) cv.own.1.1.1.0,
                cv.own.1.1.1.1.0.0,
                cv.own.1.1.1.1.0.1,
                grows (right_side s) (c.end) cv.own.1.1.1.1.1,
                cv.runs,
                cv.same_own,
              )) (omega (
                arith,
                cv.own.0.0,
                cv.own.0.1,
                grows (right_side d) (f.end) cv.own.1.0,
                cv.own.1.1.0.0,
                cv.own.1.1.0.1,
                grows (right_side x) (i.end) cv.own.1.1.1.0,
                cv.own.1.1.1.1.0.0,
                cv.own.1.1.1.1.0.1,
                grows (right_side s) (c.end) cv.own.1.1.1.1.1,
                cv.runs,
                cv.same_own,
              ))),
          (tree_in x (i.end) (own) cv.own.1.1.1.0 (omega (
            arith,
            cv.own.0.0,
            cv.own.0.1,
            grows (right_side d) (f.end) cv.own.1.0,
            cv.own.1.1.0.0,
            cv.own.1.1.0.1,
            grows (right_side x) (i.end) cv.own.1.1.1.0,
            cv.own.1.1.1.1.0.0,
            cv.own.1.1.1.1.0.1,
            grows (right_side s) (c.end) cv.own.1.1.1.1.1,
            cv.runs,
            cv.same_own,
          )) (omega (
            arith,
            cv.own.0.0,
            cv.own.0.1,
            grows (right_side d) (f.end) cv.own.1.0,
            cv.own.1.1.0.0,
            cv.own.1.1.0.1,
            grows (right_side x) (i.end) cv.own.1.1.1.0,
            cv.own.1.1.1.1.0.0,
            cv.own.1.1.1.1.0.1,
            grows (right_side s) (c.end) cv.own.1.1.1.1.1,
            cv.runs,
            cv.same_own,
          ))),
          (tree_in s (c.end) (own) cv.own.1.1.1.1.1 (omega (
            arith,
            cv.own.0.0,
            cv.own.0.1,
            grows (right_side d) (f.end) cv.own.1.0,
            cv.own.1.1.0.0,
            cv.own.1.1.0.1,
            grows (right_side x) (i.end) cv.own.1.1.1.0,
            cv.own.1.1.1.1.0.0,
            cv.own.1.1.1.1.0.1,
            grows (right_side s) (c.end) cv.own.1.1.1.1.1,
            cv.runs,
            cv.same_own,
          )) (omega (
            arith,
            cv.own.0.0,
            cv.own.0.1,
            grows (right_side d) (f.end) cv.own.1.0,
            cv.own.1.1.0.0,
            cv.own.1.1.0.1,
            grows (right_side x) (i.end) cv.own.1.1.1.0,
            cv.own.1.1.1.1.0.0,
            cv.own.1.1.1.1.0.1,
            grows (right_side s) (c.end) cv.own.1.1.1.1.1,
            cv.runs,
            cv.same_own,
          ))),
        ),
      )
  tree_in G.rest_none a z l b e = tt
  tree_in (G.rest_elif i d c s r) a z l b e = let own : Span = derivation_span (G.rest_elif i d c s r) in (
    (record {
      begins = omega (
        arith,
        l.0.0,
        l.0.1,
        grows (right_side d) (i.end) l.1.0,
        l.1.1.0.0,
        l.1.1.0.1,
        grows (right_side s) (c.end) l.1.1.1.0,
        grows (right_side r) (end_of_last (right_side s) (c.end)) l.1.1.1.1,
        b,
        e,
      );
      runs = omega (
        arith,
        l.0.0,
        l.0.1,
        grows (right_side d) (i.end) l.1.0,
        l.1.1.0.0,
        l.1.1.0.1,
        grows (right_side s) (c.end) l.1.1.1.0,
        grows (right_side r) (end_of_last (right_side s) (c.end)) l.1.1.1.1,
        b,
        e,
      );
      ends = omega (
        arith,
        l.0.0,
        l.0.1,
        grows (right_side d) (i.end) l.1.0,
        l.1.1.0.0,
        l.1.1.0.1,
        grows (right_side s) (c.end) l.1.1.1.0,
        grows (right_side r) (end_of_last (right_side s) (c.end)) l.1.1.1.1,
        b,
        e,
      );
    }),
    if_in own (tree d) (tree s) (tree r) (tree_in d (i.end) (own) l.1.0 (omega (
      arith,
      l.0.0,
      l.0.1,
      grows (right_side d) (i.end) l.1.0,
      l.1.1.0.0,
      l.1.1.0.1,
      grows (right_side s) (c.end) l.1.1.1.0,
      grows (right_side r) (end_of_last (right_side s) (c.end)) l.1.1.1.1,
      b,
      e,
    ))
        (omega (
          arith,
          l.0.0,
          l.0.1,
          grows (right_side d) (i.end) l.1.0,
          l.1.1.0.0,
          l.1.1.0.1,
          grows (right_side s) (c.end) l.1.1.1.0,
          grows (right_side r) (end_of_last (right_side s) (c.end)) l.1.1.1.1,
          b,
          e,
        )))
        (tree_in s (c.end) (own) l.1.1.1.0 (omega (
          arith,
          l.0.0,
          l.0.1,
          grows (right_side d) (i.end) l.1.0,
          l.1.1.0.0,
          l.1.1.0.1,
          grows (right_side s) (c.end) l.1.1.1.0,
          grows (right_side r) (end_of_last (right_side s) (c.end)) l.1.1.1.1,
          b,
          e,
        ))
        (omega (
          arith,
          l.0.0,
          l.0.1,
          grows (right_side d) (i.end) l.1.0,
          l.1.1.0.0,
          l.1.1.0.1,
          grows (right_side s) (c.end) l.1.1.1.0,
          grows (right_side r) (end_of_last (right_side s) (c.end)) l.1.1.1.1,
          b,
          e,
        ))) (tree_in r (end_of_last (right_side s) (c.end)) (own) l.1.1.1.1
        (omega (
          arith,
          l.0.0,
          l.0.1,
          grows (right_side d) (i.end) l.1.0,
          l.1.1.0.0,
          l.1.1.0.1,
          grows (right_side s) (c.end) l.1.1.1.0,
          grows (right_side r) (end_of_last (right_side s) (c.end)) l.1.1.1.1,
          b,
          e,
        )) (omega (
          arith,
          l.0.0,
          l.0.1,
          grows (right_side d) (i.end) l.1.0,
          l.1.1.0.0,
          l.1.1.0.1,
          grows (right_side s) (c.end) l.1.1.1.0,
          grows (right_side r) (end_of_last (right_side s) (c.end)) l.1.1.1.1,
          b,
          e,
        ))),
  )
  tree_in (G.rest_else i c s) a z l b e = (tree_in s (c.end) (z) l.1.1 (omega (arith, l.0.0, l.0.1, l.1.0.0, l.1.0.1, grows (right_side s) (c.end) l.1.1, b, e))
      (omega (arith, l.0.0, l.0.1, l.1.0.0, l.1.0.1, grows (right_side s) (c.end) l.1.1, b, e)))
  tree_in (G.suite_simple d) a z l b e = tree_in d a z l b e
  tree_in (G.suite_block n d i x q) a z l b e = let x_in : BlockIn x i.end = block_in x i.end l.1.1.1.0 in let own : Span = block_span x in
      block_or_one z own (tree x) (record {
        begins = omega (
          arith,
          l.0.0,
          l.0.1,
          grows (right_side d) n.end l.1.0,
          l.1.1.0.0,
          l.1.1.0.1,
          x_in.after,
          x_in.runs,
          x_in.same,
          b,
          e,
          l.1.1.1.1.0,
          l.1.1.1.1.1,
        );
        runs = omega (
          arith,
          l.0.0,
          l.0.1,
          grows (right_side d) n.end l.1.0,
          l.1.1.0.0,
          l.1.1.0.1,
          x_in.after,
          x_in.runs,
          x_in.same,
          b,
          e,
          l.1.1.1.1.0,
          l.1.1.1.1.1,
        );
        ends = omega (
          arith,
          l.0.0,
          l.0.1,
          grows (right_side d) n.end l.1.0,
          l.1.1.0.0,
          l.1.1.0.1,
          x_in.after,
          x_in.runs,
          x_in.same,
          b,
          e,
          l.1.1.1.1.0,
          l.1.1.1.1.1,
        );
      })
      (block_tree_in x i.end own l.1.1.1.0 (omega arith) (omega (
        arith,
        l.0.0,
        l.0.1,
        grows (right_side d) n.end l.1.0,
        l.1.1.0.0,
        l.1.1.0.1,
        x_in.after,
        x_in.runs,
        x_in.same,
        b,
        e,
        l.1.1.1.1.0,
        l.1.1.1.1.1,
      )))
  tree_in (G.suite_open n d i x) a z l b e = let x_in : BlockIn x i.end = block_in x i.end l.1.1.1.0 in let own : Span = block_span x in
      block_or_one z own (tree x) (record {
        begins = omega (
          arith,
          l.0.0,
          l.0.1,
          grows (right_side d) n.end l.1.0,
          l.1.1.0.0,
          l.1.1.0.1,
          x_in.after,
          x_in.runs,
          x_in.same,
          b,
          e,
        );
        runs = omega (
          arith,
          l.0.0,
          l.0.1,
          grows (right_side d) n.end l.1.0,
          l.1.1.0.0,
          l.1.1.0.1,
          x_in.after,
          x_in.runs,
          x_in.same,
          b,
          e,
        );
        ends = omega (arith, l.0.0, l.0.1, grows (right_side d) n.end l.1.0, l.1.1.0.0, l.1.1.0.1, x_in.after, x_in.runs, x_in.same, b, e);
      })
      (block_tree_in x i.end own l.1.1.1.0 (omega arith) (omega (
        arith,
        l.0.0,
        l.0.1,
        grows (right_side d) n.end l.1.0,
        l.1.1.0.0,
        l.1.1.0.1,
        x_in.after,
        x_in.runs,
        x_in.same,
        b,
        e,
      )))
  tree_in G.newlines_none a z l b e = tt
  tree_in (G.newlines_more d s) a z l b e = tt
  tree_in (G.block_first d s) a z l b e = (
    (tree_in s (end_of_last (right_side d) (a)) (z) l.1 (omega (
      arith,
      grows (right_side d) (a) l.0,
      grows (right_side s) (end_of_last (right_side d) (a)) l.1,
      b,
      e,
    )) (omega (
      arith,
      grows (right_side d) (a) l.0,
      grows (right_side s) (end_of_last (right_side d) (a)) l.1,
      b,
      e,
    ))),
    tt,
  )
  tree_in (G.block_newline x s) a z l b e = (tree_in x (a) (z) l.0 (omega (arith, grows (right_side x) (a) l.0, l.1.0, l.1.1, b, e))
      (omega (arith, grows (right_side x) (a) l.0, l.1.0, l.1.1, b, e)))
  tree_in (G.block_stmt x s) a z l b e = one_more (StatementIn z) (tree x) (tree s)
      (tree_in x (a) (z) l.0 (omega (arith, grows (right_side x) (a) l.0, grows (right_side s) (end_of_last (right_side x) (a)) l.1, b, e))
      (omega (arith, grows (right_side x) (a) l.0, grows (right_side s) (end_of_last (right_side x) (a)) l.1, b, e)))
      (tree_in s (end_of_last (right_side x) (a)) (z) l.1 (omega (
        arith,
        grows (right_side x) (a) l.0,
        grows (right_side s) (end_of_last (right_side x) (a)) l.1,
        b,
        e,
      )) (omega (
        arith,
        grows (right_side x) (a) l.0,
        grows (right_side s) (end_of_last (right_side x) (a)) l.1,
        b,
        e,
      )))
  tree_in G.return_type_none a z l b e = tt
  tree_in (G.return_type_note s d) a z l b e = typed_in z (tree d)
      (tree_in d (s.end) (z) l.1 (omega (arith, l.0.0, l.0.1, grows (right_side d) (s.end) l.1, b, e))
      (omega (arith, l.0.0, l.0.1, grows (right_side d) (s.end) l.1, b, e)))
  tree_in (G.def_param_slash s) a z l b e = (record { begins = omega (arith, l.0, l.1, b, e); runs = l.1; ends = omega (arith, l.0, l.1, b, e) })
  tree_in (G.def_param_star s) a z l b e = (record { begins = omega (arith, l.0, l.1, b, e); runs = l.1; ends = omega (arith, l.0, l.1, b, e) })
  tree_in (G.def_param_args s text i d) a z l b e = let cv : Covers (right_side (G.def_param_args s text i d)) a =
      covers (right_side (G.def_param_args s text i d)) a (solid (G.def_param_args s text i d) refl) l in
      let own : Span = derivation_span (G.def_param_args s text i d) in (
        (inside_of b e cv),
        (record {
          begins = omega (
            arith,
            cv.own.0.0,
            cv.own.0.1,
            cv.own.1.0.0,
            cv.own.1.0.1,
            grows (right_side d) (i.end) cv.own.1.1,
            cv.runs,
            cv.same_own,
          );
          runs = cv.own.1.0.1;
          ends = omega (
            arith,
            cv.own.0.0,
            cv.own.0.1,
            cv.own.1.0.0,
            cv.own.1.0.1,
            grows (right_side d) (i.end) cv.own.1.1,
            cv.runs,
            cv.same_own,
          );
        }),
        (tree_in d (i.end) (own) cv.own.1.1 (omega (
          arith,
          cv.own.0.0,
          cv.own.0.1,
          cv.own.1.0.0,
          cv.own.1.0.1,
          grows (right_side d) (i.end) cv.own.1.1,
          cv.runs,
          cv.same_own,
        )) (omega (arith, cv.own.0.0, cv.own.0.1, cv.own.1.0.0, cv.own.1.0.1, grows (right_side d) (i.end) cv.own.1.1, cv.runs, cv.same_own))),
      )
  tree_in (G.def_param_kwargs s text i d) a z l b e = let cv : Covers (right_side (G.def_param_kwargs s text i d)) a =
      covers (right_side (G.def_param_kwargs s text i d)) a (solid (G.def_param_kwargs s text i d) refl) l in
      let own : Span = derivation_span (G.def_param_kwargs s text i d) in (
        (inside_of b e cv),
        (record {
          begins = omega (
            arith,
            cv.own.0.0,
            cv.own.0.1,
            cv.own.1.0.0,
            cv.own.1.0.1,
            grows (right_side d) (i.end) cv.own.1.1,
            cv.runs,
            cv.same_own,
          );
          runs = cv.own.1.0.1;
          ends = omega (
            arith,
            cv.own.0.0,
            cv.own.0.1,
            cv.own.1.0.0,
            cv.own.1.0.1,
            grows (right_side d) (i.end) cv.own.1.1,
            cv.runs,
            cv.same_own,
          );
        }),
        (tree_in d (i.end) (own) cv.own.1.1 (omega (
          arith,
          cv.own.0.0,
          cv.own.0.1,
          cv.own.1.0.0,
          cv.own.1.0.1,
          grows (right_side d) (i.end) cv.own.1.1,
          cv.runs,
          cv.same_own,
        )) (omega (arith, cv.own.0.0, cv.own.0.1, cv.own.1.0.0, cv.own.1.0.1, grows (right_side d) (i.end) cv.own.1.1, cv.runs, cv.same_own))),
      )
  tree_in (G.def_param_name text i d) a z l b e = let cv : Covers (right_side (G.def_param_name text i d)) a = covers (right_side (G.def_param_name text i d)) a
      (solid (G.def_param_name text i d) refl) l in let own : Span = derivation_span (G.def_param_name text i d) in (
        (inside_of b e cv),
        (record {
          begins = omega (arith, cv.own.0.0, cv.own.0.1, grows (right_side d) (i.end) cv.own.1, cv.runs, cv.same_own);
          runs = cv.own.0.1;
          ends = omega (arith, cv.own.0.0, cv.own.0.1, grows (right_side d) (i.end) cv.own.1, cv.runs, cv.same_own);
        }),
        (tree_in d (i.end) (own) cv.own.1 (omega (arith, cv.own.0.0, cv.own.0.1, grows (right_side d) (i.end) cv.own.1, cv.runs, cv.same_own))
            (omega (arith, cv.own.0.0, cv.own.0.1, grows (right_side d) (i.end) cv.own.1, cv.runs, cv.same_own))),
        tt,
      )
  tree_in (G.def_param_default text i d q v) a z l b e = let cv : Covers (right_side (G.def_param_default text i d q v)) a =
      covers (right_side (G.def_param_default text i d q v)) a (solid (G.def_param_default text i d q v) refl) l in
      let own : Span = derivation_span (G.def_param_default text i d q v) in (
        (inside_of b e cv),
        (record {
          begins = omega (
            arith,
            cv.own.0.0,
            cv.own.0.1,
            grows (right_side d) (i.end) cv.own.1.0,
            cv.own.1.1.0.0,
            cv.own.1.1.0.1,
            grows (right_side v) (q.end) cv.own.1.1.1,
            cv.runs,
            cv.same_own,
          );
          runs = cv.own.0.1;
          ends = omega (
            arith,
            cv.own.0.0,
            cv.own.0.1,
            grows (right_side d) (i.end) cv.own.1.0,
            cv.own.1.1.0.0,
            cv.own.1.1.0.1,
            grows (right_side v) (q.end) cv.own.1.1.1,
            cv.runs,
            cv.same_own,
          );
        }),
        (tree_in d (i.end) (own) cv.own.1.0 (omega (
          arith,
          cv.own.0.0,
          cv.own.0.1,
          grows (right_side d) (i.end) cv.own.1.0,
          cv.own.1.1.0.0,
          cv.own.1.1.0.1,
          grows (right_side v) (q.end) cv.own.1.1.1,
          cv.runs,
          cv.same_own,
        )) (omega (
          arith,
          cv.own.0.0,
          cv.own.0.1,
          grows (right_side d) (i.end) cv.own.1.0,
          cv.own.1.1.0.0,
          cv.own.1.1.0.1,
          grows (right_side v) (q.end) cv.own.1.1.1,
          cv.runs,
          cv.same_own,
        ))),
        (tree_in v (q.end) (own) cv.own.1.1.1 (omega (
          arith,
          cv.own.0.0,
          cv.own.0.1,
          grows (right_side d) (i.end) cv.own.1.0,
          cv.own.1.1.0.0,
          cv.own.1.1.0.1,
          grows (right_side v) (q.end) cv.own.1.1.1,
          cv.runs,
          cv.same_own,
        )) (omega (
          arith,
          cv.own.0.0,
          cv.own.0.1,
          grows (right_side d) (i.end) cv.own.1.0,
          cv.own.1.1.0.0,
          cv.own.1.1.0.1,
          grows (right_side v) (q.end) cv.own.1.1.1,
          cv.runs,
          cv.same_own,
        ))),
      )
  tree_in (G.simple_line d n) a z l b e = let cv : Covers (right_side (G.simple_line d n)) a =
      covers (right_side (G.simple_line d n)) a (solid (G.simple_line d n) refl) l in let own : Span = derivation_span (G.simple_line d n) in
      block_or_one z own (tree d) (inside_of b e cv) (tree_in d (own.begin) (own) cv.own.0 (omega (
        arith,
        grows (right_side d) (own.begin) cv.own.0,
        cv.own.1.0,
        cv.own.1.1,
        cv.runs,
        cv.same_own,
      )) (omega (arith, grows (right_side d) (own.begin) cv.own.0, cv.own.1.0, cv.own.1.1, cv.runs, cv.same_own)))
  tree_in (G.simple_semicolon d s n) a z l b e = let cv : Covers (right_side (G.simple_semicolon d s n)) a = covers (right_side (G.simple_semicolon d s n)) a
      (solid (G.simple_semicolon d s n) refl) l in let own : Span = derivation_span (G.simple_semicolon d s n) in
      block_or_one z own (tree d) (inside_of b e cv) (tree_in d (own.begin) (own) cv.own.0 (omega (
        arith,
        grows (right_side d) (own.begin) cv.own.0,
        cv.own.1.0.0,
        cv.own.1.0.1,
        cv.own.1.1.0,
        cv.own.1.1.1,
        cv.runs,
        cv.same_own,
      )) (omega (
        arith,
        grows (right_side d) (own.begin) cv.own.0,
        cv.own.1.0.0,
        cv.own.1.0.1,
        cv.own.1.1.0,
        cv.own.1.1.1,
        cv.runs,
        cv.same_own,
      )))
  tree_in (G.smalls_one d) a z l b e = (
    (tree_in d (a) (z) l (omega (arith, grows (right_side d) (a) l, b, e)) (omega (arith, grows (right_side d) (a) l, b, e))),
    tt,
  )
  tree_in (G.smalls_more d s x) a z l b e = one_more (StatementIn z) (tree d) (tree x)
      (tree_in d (a) (z) l.0 (omega (arith, grows (right_side d) (a) l.0, l.1.0.0, l.1.0.1, grows (right_side x) (s.end) l.1.1, b, e))
      (omega (arith, grows (right_side d) (a) l.0, l.1.0.0, l.1.0.1, grows (right_side x) (s.end) l.1.1, b, e)))
      (tree_in x (s.end) (z) l.1.1 (omega (arith, grows (right_side d) (a) l.0, l.1.0.0, l.1.0.1, grows (right_side x) (s.end) l.1.1, b, e))
      (omega (arith, grows (right_side d) (a) l.0, l.1.0.0, l.1.0.1, grows (right_side x) (s.end) l.1.1, b, e)))
  tree_in (G.small_return r) a z l b e = ((record { begins = omega (arith, l.0, l.1, b, e); runs = l.1; ends = omega (arith, l.0, l.1, b, e) }), tt)
  tree_in (G.small_return_value r d) a z l b e = let cv : Covers (right_side (G.small_return_value r d)) a = covers (right_side (G.small_return_value r d)) a
      (solid (G.small_return_value r d) refl) l in let own : Span = derivation_span (G.small_return_value r d) in (
        (inside_of b e cv),
        (tree_in d (r.end) (own) cv.own.1 (omega (
          arith,
          cv.own.0.0,
          cv.own.0.1,
          grows (right_side d) (r.end) cv.own.1,
          cv.runs,
          cv.same_own,
        )) (omega (arith, cv.own.0.0, cv.own.0.1, grows (right_side d) (r.end) cv.own.1, cv.runs, cv.same_own))),
      )
  tree_in (G.small_break s) a z l b e = ((record { begins = omega (arith, l.0, l.1, b, e); runs = l.1; ends = omega (arith, l.0, l.1, b, e) }), tt)
  tree_in (G.small_continue s) a z l b e = ((record { begins = omega (arith, l.0, l.1, b, e); runs = l.1; ends = omega (arith, l.0, l.1, b, e) }), tt)
  tree_in (G.small_pass s) a z l b e = ((record { begins = omega (arith, l.0, l.1, b, e); runs = l.1; ends = omega (arith, l.0, l.1, b, e) }), tt)
  tree_in (G.small_load q o text i d c) a z l b e = let own : Span = from_to q.begin c.end in (
    (record {
      begins = omega (
        arith,
        l.0.0,
        l.0.1,
        l.1.0.0,
        l.1.0.1,
        l.1.1.0.0,
        l.1.1.0.1,
        grows (right_side d) (i.end) l.1.1.1.0,
        l.1.1.1.1.0,
        l.1.1.1.1.1,
        b,
        e,
      );
      runs = omega (
        arith,
        l.0.0,
        l.0.1,
        l.1.0.0,
        l.1.0.1,
        l.1.1.0.0,
        l.1.1.0.1,
        grows (right_side d) (i.end) l.1.1.1.0,
        l.1.1.1.1.0,
        l.1.1.1.1.1,
        b,
        e,
      );
      ends = omega (
        arith,
        l.0.0,
        l.0.1,
        l.1.0.0,
        l.1.0.1,
        l.1.1.0.0,
        l.1.1.0.1,
        grows (right_side d) (i.end) l.1.1.1.0,
        l.1.1.1.1.0,
        l.1.1.1.1.1,
        b,
        e,
      );
    }),
    (
      (record {
        begins = omega (
          arith,
          l.0.0,
          l.0.1,
          l.1.0.0,
          l.1.0.1,
          l.1.1.0.0,
          l.1.1.0.1,
          grows (right_side d) (i.end) l.1.1.1.0,
          l.1.1.1.1.0,
          l.1.1.1.1.1,
          b,
          e,
        );
        runs = l.1.1.0.1;
        ends = omega (
          arith,
          l.0.0,
          l.0.1,
          l.1.0.0,
          l.1.0.1,
          l.1.1.0.0,
          l.1.1.0.1,
          grows (right_side d) (i.end) l.1.1.1.0,
          l.1.1.1.1.0,
          l.1.1.1.1.1,
          b,
          e,
        );
      }),
      (tree_in d (i.end) (own) l.1.1.1.0 (omega (
        arith,
        l.0.0,
        l.0.1,
        l.1.0.0,
        l.1.0.1,
        l.1.1.0.0,
        l.1.1.0.1,
        grows (right_side d) (i.end) l.1.1.1.0,
        l.1.1.1.1.0,
        l.1.1.1.1.1,
        b,
        e,
      )) (omega (
        arith,
        l.0.0,
        l.0.1,
        l.1.0.0,
        l.1.0.1,
        l.1.1.0.0,
        l.1.1.0.1,
        grows (right_side d) (i.end) l.1.1.1.0,
        l.1.1.1.1.0,
        l.1.1.1.1.1,
        b,
        e,
      ))),
    ),
  )
  tree_in (G.small_test d) a z l b e = let cv : Covers (right_side (G.small_test d)) a = covers (right_side (G.small_test d)) a (solid (G.small_test d) refl) l
      in
      let own : Span = derivation_span (G.small_test d) in (
        (inside_of b e cv),
        (tree_in d (own.begin) (own) cv.own (omega (arith, grows (right_side d) (own.begin) cv.own, cv.runs, cv.same_own))
            (omega (arith, grows (right_side d) (own.begin) cv.own, cv.runs, cv.same_own))),
      )
  tree_in (G.small_assign d n o s x) a z l b e = let cv : Covers (right_side (G.small_assign d n o s x)) a = covers (right_side (G.small_assign d n o s x)) a
      (solid (G.small_assign d n o s x) refl) l in let own : Span = derivation_span (G.small_assign d n o s x) in (
        (inside_of b e cv),
        assigned_in own (tree n) (assign_operator o) (tree x) (target_of (tree d))
            (tree_in n (end_of_last (right_side d) (own.begin)) (own) cv.own.1.0 (omega (
              arith,
              grows (right_side d) (own.begin) cv.own.0,
              grows (right_side n) (end_of_last (right_side d) (own.begin)) cv.own.1.0,
              cv.own.1.1.0.0,
              cv.own.1.1.0.1,
              grows (right_side x) (s.end) cv.own.1.1.1,
              cv.runs,
              cv.same_own,
            )) (omega (
              arith,
              grows (right_side d) (own.begin) cv.own.0,
              grows (right_side n) (end_of_last (right_side d) (own.begin)) cv.own.1.0,
              cv.own.1.1.0.0,
              cv.own.1.1.0.1,
              grows (right_side x) (s.end) cv.own.1.1.1,
              cv.runs,
              cv.same_own,
            ))) (tree_in x (s.end) (own) cv.own.1.1.1 (omega (
              arith,
              grows (right_side d) (own.begin) cv.own.0,
              grows (right_side n) (end_of_last (right_side d) (own.begin)) cv.own.1.0,
              cv.own.1.1.0.0,
              cv.own.1.1.0.1,
              grows (right_side x) (s.end) cv.own.1.1.1,
              cv.runs,
              cv.same_own,
            )) (omega (
              arith,
              grows (right_side d) (own.begin) cv.own.0,
              grows (right_side n) (end_of_last (right_side d) (own.begin)) cv.own.1.0,
              cv.own.1.1.0.0,
              cv.own.1.1.0.1,
              grows (right_side x) (s.end) cv.own.1.1.1,
              cv.runs,
              cv.same_own,
            ))) (target_in own (tree d) (tree_in d (own.begin) (own) cv.own.0 (omega (
              arith,
              grows (right_side d) (own.begin) cv.own.0,
              grows (right_side n) (end_of_last (right_side d) (own.begin)) cv.own.1.0,
              cv.own.1.1.0.0,
              cv.own.1.1.0.1,
              grows (right_side x) (s.end) cv.own.1.1.1,
              cv.runs,
              cv.same_own,
            )) (omega (
              arith,
              grows (right_side d) (own.begin) cv.own.0,
              grows (right_side n) (end_of_last (right_side d) (own.begin)) cv.own.1.0,
              cv.own.1.1.0.0,
              cv.own.1.1.0.1,
              grows (right_side x) (s.end) cv.own.1.1.1,
              cv.runs,
              cv.same_own,
            )))),
      )
  tree_in (G.list_plain d) a z l b e = let cv : Covers (right_side (G.list_plain d)) a = covers (right_side (G.list_plain d)) a (solid (G.list_plain d) refl) l
      in
      let own : Span = derivation_span (G.list_plain d) in
      tuple_or_one z own (tree d) (inside_of b e cv) (tree_in d (own.begin) (own) cv.own (omega (
        arith,
        grows (right_side d) (own.begin) cv.own,
        cv.runs,
        cv.same_own,
      )) (omega (arith, grows (right_side d) (own.begin) cv.own, cv.runs, cv.same_own)))
  tree_in (G.list_comma d c) a z l b e = let cv : Covers (right_side (G.list_comma d c)) a =
      covers (right_side (G.list_comma d c)) a (solid (G.list_comma d c) refl) l
      in let own : Span = derivation_span (G.list_comma d c) in (
        (inside_of b e cv),
        expressions_in own (tree d) (tree_in d (own.begin) (own) cv.own.0 (omega (
          arith,
          grows (right_side d) (own.begin) cv.own.0,
          cv.own.1.0,
          cv.own.1.1,
          cv.runs,
          cv.same_own,
        )) (omega (arith, grows (right_side d) (own.begin) cv.own.0, cv.own.1.0, cv.own.1.1, cv.runs, cv.same_own))),
      )
  tree_in G.annotation_none a z l b e = tt
  tree_in (G.annotation_note s d) a z l b e = typed_in z (tree d)
      (tree_in d (s.end) (z) l.1 (omega (arith, l.0.0, l.0.1, grows (right_side d) (s.end) l.1, b, e))
      (omega (arith, l.0.0, l.0.1, grows (right_side d) (s.end) l.1, b, e)))
  tree_in (G.note_test d) a z l b e = tree_in d a z l b e
  tree_in G.symbols_none a z l b e = tt
  tree_in (G.symbols_list c d) a z l b e = load_in z (tree d) (commas d)
      (tree_in d (c.end) (z) l.1 (omega (arith, l.0.0, l.0.1, grows (right_side d) (c.end) l.1, b, e))
      (omega (arith, l.0.0, l.0.1, grows (right_side d) (c.end) l.1, b, e)))
      (commas_in d c.end z l.1 (omega (arith, l.0.0, l.0.1, grows (right_side d) (c.end) l.1, b, e))
      (omega (arith, l.0.0, l.0.1, grows (right_side d) (c.end) l.1, b, e)))
  tree_in (G.sym_same text s) a z l b e = (
    (record { begins = omega (arith, l.0, l.1, b, e); runs = l.1; ends = omega (arith, l.0, l.1, b, e) }),
    (record { begins = omega (arith, l.0, l.1, b, e); runs = l.1; ends = omega (arith, l.0, l.1, b, e) }),
  )
  tree_in (G.sym_other text i q their s) a z l b e = (
    (record {
      begins = omega (arith, l.0.0, l.0.1, l.1.0.0, l.1.0.1, l.1.1.0, l.1.1.1, b, e);
      runs = l.0.1;
      ends = omega (arith, l.0.0, l.0.1, l.1.0.0, l.1.0.1, l.1.1.0, l.1.1.1, b, e);
    }),
    (record {
      begins = omega (arith, l.0.0, l.0.1, l.1.0.0, l.1.0.1, l.1.1.0, l.1.1.1, b, e);
      runs = l.1.1.1;
      ends = omega (arith, l.0.0, l.0.1, l.1.0.0, l.1.0.1, l.1.1.0, l.1.1.1, b, e);
    }),
  )
  tree_in (G.sym_alone text i) a z l b e = (
    (record { begins = omega (arith, l.0, l.1, b, e); runs = l.1; ends = omega (arith, l.0, l.1, b, e) }),
    (record { begins = omega (arith, l.0, l.1, b, e); runs = l.1; ends = omega (arith, l.0, l.1, b, e) }),
  )
  tree_in (G.test_or d) a z l b e = tree_in d a z l b e
  tree_in (G.test_if d i c q f) a z l b e = let x : ExpressionIn (from_to z.begin (end_of_last (right_side d) a)) (tree d) =
      tree_in d a (from_to z.begin (end_of_last (right_side d) a)) l.0 b (omega arith) in
      let y = span_in (from_to z.begin (end_of_last (right_side d) a)) (tree d) x in
      let own : Span = from_to (expression_span (tree d)).begin (end_of_last (right_side f) q.end) in (
        (record {
          begins = omega (
            arith,
            grows (right_side d) (a) l.0,
            l.1.0.0,
            l.1.0.1,
            grows (right_side c) (i.end) l.1.1.0,
            l.1.1.1.0.0,
            l.1.1.1.0.1,
            grows (right_side f) (q.end) l.1.1.1.1,
            b,
            e,
            y.begins,
            y.runs,
            y.ends,
          );
          runs = omega (
            arith,
            grows (right_side d) (a) l.0,
            l.1.0.0,
            l.1.0.1,
            grows (right_side c) (i.end) l.1.1.0,
            l.1.1.1.0.0,
            l.1.1.1.0.1,
            grows (right_side f) (q.end) l.1.1.1.1,
            b,
            e,
            y.begins,
            y.runs,
            y.ends,
          );
          ends = omega (
            arith,
            grows (right_side d) (a) l.0,
            l.1.0.0,
            l.1.0.1,
            grows (right_side c) (i.end) l.1.1.0,
            l.1.1.1.0.0,
            l.1.1.1.0.1,
            grows (right_side f) (q.end) l.1.1.1.1,
            b,
            e,
            y.begins,
            y.runs,
            y.ends,
          );
        }),
        (
          (tree_in c (i.end) own l.1.1.0 (omega (
            arith,
            grows (right_side d) (a) l.0,
            l.1.0.0,
            l.1.0.1,
            grows (right_side c) (i.end) l.1.1.0,
            l.1.1.1.0.0,
            l.1.1.1.0.1,
            grows (right_side f) (q.end) l.1.1.1.1,
            b,
            e,
            y.begins,
            y.runs,
            y.ends,
          )) (omega (
            arith,
            grows (right_side d) (a) l.0,
            l.1.0.0,
            l.1.0.1,
            grows (right_side c) (i.end) l.1.1.0,
            l.1.1.1.0.0,
            l.1.1.1.0.1,
            grows (right_side f) (q.end) l.1.1.1.1,
            b,
            e,
            y.begins,
            y.runs,
            y.ends,
          ))),
          (moved (from_to z.begin (end_of_last (right_side d) a)) own (tree d) x (omega arith) (omega (
            arith,
            grows (right_side d) (a) l.0,
            l.1.0.0,
            l.1.0.1,
            grows (right_side c) (i.end) l.1.1.0,
            l.1.1.1.0.0,
            l.1.1.1.0.1,
            grows (right_side f) (q.end) l.1.1.1.1,
            b,
            e,
            y.begins,
            y.runs,
            y.ends,
          ))),
          (tree_in f (q.end) own l.1.1.1.1 (omega (
            arith,
            grows (right_side d) (a) l.0,
            l.1.0.0,
            l.1.0.1,
            grows (right_side c) (i.end) l.1.1.0,
            l.1.1.1.0.0,
            l.1.1.1.0.1,
            grows (right_side f) (q.end) l.1.1.1.1,
            b,
            e,
            y.begins,
            y.runs,
            y.ends,
          )) (omega (
            arith,
            grows (right_side d) (a) l.0,
            l.1.0.0,
            l.1.0.1,
            grows (right_side c) (i.end) l.1.1.0,
            l.1.1.1.0.0,
            l.1.1.1.0.1,
            grows (right_side f) (q.end) l.1.1.1.1,
            b,
            e,
            y.begins,
            y.runs,
            y.ends,
          ))),
        ),
      )
  tree_in (G.test_lambda q d c x) a z l b e = let own : Span = from_to q.begin (end_of_last (right_side x) c.end) in (
    (record {
      begins = omega (arith, l.0.0, l.0.1, grows (right_side d) (q.end) l.1.0, l.1.1.0.0, l.1.1.0.1, grows (right_side x) (c.end) l.1.1.1, b, e);
      runs = omega (arith, l.0.0, l.0.1, grows (right_side d) (q.end) l.1.0, l.1.1.0.0, l.1.1.0.1, grows (right_side x) (c.end) l.1.1.1, b, e);
      ends = omega (arith, l.0.0, l.0.1, grows (right_side d) (q.end) l.1.0, l.1.1.0.0, l.1.1.0.1, grows (right_side x) (c.end) l.1.1.1, b, e);
    }),
    (
      parameters_in own (tree d) (tree_in d (q.end) (own) l.1.0 (omega (
        arith,
        l.0.0,
        l.0.1,
        grows (right_side d) (q.end) l.1.0,
        l.1.1.0.0,
        l.1.1.0.1,
        grows (right_side x) (c.end) l.1.1.1,
        b,
        e,
      )) (omega (
        arith,
        l.0.0,
        l.0.1,
        grows (right_side d) (q.end) l.1.0,
        l.1.1.0.0,
        l.1.1.0.1,
        grows (right_side x) (c.end) l.1.1.1,
        b,
        e,
      ))),
      (tree_in x (c.end) (own) l.1.1.1 (omega (
        arith,
        l.0.0,
        l.0.1,
        grows (right_side d) (q.end) l.1.0,
        l.1.1.0.0,
        l.1.1.0.1,
        grows (right_side x) (c.end) l.1.1.1,
        b,
        e,
      )) (omega (
        arith,
        l.0.0,
        l.0.1,
        grows (right_side d) (q.end) l.1.0,
        l.1.1.0.0,
        l.1.1.0.1,
        grows (right_side x) (c.end) l.1.1.1,
        b,
        e,
      ))),
    ),
  )
  tree_in (G.left_one u d) a z l b e = operand_in z u (tree d) (tree_in d a z l b e)
  tree_in (G.left_more u d o s x) a z l b e = let m : ℕ = end_of_last (right_side d) a in
      operation_in z m s.end (operator_of o) (tree d) (operand_tree u (tree x)) (tree_in d a (from_to z.begin m) l.0 b (omega arith))
      (omega (arith, l.1.0.0, l.1.0.1)) (operand_in (from_to s.end z.end) u (tree x) (tree_in x s.end (from_to s.end z.end) l.1.1 (omega arith) e))
  tree_in (G.not_not s d) a z l b e = let own : Span = from_to s.begin (end_of_last (right_side d) s.end) in (
    (record {
      begins = omega (arith, l.0.0, l.0.1, grows (right_side d) (s.end) l.1, b, e);
      runs = omega (arith, l.0.0, l.0.1, grows (right_side d) (s.end) l.1, b, e);
      ends = omega (
        arith,
        l.0.0,
        l.0.1,
        grows (right_side d) (s.end) l.1,
        b,
        e,
      );
    }),
    (tree_in d (s.end) (own) l.1 (omega (arith, l.0.0, l.0.1, grows (right_side d) (s.end) l.1, b, e))
        (omega (arith, l.0.0, l.0.1, grows (right_side d) (s.end) l.1, b, e))),
  )
  tree_in (G.not_comp d) a z l b e = tree_in d a z l b e
  tree_in (G.comp_one d) a z l b e = tree_in d a z l b e
  tree_in (G.comp_two d o x) a z l b e = let m : ℕ = end_of_last (right_side d) a in let n : ℕ = end_of_last (sign_side o) m in
      operation_in z m n (compared_by o) (tree d) (tree x) (tree_in d a (from_to z.begin m) l.0 b (omega arith)) (grows (sign_side o) m l.1.0)
      (tree_in x n (from_to n z.end) l.1.1 (omega arith) e)
  tree_in (G.unary_sign o s d) a z l b e = let own : Span = from_to s.begin (end_of_last (right_side d) s.end) in
      signed_in z o own (tree d) (record {
        begins = omega (arith, l.0.0, l.0.1, grows (right_side d) (s.end) l.1, b, e);
        runs = omega (arith, l.0.0, l.0.1, grows (right_side d) (s.end) l.1, b, e);
        ends = omega (
          arith,
          l.0.0,
          l.0.1,
          grows (right_side d) (s.end) l.1,
          b,
          e,
        );
      }) (tree_in d (s.end) (own) l.1 (omega (arith, l.0.0, l.0.1, grows (right_side d) (s.end) l.1, b, e))
      (omega (arith, l.0.0, l.0.1, grows (right_side d) (s.end) l.1, b, e)))
  tree_in (G.unary_primary d) a z l b e = tree_in d a z l b e
  tree_in (G.primary_atom d) a z l b e = tree_in d a z l b e
  tree_in (G.primary_dot d s text i) a z l b e = let x : ExpressionIn (from_to z.begin (end_of_last (right_side d) a)) (tree d) =
      tree_in d a (from_to z.begin (end_of_last (right_side d) a)) l.0 b (omega arith) in
      let y = span_in (from_to z.begin (end_of_last (right_side d) a)) (tree d) x in let own : Span = from_to (expression_span (tree d)).begin (i.end) in (
        (record {
          begins = omega (arith, grows (right_side d) (a) l.0, l.1.0.0, l.1.0.1, l.1.1.0, l.1.1.1, b, e, y.begins, y.runs, y.ends);
          runs = omega (arith, grows (right_side d) (a) l.0, l.1.0.0, l.1.0.1, l.1.1.0, l.1.1.1, b, e, y.begins, y.runs, y.ends);
          ends = omega (arith, grows (right_side d) (a) l.0, l.1.0.0, l.1.0.1, l.1.1.0, l.1.1.1, b, e, y.begins, y.runs, y.ends);
        }),
        (
          (moved (from_to z.begin (end_of_last (right_side d) a)) own (tree d) x (omega arith) (omega (
            arith,
            grows (right_side d) (a) l.0,
            l.1.0.0,
            l.1.0.1,
            l.1.1.0,
            l.1.1.1,
            b,
            e,
            y.begins,
            y.runs,
            y.ends,
          ))),
          (record {
            begins = omega (arith, grows (right_side d) (a) l.0, l.1.0.0, l.1.0.1, l.1.1.0, l.1.1.1, b, e, y.begins, y.runs, y.ends);
            runs = l.1.1.1;
            ends = omega (arith, grows (right_side d) (a) l.0, l.1.0.0, l.1.0.1, l.1.1.0, l.1.1.1, b, e, y.begins, y.runs, y.ends);
          }),
        ),
      )
  tree_in (G.primary_subscript d o f c) a z l b e = let x : ExpressionIn (from_to z.begin (end_of_last (right_side d) a)) (tree d) =
      tree_in d a (from_to z.begin (end_of_last (right_side d) a)) l.0 b (omega arith) in
      let y = span_in (from_to z.begin (end_of_last (right_side d) a)) (tree d) x in let own : Span = from_to (expression_span (tree d)).begin (c.end) in
      subscripted_in z own (tree d) (tree f) (record {
        begins = omega (
          arith,
          grows (right_side d) (a) l.0,
          l.1.0.0,
          l.1.0.1,
          grows (right_side f) (o.end) l.1.1.0,
          l.1.1.1.0,
          l.1.1.1.1,
          b,
          e,
          y.begins,
          y.runs,
          y.ends,
        );
        runs = omega (
          arith,
          grows (right_side d) (a) l.0,
          l.1.0.0,
          l.1.0.1,
          grows (right_side f) (o.end) l.1.1.0,
          l.1.1.1.0,
          l.1.1.1.1,
          b,
          e,
          y.begins,
          y.runs,
          y.ends,
        );
        ends = omega (
          arith,
          grows (right_side d) (a) l.0,
          l.1.0.0,
          l.1.0.1,
          grows (right_side f) (o.end) l.1.1.0,
          l.1.1.1.0,
          l.1.1.1.1,
          b,
          e,
          y.begins,
          y.runs,
          y.ends,
        );
      }) (moved (from_to z.begin (end_of_last (right_side d) a)) own (tree d) x (omega arith) (omega (
        arith,
        grows (right_side d) (a) l.0,
        l.1.0.0,
        l.1.0.1,
        grows (right_side f) (o.end) l.1.1.0,
        l.1.1.1.0,
        l.1.1.1.1,
        b,
        e,
        y.begins,
        y.runs,
        y.ends,
      )))
      (tree_in f (o.end) own l.1.1.0 (omega (
        arith,
        grows (right_side d) (a) l.0,
        l.1.0.0,
        l.1.0.1,
        grows (right_side f) (o.end) l.1.1.0,
        l.1.1.1.0,
        l.1.1.1.1,
        b,
        e,
        y.begins,
        y.runs,
        y.ends,
      )) (omega (
        arith,
        grows (right_side d) (a) l.0,
        l.1.0.0,
        l.1.0.1,
        grows (right_side f) (o.end) l.1.1.0,
        l.1.1.1.0,
        l.1.1.1.1,
        b,
        e,
        y.begins,
        y.runs,
        y.ends,
      )))
  tree_in (G.primary_call d o f c) a z l b e = let x : ExpressionIn (from_to z.begin (end_of_last (right_side d) a)) (tree d) =
      tree_in d a (from_to z.begin (end_of_last (right_side d) a)) l.0 b (omega arith) in
      let y = span_in (from_to z.begin (end_of_last (right_side d) a)) (tree d) x in let own : Span = from_to (expression_span (tree d)).begin (c.end) in (
        (record {
          begins = omega (
            arith,
            grows (right_side d) (a) l.0,
            l.1.0.0,
            l.1.0.1,
            grows (right_side f) (o.end) l.1.1.0,
            l.1.1.1.0,
            l.1.1.1.1,
            b,
            e,
            y.begins,
            y.runs,
            y.ends,
          );
          runs = omega (
            arith,
            grows (right_side d) (a) l.0,
            l.1.0.0,
            l.1.0.1,
            grows (right_side f) (o.end) l.1.1.0,
            l.1.1.1.0,
            l.1.1.1.1,
            b,
            e,
            y.begins,
            y.runs,
            y.ends,
          );
          ends = omega (
            arith,
            grows (right_side d) (a) l.0,
            l.1.0.0,
            l.1.0.1,
            grows (right_side f) (o.end) l.1.1.0,
            l.1.1.1.0,
            l.1.1.1.1,
            b,
            e,
            y.begins,
            y.runs,
            y.ends,
          );
        }),
        (
          (moved (from_to z.begin (end_of_last (right_side d) a)) own (tree d) x (omega arith) (omega (
            arith,
            grows (right_side d) (a) l.0,
            l.1.0.0,
            l.1.0.1,
            grows (right_side f) (o.end) l.1.1.0,
            l.1.1.1.0,
            l.1.1.1.1,
            b,
            e,
            y.begins,
            y.runs,
            y.ends,
          ))),
          arguments_in own (tree f) (tree_in f (o.end) own l.1.1.0 (omega (
            arith,
            grows (right_side d) (a) l.0,
            l.1.0.0,
            l.1.0.1,
            grows (right_side f) (o.end) l.1.1.0,
            l.1.1.1.0,
            l.1.1.1.1,
            b,
            e,
            y.begins,
            y.runs,
            y.ends,
          )) (omega (
            arith,
            grows (right_side d) (a) l.0,
            l.1.0.0,
            l.1.0.1,
            grows (right_side f) (o.end) l.1.1.0,
            l.1.1.1.0,
            l.1.1.1.1,
            b,
            e,
            y.begins,
            y.runs,
            y.ends,
          ))),
        ),
      )
  tree_in (G.sub_one d) a z l b e = tree_in d a z l b e
  tree_in (G.sub_two d c x) a z l b e = (
    (tree_in d (a) (z) l.0 (omega (
      arith,
      grows (right_side d) (a) l.0,
      l.1.0.0,
      l.1.0.1,
      grows (right_side x) (c.end) l.1.1,
      b,
      e,
    )) (omega (arith, grows (right_side d) (a) l.0, l.1.0.0, l.1.0.1, grows (right_side x) (c.end) l.1.1, b, e))),
    (tree_in x (c.end) (z) l.1.1 (omega (arith, grows (right_side d) (a) l.0, l.1.0.0, l.1.0.1, grows (right_side x) (c.end) l.1.1, b, e))
        (omega (arith, grows (right_side d) (a) l.0, l.1.0.0, l.1.0.1, grows (right_side x) (c.end) l.1.1, b, e))),
  )
  tree_in (G.sub_slice d c x) a z l b e = (
    (tree_in d (a) (z) l.0 (omega (
      arith,
      grows (right_side d) (a) l.0,
      l.1.0.0,
      l.1.0.1,
      grows (right_side x) (c.end) l.1.1,
      b,
      e,
    )) (omega (arith, grows (right_side d) (a) l.0, l.1.0.0, l.1.0.1, grows (right_side x) (c.end) l.1.1, b, e))),
    (tree_in x (c.end) (z) l.1.1 (omega (arith, grows (right_side d) (a) l.0, l.1.0.0, l.1.0.1, grows (right_side x) (c.end) l.1.1, b, e))
        (omega (arith, grows (right_side d) (a) l.0, l.1.0.0, l.1.0.1, grows (right_side x) (c.end) l.1.1, b, e))),
    tt,
  )
  tree_in (G.sub_step d c x s f) a z l b e = (
    (tree_in d (a) (z) l.0 (omega (
      arith,
      grows (right_side d) (a) l.0,
      l.1.0.0,
      l.1.0.1,
      grows (right_side x) (c.end) l.1.1.0,
      l.1.1.1.0.0,
      l.1.1.1.0.1,
      grows (right_side f) (s.end) l.1.1.1.1,
      b,
      e,
    ))
        (omega (
          arith,
          grows (right_side d) (a) l.0,
          l.1.0.0,
          l.1.0.1,
          grows (right_side x) (c.end) l.1.1.0,
          l.1.1.1.0.0,
          l.1.1.1.0.1,
          grows (right_side f) (s.end) l.1.1.1.1,
          b,
          e,
        ))),
    (tree_in x (c.end) (z) l.1.1.0 (omega (
      arith,
      grows (right_side d) (a) l.0,
      l.1.0.0,
      l.1.0.1,
      grows (right_side x) (c.end) l.1.1.0,
      l.1.1.1.0.0,
      l.1.1.1.0.1,
      grows (right_side f) (s.end) l.1.1.1.1,
      b,
      e,
    ))
        (omega (
          arith,
          grows (right_side d) (a) l.0,
          l.1.0.0,
          l.1.0.1,
          grows (right_side x) (c.end) l.1.1.0,
          l.1.1.1.0.0,
          l.1.1.1.0.1,
          grows (right_side f) (s.end) l.1.1.1.1,
          b,
          e,
        ))),
    (tree_in f (s.end) (z) l.1.1.1.1 (omega (
      arith,
      grows (right_side d) (a) l.0,
      l.1.0.0,
      l.1.0.1,
      grows (right_side x) (c.end) l.1.1.0,
      l.1.1.1.0.0,
      l.1.1.1.0.1,
      grows (right_side f) (s.end) l.1.1.1.1,
      b,
      e,
    ))
        (omega (
          arith,
          grows (right_side d) (a) l.0,
          l.1.0.0,
          l.1.0.1,
          grows (right_side x) (c.end) l.1.1.0,
          l.1.1.1.0.0,
          l.1.1.1.0.1,
          grows (right_side f) (s.end) l.1.1.1.1,
          b,
          e,
        ))),
  )
  tree_in G.bound_none a z l b e = tt
  tree_in (G.bound_test d) a z l b e = tree_in d a z l b e
  tree_in (G.arg_test d) a z l b e = let cv : Covers (right_side (G.arg_test d)) a = covers (right_side (G.arg_test d)) a (solid (G.arg_test d) refl) l in
      let own : Span = derivation_span (G.arg_test d) in (
        (inside_of b e cv),
        (tree_in d (own.begin) (own) cv.own (omega (arith, grows (right_side d) (own.begin) cv.own, cv.runs, cv.same_own))
            (omega (arith, grows (right_side d) (own.begin) cv.own, cv.runs, cv.same_own))),
      )
  tree_in (G.arg_named text s q d) a z l b e = let own : Span = from_to s.begin (end_of_last (right_side d) q.end) in (
    (record {
      begins = omega (arith, l.0.0, l.0.1, l.1.0.0, l.1.0.1, grows (right_side d) (q.end) l.1.1, b, e);
      runs = omega (arith, l.0.0, l.0.1, l.1.0.0, l.1.0.1, grows (right_side d) (q.end) l.1.1, b, e);
      ends = omega (arith, l.0.0, l.0.1, l.1.0.0, l.1.0.1, grows (right_side d) (q.end) l.1.1, b, e);
    }),
    (record {
      begins = omega (arith, l.0.0, l.0.1, l.1.0.0, l.1.0.1, grows (right_side d) (q.end) l.1.1, b, e);
      runs = l.0.1;
      ends = omega (arith, l.0.0, l.0.1, l.1.0.0, l.1.0.1, grows (right_side d) (q.end) l.1.1, b, e);
    }),
    (tree_in d (q.end) (own) l.1.1 (omega (arith, l.0.0, l.0.1, l.1.0.0, l.1.0.1, grows (right_side d) (q.end) l.1.1, b, e))
        (omega (arith, l.0.0, l.0.1, l.1.0.0, l.1.0.1, grows (right_side d) (q.end) l.1.1, b, e))),
  )
  tree_in (G.arg_star s d) a z l b e = let own : Span = from_to s.begin (end_of_last (right_side d) s.end) in (
    (record {
      begins = omega (arith, l.0.0, l.0.1, grows (right_side d) (s.end) l.1, b, e);
      runs = omega (arith, l.0.0, l.0.1, grows (right_side d) (s.end) l.1, b, e);
      ends = omega (
        arith,
        l.0.0,
        l.0.1,
        grows (right_side d) (s.end) l.1,
        b,
        e,
      );
    }),
    (tree_in d (s.end) (own) l.1 (omega (arith, l.0.0, l.0.1, grows (right_side d) (s.end) l.1, b, e))
        (omega (arith, l.0.0, l.0.1, grows (right_side d) (s.end) l.1, b, e))),
  )
  tree_in (G.arg_stars s d) a z l b e = let own : Span = from_to s.begin (end_of_last (right_side d) s.end) in (
    (record {
      begins = omega (arith, l.0.0, l.0.1, grows (right_side d) (s.end) l.1, b, e);
      runs = omega (arith, l.0.0, l.0.1, grows (right_side d) (s.end) l.1, b, e);
      ends = omega (
        arith,
        l.0.0,
        l.0.1,
        grows (right_side d) (s.end) l.1,
        b,
        e,
      );
    }),
    (tree_in d (s.end) (own) l.1 (omega (arith, l.0.0, l.0.1, grows (right_side d) (s.end) l.1, b, e))
        (omega (arith, l.0.0, l.0.1, grows (right_side d) (s.end) l.1, b, e))),
  )
  tree_in (G.entry d c x) a z l b e = (
    (tree_in d (a) (z) l.0 (omega (
      arith,
      grows (right_side d) (a) l.0,
      l.1.0.0,
      l.1.0.1,
      grows (right_side x) (c.end) l.1.1,
      b,
      e,
    )) (omega (arith, grows (right_side d) (a) l.0, l.1.0.0, l.1.0.1, grows (right_side x) (c.end) l.1.1, b, e))),
    (tree_in x (c.end) (z) l.1.1 (omega (arith, grows (right_side d) (a) l.0, l.1.0.0, l.1.0.1, grows (right_side x) (c.end) l.1.1, b, e))
        (omega (arith, grows (right_side d) (a) l.0, l.1.0.0, l.1.0.1, grows (right_side x) (c.end) l.1.1, b, e))),
  )
  tree_in (G.lambda_param_slash s) a z l b e = (record { begins = omega (arith, l.0, l.1, b, e); runs = l.1; ends = omega (arith, l.0, l.1, b, e) })
  tree_in (G.lambda_param_star s) a z l b e = (record { begins = omega (arith, l.0, l.1, b, e); runs = l.1; ends = omega (arith, l.0, l.1, b, e) })
  tree_in (G.lambda_param_args s text i) a z l b e = let own : Span = from_to s.begin i.end in (
    (record {
      begins = omega (arith, l.0.0, l.0.1, l.1.0, l.1.1, b, e);
      runs = omega (arith, l.0.0, l.0.1, l.1.0, l.1.1, b, e);
      ends = omega (arith, l.0.0, l.0.1, l.1.0, l.1.1, b, e);
    }),
    (record { begins = omega (arith, l.0.0, l.0.1, l.1.0, l.1.1, b, e); runs = l.1.1; ends = omega (arith, l.0.0, l.0.1, l.1.0, l.1.1, b, e) }),
    tt,
  )
  tree_in (G.lambda_param_kwargs s text i) a z l b e = let own : Span = from_to s.begin i.end in (
    (record {
      begins = omega (arith, l.0.0, l.0.1, l.1.0, l.1.1, b, e);
      runs = omega (arith, l.0.0, l.0.1, l.1.0, l.1.1, b, e);
      ends = omega (arith, l.0.0, l.0.1, l.1.0, l.1.1, b, e);
    }),
    (record { begins = omega (arith, l.0.0, l.0.1, l.1.0, l.1.1, b, e); runs = l.1.1; ends = omega (arith, l.0.0, l.0.1, l.1.0, l.1.1, b, e) }),
    tt,
  )
  tree_in (G.lambda_param_name text i) a z l b e = (
    (record { begins = omega (arith, l.0, l.1, b, e); runs = l.1; ends = omega (arith, l.0, l.1, b, e) }),
    record { begins = omega arith; runs = l.1; ends = omega arith },
    tt,
    tt,
  )
  tree_in (G.lambda_param_default text i q d) a z l b e = let own : Span = from_to i.begin (end_of_last (right_side d) q.end) in (
    (record {
      begins = omega (arith, l.0.0, l.0.1, l.1.0.0, l.1.0.1, grows (right_side d) (q.end) l.1.1, b, e);
      runs = omega (arith, l.0.0, l.0.1, l.1.0.0, l.1.0.1, grows (right_side d) (q.end) l.1.1, b, e);
      ends = omega (arith, l.0.0, l.0.1, l.1.0.0, l.1.0.1, grows (right_side d) (q.end) l.1.1, b, e);
    }),
    (record {
      begins = omega (arith, l.0.0, l.0.1, l.1.0.0, l.1.0.1, grows (right_side d) (q.end) l.1.1, b, e);
      runs = l.0.1;
      ends = omega (arith, l.0.0, l.0.1, l.1.0.0, l.1.0.1, grows (right_side d) (q.end) l.1.1, b, e);
    }),
    tt,
    (tree_in d (q.end) (own) l.1.1 (omega (arith, l.0.0, l.0.1, l.1.0.0, l.1.0.1, grows (right_side d) (q.end) l.1.1, b, e))
        (omega (arith, l.0.0, l.0.1, l.1.0.0, l.1.0.1, grows (right_side d) (q.end) l.1.1, b, e))),
  )
  tree_in (G.atom_name text s) a z l b e = (
    (record { begins = omega (arith, l.0, l.1, b, e); runs = l.1; ends = omega (arith, l.0, l.1, b, e) }),
    record { begins = omega arith; runs = l.1; ends = omega arith },
  )
  tree_in (G.atom_int n s) a z l b e = (
    (record { begins = omega (arith, l.0, l.1, b, e); runs = l.1; ends = omega (arith, l.0, l.1, b, e) }),
    record { begins = omega arith; runs = l.1; ends = omega arith },
  )
  tree_in (G.atom_float text s) a z l b e = (
    (record { begins = omega (arith, l.0, l.1, b, e); runs = l.1; ends = omega (arith, l.0, l.1, b, e) }),
    record { begins = omega arith; runs = l.1; ends = omega arith },
  )
  tree_in (G.atom_string text s) a z l b e = (
    (record { begins = omega (arith, l.0, l.1, b, e); runs = l.1; ends = omega (arith, l.0, l.1, b, e) }),
    record { begins = omega arith; runs = l.1; ends = omega arith },
  )
  tree_in (G.atom_bytes text s) a z l b e = (
    (record { begins = omega (arith, l.0, l.1, b, e); runs = l.1; ends = omega (arith, l.0, l.1, b, e) }),
    record { begins = omega arith; runs = l.1; ends = omega arith },
  )
  tree_in (G.atom_ellipsis s) a z l b e = ((record { begins = omega (arith, l.0, l.1, b, e); runs = l.1; ends = omega (arith, l.0, l.1, b, e) }), tt)
  tree_in (G.atom_round o d c) a z l b e = grouped_in o d c z a l (omega (arith, l.0.0, l.0.1, grows (right_side d) (o.end) l.1.0, l.1.1.0, l.1.1.1, b, e))
      (omega (arith, l.0.0, l.0.1, grows (right_side d) (o.end) l.1.0, l.1.1.0, l.1.1.1, b, e))
  tree_in (G.atom_square o d c) a z l b e = let own : Span = from_to o.begin c.end in (
    (record {
      begins = omega (arith, l.0.0, l.0.1, grows (right_side d) (o.end) l.1.0, l.1.1.0, l.1.1.1, b, e);
      runs = omega (arith, l.0.0, l.0.1, grows (right_side d) (o.end) l.1.0, l.1.1.0, l.1.1.1, b, e);
      ends = omega (arith, l.0.0, l.0.1, grows (right_side d) (o.end) l.1.0, l.1.1.0, l.1.1.1, b, e);
    }),
    expressions_in own (tree d) (tree_in d (o.end) (own) l.1.0 (omega (arith, l.0.0, l.0.1, grows (right_side d) (o.end) l.1.0, l.1.1.0, l.1.1.1, b, e))
        (omega (arith, l.0.0, l.0.1, grows (right_side d) (o.end) l.1.0, l.1.1.0, l.1.1.1, b, e))),
  )
  tree_in (G.atom_curly o d c) a z l b e = let own : Span = from_to o.begin c.end in (
    (record {
      begins = omega (arith, l.0.0, l.0.1, grows (right_side d) (o.end) l.1.0, l.1.1.0, l.1.1.1, b, e);
      runs = omega (arith, l.0.0, l.0.1, grows (right_side d) (o.end) l.1.0, l.1.1.0, l.1.1.1, b, e);
      ends = omega (arith, l.0.0, l.0.1, grows (right_side d) (o.end) l.1.0, l.1.1.0, l.1.1.1, b, e);
    }),
    pairs_in own (tree d) (tree_in d (o.end) (own) l.1.0 (omega (arith, l.0.0, l.0.1, grows (right_side d) (o.end) l.1.0, l.1.1.0, l.1.1.1, b, e))
        (omega (arith, l.0.0, l.0.1, grows (right_side d) (o.end) l.1.0, l.1.1.0, l.1.1.1, b, e))),
  )
  tree_in (G.atom_list_comprehension o d x c) a z l b e = let own : Span = from_to o.begin c.end in
      let cs = (tree_in x (end_of_last (right_side d) (o.end)) (own) l.1.1.0 (omega (
        arith,
        l.0.0,
        l.0.1,
        grows (right_side d) (o.end) l.1.0,
        grows (right_side x) (end_of_last (right_side d) (o.end)) l.1.1.0,
        l.1.1.1.0,
        l.1.1.1.1,
        b,
        e,
      ))
      (omega (
        arith,
        l.0.0,
        l.0.1,
        grows (right_side d) (o.end) l.1.0,
        grows (right_side x) (end_of_last (right_side d) (o.end)) l.1.1.0,
        l.1.1.1.0,
        l.1.1.1.1,
        b,
        e,
      ))) in (
        (record {
          begins = omega (
            arith,
            l.0.0,
            l.0.1,
            grows (right_side d) (o.end) l.1.0,
            grows (right_side x) (end_of_last (right_side d) (o.end)) l.1.1.0,
            l.1.1.1.0,
            l.1.1.1.1,
            b,
            e,
          );
          runs = omega (
            arith,
            l.0.0,
            l.0.1,
            grows (right_side d) (o.end) l.1.0,
            grows (right_side x) (end_of_last (right_side d) (o.end)) l.1.1.0,
            l.1.1.1.0,
            l.1.1.1.1,
            b,
            e,
          );
          ends = omega (
            arith,
            l.0.0,
            l.0.1,
            grows (right_side d) (o.end) l.1.0,
            grows (right_side x) (end_of_last (right_side d) (o.end)) l.1.1.0,
            l.1.1.1.0,
            l.1.1.1.1,
            b,
            e,
          );
        }),
        (
          (tree_in d (o.end) (own) l.1.0 (omega (
            arith,
            l.0.0,
            l.0.1,
            grows (right_side d) (o.end) l.1.0,
            grows (right_side x) (end_of_last (right_side d) (o.end)) l.1.1.0,
            l.1.1.1.0,
            l.1.1.1.1,
            b,
            e,
          ))
              (omega (
                arith,
                l.0.0,
                l.0.1,
                grows (right_side d) (o.end) l.1.0,
                grows (right_side x) (end_of_last (right_side d) (o.end)) l.1.1.0,
                l.1.1.1.0,
                l.1.1.1.1,
                b,
                e,
              ))),
          cs.0,
          clauses_in own (tree x).1 cs.1,
        ),
      )
  tree_in (G.atom_dict_comprehension o d x c) a z l b e = let own : Span = from_to o.begin c.end in
      let p = (tree_in d (o.end) (own) l.1.0 (omega (
        arith,
        l.0.0,
        l.0.1,
        grows (right_side d) (o.end) l.1.0,
        grows (right_side x) (end_of_last (right_side d) (o.end)) l.1.1.0,
        l.1.1.1.0,
        l.1.1.1.1,
        b,
        e,
      ))
      (omega (
        arith,
        l.0.0,
        l.0.1,
        grows (right_side d) (o.end) l.1.0,
        grows (right_side x) (end_of_last (right_side d) (o.end)) l.1.1.0,
        l.1.1.1.0,
        l.1.1.1.1,
        b,
        e,
      ))) in let cs = (tree_in x (end_of_last (right_side d) (o.end)) (own) l.1.1.0
      (omega (
        arith,
        l.0.0,
        l.0.1,
        grows (right_side d) (o.end) l.1.0,
        grows (right_side x) (end_of_last (right_side d) (o.end)) l.1.1.0,
        l.1.1.1.0,
        l.1.1.1.1,
        b,
        e,
      )) (omega (
        arith,
        l.0.0,
        l.0.1,
        grows (right_side d) (o.end) l.1.0,
        grows (right_side x) (end_of_last (right_side d) (o.end)) l.1.1.0,
        l.1.1.1.0,
        l.1.1.1.1,
        b,
        e,
      ))) in (
        (record {
          begins = omega (
            arith,
            l.0.0,
            l.0.1,
            grows (right_side d) (o.end) l.1.0,
            grows (right_side x) (end_of_last (right_side d) (o.end)) l.1.1.0,
            l.1.1.1.0,
            l.1.1.1.1,
            b,
            e,
          );
          runs = omega (
            arith,
            l.0.0,
            l.0.1,
            grows (right_side d) (o.end) l.1.0,
            grows (right_side x) (end_of_last (right_side d) (o.end)) l.1.1.0,
            l.1.1.1.0,
            l.1.1.1.1,
            b,
            e,
          );
          ends = omega (
            arith,
            l.0.0,
            l.0.1,
            grows (right_side d) (o.end) l.1.0,
            grows (right_side x) (end_of_last (right_side d) (o.end)) l.1.1.0,
            l.1.1.1.0,
            l.1.1.1.1,
            b,
            e,
          );
        }),
        (p.0, p.1, cs.0, clauses_in own (tree x).1 cs.1),
      )
  tree_in (G.vars_plain d) a z l b e = let cv : Covers (right_side (G.vars_plain d)) a = covers (right_side (G.vars_plain d)) a (solid (G.vars_plain d) refl) l
      in
      let own : Span = derivation_span (G.vars_plain d) in
      tuple_or_one z own (tree d) (inside_of b e cv) (tree_in d (own.begin) (own) cv.own (omega (
        arith,
        grows (right_side d) (own.begin) cv.own,
        cv.runs,
        cv.same_own,
      )) (omega (arith, grows (right_side d) (own.begin) cv.own, cv.runs, cv.same_own)))
  tree_in (G.vars_comma d c) a z l b e = let cv : Covers (right_side (G.vars_comma d c)) a =
      covers (right_side (G.vars_comma d c)) a (solid (G.vars_comma d c) refl) l
      in let own : Span = derivation_span (G.vars_comma d c) in (
        (inside_of b e cv),
        expressions_in own (tree d) (tree_in d (own.begin) (own) cv.own.0 (omega (
          arith,
          grows (right_side d) (own.begin) cv.own.0,
          cv.own.1.0,
          cv.own.1.1,
          cv.runs,
          cv.same_own,
        )) (omega (arith, grows (right_side d) (own.begin) cv.own.0, cv.own.1.0, cv.own.1.1, cv.runs, cv.same_own))),
      )
  tree_in (G.for_clause f d i x) a z l b e = (
    target_in z (tree d)
        (tree_in d (f.end) (z) l.1.0 (omega (
          arith,
          l.0.0,
          l.0.1,
          grows (right_side d) (f.end) l.1.0,
          l.1.1.0.0,
          l.1.1.0.1,
          grows (right_side x) (i.end) l.1.1.1,
          b,
          e,
        )) (omega (arith, l.0.0, l.0.1, grows (right_side d) (f.end) l.1.0, l.1.1.0.0, l.1.1.0.1, grows (right_side x) (i.end) l.1.1.1, b, e))),
    (tree_in x (i.end) (z) l.1.1.1 (omega (
      arith,
      l.0.0,
      l.0.1,
      grows (right_side d) (f.end) l.1.0,
      l.1.1.0.0,
      l.1.1.0.1,
      grows (right_side x) (i.end) l.1.1.1,
      b,
      e,
    )) (omega (
      arith,
      l.0.0,
      l.0.1,
      grows (right_side d) (f.end) l.1.0,
      l.1.1.0.0,
      l.1.1.0.1,
      grows (right_side x) (i.end) l.1.1.1,
      b,
      e,
    ))),
  )
  tree_in (G.clauses_one d) a z l b e = (
    (tree_in d (a) (z) l (omega (arith, grows (right_side d) (a) l, b, e)) (omega (
      arith,
      grows (right_side d) (a) l,
      b,
      e,
    ))),
    tt,
  )
  tree_in (G.clauses_for d x) a z l b e = let cs = (tree_in d (a) (z) l.0 (omega (
    arith,
    grows (right_side d) (a) l.0,
    grows (right_side x) (end_of_last (right_side d) (a)) l.1,
    b,
    e,
  )) (omega (
    arith,
    grows (right_side d) (a) l.0,
    grows (right_side x) (end_of_last (right_side d) (a)) l.1,
    b,
    e,
  ))) in (
    cs.0,
    one_more (ClauseIn z) (tree d).1 (t.for_clause (tree x)) cs.1
        (tree_in x (end_of_last (right_side d) (a)) (z) l.1 (omega (
          arith,
          grows (right_side d) (a) l.0,
          grows (right_side x) (end_of_last (right_side d) (a)) l.1,
          b,
          e,
        )) (omega (
          arith,
          grows (right_side d) (a) l.0,
          grows (right_side x) (end_of_last (right_side d) (a)) l.1,
          b,
          e,
        ))),
  )
  tree_in (G.clauses_if d i x) a z l b e = let cs = (tree_in d (a) (z) l.0 (omega (
    arith,
    grows (right_side d) (a) l.0,
    l.1.0.0,
    l.1.0.1,
    grows (right_side x) (i.end) l.1.1,
    b,
    e,
  )) (omega (arith, grows (right_side d) (a) l.0, l.1.0.0, l.1.0.1, grows (right_side x) (i.end) l.1.1, b, e))) in (
    cs.0,
    one_more (ClauseIn z) (tree d).1 (t.if_clause (tree x)) cs.1
        (tree_in x (i.end) (z) l.1.1 (omega (arith, grows (right_side d) (a) l.0, l.1.0.0, l.1.0.1, grows (right_side x) (i.end) l.1.1, b, e))
        (omega (arith, grows (right_side d) (a) l.0, l.1.0.0, l.1.0.1, grows (right_side x) (i.end) l.1.1, b, e))),
  )
  tree_in (G.atom_f_string q s d x) a z l b e = let own : Span = from_to s.begin x.end in let same : IsInside own own =
      record { begins = omega arith; runs = omega (arith, l.0.0, l.0.1, grows (right_side d) (s.end) l.1.0, l.1.1.0, l.1.1.1, b, e); ends = omega arith } in (
        (record {
          begins = omega (arith, l.0.0, l.0.1, grows (right_side d) (s.end) l.1.0, l.1.1.0, l.1.1.1, b, e);
          runs = omega (arith, l.0.0, l.0.1, grows (right_side d) (s.end) l.1.0, l.1.1.0, l.1.1.1, b, e);
          ends = omega (arith, l.0.0, l.0.1, grows (right_side d) (s.end) l.1.0, l.1.1.0, l.1.1.1, b, e);
        }),
        (
          same,
          same,
          expressions_in own (tree d).values (tree_in d (s.end) (own) l.1.0 (omega (
            arith,
            l.0.0,
            l.0.1,
            grows (right_side d) (s.end) l.1.0,
            l.1.1.0,
            l.1.1.1,
            b,
            e,
          )) (omega (arith, l.0.0, l.0.1, grows (right_side d) (s.end) l.1.0, l.1.1.0, l.1.1.1, b, e))),
        ),
      )
  tree_in G.parts_none a z l b e = tt
  tree_in (G.parts_text d text s) a z l b e = (tree_in d (a) (z) l.0 (omega (arith, grows (right_side d) (a) l.0, l.1.0, l.1.1, b, e))
      (omega (arith, grows (right_side d) (a) l.0, l.1.0, l.1.1, b, e)))
  tree_in (G.parts_replacement d o x c y) a z l b e = one_more (ExpressionIn z) (tree d).values (tree x)
      (tree_in d (a) (z) l.0 (omega (
        arith,
        grows (right_side d) (a) l.0,
        l.1.0.0,
        l.1.0.1,
        grows (right_side x) (o.end) l.1.1.0,
        grows (right_side c) (end_of_last (right_side x) (o.end)) l.1.1.1.0,
        l.1.1.1.1.0,
        l.1.1.1.1.1,
        b,
        e,
      )) (omega (
        arith,
        grows (right_side d) (a) l.0,
        l.1.0.0,
        l.1.0.1,
        grows (right_side x) (o.end) l.1.1.0,
        grows (right_side c) (end_of_last (right_side x) (o.end)) l.1.1.1.0,
        l.1.1.1.1.0,
        l.1.1.1.1.1,
        b,
        e,
      ))) (tree_in x (o.end) (z) l.1.1.0 (omega (
        arith,
        grows (right_side d) (a) l.0,
        l.1.0.0,
        l.1.0.1,
        grows (right_side x) (o.end) l.1.1.0,
        grows (right_side c) (end_of_last (right_side x) (o.end)) l.1.1.1.0,
        l.1.1.1.1.0,
        l.1.1.1.1.1,
        b,
        e,
      )) (omega (
        arith,
        grows (right_side d) (a) l.0,
        l.1.0.0,
        l.1.0.1,
        grows (right_side x) (o.end) l.1.1.0,
        grows (right_side c) (end_of_last (right_side x) (o.end)) l.1.1.1.0,
        l.1.1.1.1.0,
        l.1.1.1.1.1,
        b,
        e,
      )))
  tree_in G.conversion_default a z l b e = tt
  tree_in (G.conversion_absent s) a z l b e = tt
  tree_in (G.conversion_name s text i) a z l b e = tt
  tree_in G.optional_list_none a z l b e = tt
  tree_in (G.optional_list_plain d) a z l b e = tree_in d a z l b e
  tree_in (G.optional_list_comma d c) a z l b e = (tree_in d (a) (z) l.0 (omega (arith, grows (right_side d) (a) l.0, l.1.0, l.1.1, b, e))
      (omega (arith, grows (right_side d) (a) l.0, l.1.0, l.1.1, b, e)))
  tree_in (G.comma_list_one u d) a z l b e = (item_in z u (tree d) (tree_in d a z l b e), tt)
  tree_in (G.comma_list_more {k = k} u d c x) a z l b e = one_more (ItemIn k z) (tree d) (element_tree u (tree x))
      (tree_in d (a) (z) l.0 (omega (arith, grows (right_side d) (a) l.0, l.1.0.0, l.1.0.1, grows (right_side x) (c.end) l.1.1, b, e))
      (omega (arith, grows (right_side d) (a) l.0, l.1.0.0, l.1.0.1, grows (right_side x) (c.end) l.1.1, b, e)))
      (item_in z u (tree x) (tree_in x (c.end) (z) l.1.1 (omega (
        arith,
        grows (right_side d) (a) l.0,
        l.1.0.0,
        l.1.0.1,
        grows (right_side x) (c.end) l.1.1,
        b,
        e,
      )) (omega (arith, grows (right_side d) (a) l.0, l.1.0.0, l.1.0.1, grows (right_side x) (c.end) l.1.1, b, e))))

  block_tree_in : (x : Derivation G.Block) (a : ℕ) (z : Span) → Laid (right_side x) a → z.begin ≤ block_begin x → end_of_last (right_side x) a ≤ z.end
      → Each (StatementIn z) (tree x)
  block_tree_in (G.block_first d s) a z l b e =
      let c0 : Covers (right_side s) (end_of_last (right_side d) a) = covers (right_side s) (end_of_last (right_side d) a) (solid s refl) l.1 in
      (tree_in s (begin_of (yield_of s [])) z c0.own b (omega (arith, c0.same_own, c0.same, e)), tt)
  block_tree_in (G.block_newline x s) a z l b e = block_tree_in x a z l.0 b (omega (arith, l.1.0, l.1.1, e))
  block_tree_in (G.block_stmt x s) a z l b e =
      let y = block_in x a l.0 in
      one_more (StatementIn z) (tree x) (tree s) (block_tree_in x a z l.0 b (omega (arith, grows (right_side s) (end_of_last (right_side x) a) l.1, e)))
      (tree_in s (end_of_last (right_side x) a) z l.1 (omega (arith, b, y.runs)) e)

  -- what is in parentheses
  grouped_in : (o : Span) (d : Derivation (G.OptionalList G.elements)) (c z : Span) (a : ℕ) → Laid (right_side (G.atom_round o d c)) a → c.end ≤ z.end
      → z.begin ≤ o.begin → ExpressionIn z (grouped (from_to o.begin c.end) d (tree d))
  grouped_in o G.optional_list_none c z a l e b = (record { begins = b; runs = omega (arith, l.0.0, l.0.1, l.1.1.0, l.1.1.1); ends = e }, tt)
  grouped_in o (G.optional_list_plain d) c z a l e b =
      let p : RightSide = right_side (G.optional_list_plain d) in
      let cv : Covers p o.end = covers p o.end (solid d refl) l.1.0 in
      let own : Span = derivation_span (G.optional_list_plain d) in
      tuple_or_one z own (tree d) (inside_of (omega (arith, b, l.0.1)) (omega (arith, e, l.1.1.0, l.1.1.1)) cv)
      (tree_in d own.begin own cv.own (omega arith) (omega (arith, cv.same_own)))
  grouped_in o (G.optional_list_comma d q) c z a l e b =
      let p : RightSide = right_side (G.optional_list_comma d q) in
      let cv : Covers p o.end = covers p o.end (begun d (lexeme tokens.Comma q ∷ []) refl) l.1.0 in
      let own : Span = derivation_span (G.optional_list_comma d q) in (
        inside_of (omega (arith, b, l.0.1)) (omega (arith, e, l.1.1.0, l.1.1.1)) cv,
        expressions_in own (tree d) (tree_in d own.begin own cv.own.0 (omega arith) (omega (arith, cv.own.1.0, cv.own.1.1, cv.same_own))),
      )

-- ---- modules

-- no statement begins after the module's end
first_before : (m : Derivation G.Module) (a n : ℕ) → Laid (right_side m) a → first_begin m ≡ Some n → n ≤ end_of_last (right_side m) a
first_before G.module_none a n l is = cc
first_before (G.module_newline m s) a n l is = omega (arith, first_before m a n l.0 is, l.1.0, l.1.1)
first_before (G.module_stmt m d) a n l is =
    let c0 : Covers (right_side d) (end_of_last (right_side m) a) = covers (right_side d) (end_of_last (right_side m) a) (solid d refl) l.1 in
    first_of (first_begin m) (begin_of (yield_of d [])) n (end_of_last (right_side d) (end_of_last (right_side m) a))
    (some_is {x = unwrap_or (first_begin m) (begin_of (yield_of d []))} is) (omega (arith, c0.runs, c0.same))
    (λ k known. omega (arith, first_before m a k l.0 known, c0.after, c0.runs, c0.same))

module_tree_in : (m : Derivation G.Module) (a : ℕ) (z : Span) → Laid (right_side m) a → ((n : ℕ) → first_begin m ≡ Some n → z.begin ≤ n)
    → end_of_last (right_side m) a ≤ z.end → Each (StatementIn z) (tree m)
module_tree_in G.module_none a z l b e = tt
module_tree_in (G.module_newline m s) a z l b e = module_tree_in m a z l.0 b (omega (arith, l.1.0, l.1.1, e))
module_tree_in (G.module_stmt m d) a z l b e =
    let c0 : Covers (right_side d) (end_of_last (right_side m) a) = covers (right_side d) (end_of_last (right_side m) a) (solid d refl) l.1 in
    let here : z.begin ≤ unwrap_or (first_begin m) (begin_of (yield_of d [])) = b (unwrap_or (first_begin m) (begin_of (yield_of d []))) refl in
    one_more (StatementIn z) (tree m) (tree d)
    (module_tree_in m a z l.0 (λ n is. earlier (first_begin m) (begin_of (yield_of d [])) n z.begin here is)
    (omega (arith, grows (right_side d) (end_of_last (right_side m) a) l.1, e)))
    (tree_in d (begin_of (yield_of d [])) z c0.own
    (at_last (first_begin m) (begin_of (yield_of d [])) z.begin here (λ n is. omega (arith, first_before m a n l.0 is, c0.after)))
    (omega (arith, c0.same_own, c0.same, e)))

alone_or_block : (s : Span) (xs : Seq (Statement no_payload)) → Each (StatementIn s) xs → IsNested (one_or_block s xs)
alone_or_block s [] h = tt
alone_or_block s (statement own form ∷ []) h = h.0.1
alone_or_block s (x ∷ (y ∷ xs)) h = statements_in s (x ∷ (y ∷ xs)) h

pub trees_are_nested : TreesAreNested
trees_are_nested items d is order =
    let l : Laid (right_side d) 0 = (laid (right_side d) 0 [] (subst (λ (x : Seq Lexeme). AreInOrder 0 x) is.derives.0 order)).0 in
    alone_or_block (module_span d) (tree d)
    (module_tree_in d 0 (module_span d) l (λ n known. begins_at (first_begin d) n (end_of_last (right_side d) 0) known) (omega arith))
