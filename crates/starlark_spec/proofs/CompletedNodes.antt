-- What the machine has completed is not continued: along each run, the next item does not continue what is done.
use Rattle.std.proofs.Common.{◌≡◌, ◌≤◌, arith, Bool, true, false, if◌then◌else◌, refl, ◌∙◌, ap, Option, Some, None}
use Rattle.std.proofs.lemmas.Bool.{lt-leb}
use Rattle.std.specs.Prelude.{nat_le}
use Rattle.std.specs.Bool.{⊤}
use Rattle.starlark_lexer.specs.Tokens.{Span, Lexeme}
use Rattle.starlark_tree.specs.Ast.{Word}
use Rattle.starlark_lexer.specs.declared.kind.Kind.{Kind}
use Rattle.starlark_lexer.specs.declared.kind.Kind.TheVariants as kinds
use Rattle.starlark_spec.specs.Items.{Ending}
use Rattle.starlark_spec.specs.Grammar.{Nonterminal, ElementKind, ElementOf, PrecedenceLevel, OperandOf, Operator, AssignSign, Derivation}
use Rattle.starlark_spec.specs.Grammar as G
use Rattle.starlark_lexer.specs.Kinds.{is}
use Rattle.starlark_spec.specs.Machine.States.{Place, State}
use Rattle.starlark_spec.specs.Machine.States as M
use Rattle.starlark_spec.specs.Machine.Sight.{Look, look}
use Rattle.starlark_spec.specs.Machine.Firsts.{unary_at, operator_at, comparison_at, compares, starts_operand, starts_test, starts_small, starts_element}
use Rattle.starlark_spec.specs.Machine.Firsts.{assign_at}
use Rattle.starlark_spec.specs.Machine.Moves.{Move, Keep, Take, Fail, Finish, move, move_atom, move_lambda_param, move_unary, move_stmt, move_small}
use Rattle.starlark_spec.specs.Machine.Moves.{move_symbol, move_def_param, move_block, after_left, after_bit_or, alone, after_argument, single, single_entry}
use Rattle.starlark_spec.specs.Machine.Moves.{after_first_element, after_first_entry, after_annotation, single_test, after_single, after_list}
use Rattle.starlark_spec.specs.Machine.BindingPower.{binding_power}
use Rattle.starlark_spec.specs.Machine.Steps.{Config, next, Reaches, here, more}
use Rattle.starlark_lexer.proofs.KindTests.{is_true}
use Rattle.starlark_spec.proofs.Complete.{level_own, below}

-- whether a list continues
abbrev pub list_goes : Derivation G.TestList → Kind → Bool
list_goes (G.list_plain d) k = if nat_le 1 (binding_power k) then true else is k kinds.Comma
list_goes (G.list_comma d c) k = starts_test k

abbrev SettledVars : Derivation G.LoopVars → Kind → Type 0
SettledVars (G.vars_plain d) k = ⊤
SettledVars (G.vars_comma d c) k = (starts_operand k ≡ false) × (is k kinds.Not ≡ false)

abbrev SettledConversion : Derivation G.Conversion → Kind → Type 0
SettledConversion (G.conversion_absent s) k = is k kinds.Identifier ≡ false
SettledConversion d k = ⊤

abbrev SettledSym : Derivation G.Sym → Kind → Type 0
SettledSym (G.sym_alone text i) k = is k kinds.Equal ≡ false
SettledSym d k = ⊤

abbrev SettledSmall : Derivation G.Small → Kind → Type 0
SettledSmall (G.small_assign d n o s e) k = list_goes e k ≡ false
SettledSmall d k = ⊤

abbrev SettledSuite : Derivation G.Suite → Kind → Type 0
SettledSuite (G.suite_open n d i c) k = k ≡ kinds.End
SettledSuite d k = ⊤

abbrev SettledLoop : Derivation G.For → Kind → Type 0
SettledLoop (G.for_loop f d i e c s) k = SettledSuite s k

-- which kinds may be next when something is done
abbrev pub SettledDone : (n : Nonterminal) → Derivation n → Kind → Type 0
SettledDone G.Module d k = k ≡ kinds.End
SettledDone G.Test d k = binding_power k ≤ 0
SettledDone (G.LeftAssociative r) d k = binding_power k ≤ below r
SettledDone G.Not d k = binding_power k ≤ 3
SettledDone G.Comp d k = binding_power k ≤ 3
SettledDone G.Unary d k = binding_power k ≤ 10
SettledDone G.Primary d k = binding_power k ≤ 10
SettledDone G.Note d k = binding_power k ≤ 0
SettledDone G.TestList d k = list_goes d k ≡ false
SettledDone G.LoopVars d k = SettledVars d k
SettledDone G.ForClause d k = binding_power k ≤ 1
SettledDone (G.CommaList G.elements) d k = binding_power k ≤ 0
SettledDone G.Small d k = SettledSmall d k
SettledDone G.Sym d k = SettledSym d k
SettledDone G.Conversion d k = SettledConversion d k
SettledDone G.Suite d k = SettledSuite d k
SettledDone G.For d k = SettledLoop d k
SettledDone n d k = ⊤

abbrev pub Settled : {b : Nonterminal} → State b → Kind → Type 0
Settled (M.done {n} d p) k = SettledDone n d k
Settled (M.left_tail {k = r} d p) k = binding_power k ≤ level_own r
Settled s k = ⊤

-- what is kept if the next item is the same, and what is consumed whatever comes
data SettledMove {b : Nonterminal} : Move b → Kind → Type 0 where
  leaves_so : {t : State b} {k : Kind} → Settled t k → SettledMove (Keep t) k
  takes_so : {t : State b} {k : Kind} → ((j : Kind) → Settled t j) → SettledMove (Take t) k
  fails_so : {k : Kind} → SettledMove Fail k
  finishes_so : {d : Derivation b} {k : Kind} → SettledMove (Finish d) k

settle_if : {b : Nonterminal} (c : Bool) {m u : Move b} {k : Kind} → (c ≡ true → SettledMove m k) → (c ≡ false → SettledMove u k)
    → SettledMove (if c then m else u) k
settle_if true f g = f refl
settle_if false f g = g refl

no_if : (k : Kind) → binding_power k ≤ 1 → is k kinds.If ≡ false → binding_power k ≤ 0
no_if kinds.If h e = cc
no_if k h e = omega (arith, h)

no_compared : (k : Kind) → binding_power k ≤ 4 → compares k ≡ false → binding_power k ≤ 3
no_compared kinds.EqualEqual h e = cc
no_compared kinds.BangEqual h e = cc
no_compared kinds.LessThan h e = cc
no_compared kinds.GreaterThan h e = cc
no_compared kinds.LessEqual h e = cc
no_compared kinds.GreaterEqual h e = cc
no_compared kinds.In h e = cc
no_compared kinds.Not h e = cc
no_compared k h e = omega (arith, h)

no_suffix : (k : Kind) → is k kinds.Dot ≡ false → is k kinds.OpeningSquare ≡ false → is k kinds.OpeningRound ≡ false → binding_power k ≤ 10
no_suffix kinds.Dot e f g = cc
no_suffix kinds.OpeningSquare e f g = cc
no_suffix kinds.OpeningRound e f g = cc
no_suffix k e f g = omega arith

none_left : (r : PrecedenceLevel) (k : Kind) → operator_at r k ≡ None → binding_power k ≤ level_own r → binding_power k ≤ below r
none_left G.or_precedence kinds.Or e h = cc
none_left G.or_precedence k e h = omega (arith, h)
none_left G.and_precedence kinds.And e h = cc
none_left G.and_precedence k e h = omega (arith, h)
none_left G.bit_or_precedence kinds.Pipe e h = cc
none_left G.bit_or_precedence k e h = omega (arith, h)
none_left G.xor_precedence kinds.Caret e h = cc
none_left G.xor_precedence k e h = omega (arith, h)
none_left G.bit_and_precedence kinds.Ampersand e h = cc
none_left G.bit_and_precedence k e h = omega (arith, h)
none_left G.shift_precedence kinds.LessLess e h = cc
none_left G.shift_precedence kinds.GreaterGreater e h = cc
none_left G.shift_precedence k e h = omega (arith, h)
none_left G.add_precedence kinds.Plus e h = cc
none_left G.add_precedence kinds.Minus e h = cc
none_left G.add_precedence k e h = omega (arith, h)
none_left G.multiply_precedence kinds.Star e h = cc
none_left G.multiply_precedence kinds.Slash e h = cc
none_left G.multiply_precedence kinds.SlashSlash e h = cc
none_left G.multiply_precedence kinds.Percent e h = cc
none_left G.multiply_precedence k e h = omega (arith, h)

settled_under : {r : PrecedenceLevel} {n : Nonterminal} (u : OperandOf r n) (d : Derivation n) (k : Kind) → SettledDone n d k → binding_power k ≤ level_own r
settled_under G.of_or d k h = h
settled_under G.of_and d k h = h
settled_under G.of_bit_or d k h = h
settled_under G.of_xor d k h = h
settled_under G.of_bit_and d k h = h
settled_under G.of_shift d k h = h
settled_under G.of_add d k h = h
settled_under G.of_multiply d k h = h

settled_one : {i : ElementKind} {n : Nonterminal} (u : ElementOf i n) (d : Derivation n) (k : Kind) → SettledDone n d k
    → SettledDone (G.CommaList i) (G.comma_list_one u d) k
settled_one G.of_elements d k h = h
settled_one G.of_arguments d k h = tt
settled_one G.of_entries d k h = tt
settled_one G.of_lambda_parameters d k h = tt
settled_one G.of_variables d k h = tt
settled_one G.of_symbols d k h = tt
settled_one G.of_def_parameters d k h = tt

settled_more : {i : ElementKind} {n : Nonterminal} (u : ElementOf i n) (d : Derivation (G.CommaList i)) (c : Span) (e : Derivation n) (k : Kind)
    → SettledDone n e k → SettledDone (G.CommaList i) (G.comma_list_more u d c e) k
settled_more G.of_elements d c e k h = h
settled_more G.of_arguments d c e k h = tt
settled_more G.of_entries d c e k h = tt
settled_more G.of_lambda_parameters d c e k h = tt
settled_more G.of_variables d c e k h = tt
settled_more G.of_symbols d c e k h = tt
settled_more G.of_def_parameters d c e k h = tt

list_settled : (d : Derivation (G.CommaList G.elements)) (k : Kind) → binding_power k ≤ 0 → is k kinds.Comma ≡ false → list_goes (G.list_plain d) k ≡ false
list_settled d k h e = ap (λ c. if c then true else is k kinds.Comma) (lt-leb 1 (binding_power k) (omega (arith, h))) ∙ e

module _ {b : Nonterminal} where
  settle_unary : (p : Place b G.Unary) (x : Lexeme) (k : Kind) → SettledMove (move_unary p x.span (unary_at k)) k
  settle_unary p x kinds.Plus = takes_so (λ j. tt)
  settle_unary p x kinds.Minus = takes_so (λ j. tt)
  settle_unary p x kinds.Tilde = takes_so (λ j. tt)
  settle_unary p x k = leaves_so tt

  settle_atom : (p : Place b G.Atom) (x : Lexeme) (k : Kind) → SettledMove (move_atom p x k) k
  settle_atom p x kinds.Identifier = takes_so (λ j. tt)
  settle_atom p x kinds.Int = takes_so (λ j. tt)
  settle_atom p x kinds.Float = takes_so (λ j. tt)
  settle_atom p x kinds.String = takes_so (λ j. tt)
  settle_atom p x kinds.Bytes = takes_so (λ j. tt)
  settle_atom p x kinds.Ellipsis = takes_so (λ j. tt)
  settle_atom p x kinds.OpeningRound = takes_so (λ j. tt)
  settle_atom p x kinds.OpeningSquare = takes_so (λ j. tt)
  settle_atom p x kinds.FStringStart = takes_so (λ j. tt)
  settle_atom p x kinds.OpeningCurly = takes_so (λ j. tt)
  settle_atom p x k = fails_so

  settle_lambda_param : (p : Place b G.LambdaParam) (x : Lexeme) (k : Kind) → SettledMove (move_lambda_param p x k) k
  settle_lambda_param p x kinds.Slash = takes_so (λ j. tt)
  settle_lambda_param p x kinds.Star = takes_so (λ j. tt)
  settle_lambda_param p x kinds.StarStar = takes_so (λ j. tt)
  settle_lambda_param p x kinds.Identifier = takes_so (λ j. tt)
  settle_lambda_param p x k = fails_so

  settle_def_param : (p : Place b G.DefParam) (x : Lexeme) (k : Kind) → SettledMove (move_def_param p x k) k
  settle_def_param p x kinds.Slash = takes_so (λ j. tt)
  settle_def_param p x kinds.Star = takes_so (λ j. tt)
  settle_def_param p x kinds.StarStar = takes_so (λ j. tt)
  settle_def_param p x kinds.Identifier = takes_so (λ j. tt)
  settle_def_param p x k = fails_so

  settle_stmt : (p : Place b G.Stmt) (x : Lexeme) (k : Kind) → SettledMove (move_stmt p x k) k
  settle_stmt p x kinds.Def = takes_so (λ j. tt)
  settle_stmt p x kinds.If = takes_so (λ j. tt)
  settle_stmt p x k = leaves_so tt

  settle_small : (p : Place b G.Small) (x : Lexeme) (k : Kind) → SettledMove (move_small p x k) k
  settle_small p x kinds.Return = takes_so (λ j. tt)
  settle_small p x kinds.Break = takes_so (λ j. tt)
  settle_small p x kinds.Continue = takes_so (λ j. tt)
  settle_small p x kinds.Pass = takes_so (λ j. tt)
  settle_small p x kinds.Load = takes_so (λ j. tt)
  settle_small p x k = leaves_so tt

  settle_symbol : (p : Place b G.Sym) (x : Lexeme) (k : Kind) → SettledMove (move_symbol p x k) k
  settle_symbol p x kinds.String = takes_so (λ j. tt)
  settle_symbol p x kinds.Identifier = takes_so (λ j. tt)
  settle_symbol p x k = fails_so

  settle_block : (d : Derivation G.Block) (p : Place b G.Block) (x : Lexeme) (k : Kind) → SettledMove (move_block d p x k) k
  settle_block d p x kinds.Newline = takes_so (λ j. tt)
  settle_block d p x k = leaves_so tt

  settle_compared : (d : Derivation (G.LeftAssociative G.bit_or_precedence)) (p : Place b G.Comp) (x : Lexeme) (k : Kind) (w : Bool) → binding_power k ≤ 4
      → SettledMove (after_bit_or d p (record { kind = k; first = x; no_memory = w }) (comparison_at k)) k
  settle_compared d p x kinds.EqualEqual w h = takes_so (λ j. tt)
  settle_compared d p x kinds.BangEqual w h = takes_so (λ j. tt)
  settle_compared d p x kinds.LessThan w h = takes_so (λ j. tt)
  settle_compared d p x kinds.GreaterThan w h = takes_so (λ j. tt)
  settle_compared d p x kinds.LessEqual w h = takes_so (λ j. tt)
  settle_compared d p x kinds.GreaterEqual w h = takes_so (λ j. tt)
  settle_compared d p x kinds.In w h = takes_so (λ j. tt)
  settle_compared d p x kinds.Not w h = takes_so (λ j. tt)
  settle_compared d p x k w h = leaves_so (omega (arith, h))

  settle_argument : (d : Derivation G.Test) (p : Place b G.Arg) (e : Span) (k : Kind) (x : Option Word) → SettledMove (after_argument d p e x) k
  settle_argument d p e k (Some name) = takes_so (λ j. tt)
  settle_argument d p e k None = leaves_so tt

  settle_element : (o : Span) (d : Derivation (G.OptionalList G.elements)) (p : Place b G.Atom) (k : Kind) (x : Option (Derivation G.Test))
      → SettledMove (after_first_element o d p x) k
  settle_element o d p k (Some e) = leaves_so tt
  settle_element o d p k None = leaves_so tt

  settle_entry : (o : Span) (d : Derivation (G.OptionalList G.entries)) (p : Place b G.Atom) (k : Kind) (x : Option (Derivation G.Entry))
      → SettledMove (after_first_entry o d p x) k
  settle_entry o d p k (Some e) = leaves_so tt
  settle_entry o d p k None = leaves_so tt

  settle_annotation : (d : Derivation G.TestList) (n : Derivation G.Annotation) (p : Place b G.Small) (s : Span) (k : Kind) (x : Option AssignSign)
      → SettledMove (after_annotation d n p s x) k
  settle_annotation d n p s k (Some o) = takes_so (λ j. tt)
  settle_annotation d n p s k None = fails_so

  settle_single : (p : Place b G.Small) (k : Kind) (x : Option (Derivation G.Test)) → SettledMove (after_single p x) k
  settle_single p k (Some d) = leaves_so tt
  settle_single p k None = fails_so

  settle_list : (d : Derivation G.TestList) (p : Place b G.Small) (k : Kind) (x : Option AssignSign) → SettledMove (after_list d p x) k
  settle_list d p k (Some o) = leaves_so tt
  settle_list d p k None = settle_single p k (single_test d)

  settle_left : {r : PrecedenceLevel} (d : Derivation (G.LeftAssociative r)) (p : Place b (G.LeftAssociative r)) (s : Span) (k : Kind)
      → binding_power k ≤ level_own r → (x : Option (Operator r)) → operator_at r k ≡ x → SettledMove (after_left d p s x) k
  settle_left d p s k h (Some o) e = takes_so (λ j. tt)
  settle_left {r} d p s k h None e = leaves_so (none_left r k e h)

settles : {b : Nonterminal} (s : State b) (l : Look) → Settled s l.kind → SettledMove (move s l) l.kind
settles (M.read G.Module p) l h = leaves_so tt
settles (M.read G.Stmt p) l h = settle_stmt p l.first l.kind
settles (M.read G.For p) l h = settle_if (is l.kind kinds.For) (λ e. takes_so (λ j. tt)) (λ e. fails_so)
settles (M.read G.Rest p) l h = settle_if (is l.kind kinds.Elif) (λ e. takes_so (λ j. tt)) (λ e. settle_if (is l.kind kinds.Else) (λ e. takes_so (λ j. tt))
    (λ e. leaves_so tt))
settles (M.read G.Suite p) l h = settle_if (is l.kind kinds.Newline) (λ e. takes_so (λ j. tt)) (λ e. leaves_so tt)
settles (M.read G.Newlines p) l h = leaves_so tt
settles (M.read G.Block p) l h = leaves_so tt
settles (M.read G.ReturnType p) l h = settle_if (is l.kind kinds.MinusGreater) (λ e. takes_so (λ j. tt)) (λ e. leaves_so tt)
settles (M.read G.DefParam p) l h = settle_def_param p l.first l.kind
settles (M.read G.Simple p) l h = leaves_so tt
settles (M.read G.Smalls p) l h = leaves_so tt
settles (M.read G.Small p) l h = settle_small p l.first l.kind
settles (M.read G.TestList p) l h = leaves_so tt
settles (M.read G.Annotation p) l h = settle_if (is l.kind kinds.Colon) (λ e. takes_so (λ j. tt)) (λ e. leaves_so tt)
settles (M.read G.Note p) l h = leaves_so tt
settles (M.read G.Symbols p) l h = settle_if (is l.kind kinds.Comma) (λ e. takes_so (λ j. tt)) (λ e. leaves_so tt)
settles (M.read G.Sym p) l h = settle_symbol p l.first l.kind
settles (M.read G.Test p) l h = settle_if (is l.kind kinds.Lambda) (λ e. takes_so (λ j. tt)) (λ e. leaves_so tt)
settles (M.read (G.LeftAssociative k) p) l h = leaves_so tt
settles (M.read G.Not p) l h = settle_if (is l.kind kinds.Not) (λ e. takes_so (λ j. tt)) (λ e. leaves_so tt)
settles (M.read G.Comp p) l h = leaves_so tt
settles (M.read G.Unary p) l h = settle_unary p l.first l.kind
settles (M.read G.Primary p) l h = leaves_so tt
settles (M.read G.Atom p) l h = settle_atom p l.first l.kind
settles (M.read G.Sub p) l h = settle_if (starts_test l.kind) (λ e. leaves_so tt) (λ e. leaves_so tt)
settles (M.read G.Bound p) l h = settle_if (starts_test l.kind) (λ e. leaves_so tt) (λ e. leaves_so tt)
settles (M.read G.Arg p) l h = settle_if (is l.kind kinds.Star) (λ e. takes_so (λ j. tt)) (λ e. settle_if (is l.kind kinds.StarStar) (λ e. takes_so (λ j. tt))
    (λ e. leaves_so tt))
settles (M.read G.Entry p) l h = leaves_so tt
settles (M.read G.LambdaParam p) l h = settle_lambda_param p l.first l.kind
settles (M.read G.FStringParts p) l h = leaves_so tt
settles (M.read G.Conversion p) l h = settle_if (is l.kind kinds.FStringBang) (λ e. takes_so (λ j. tt)) (λ e. leaves_so tt)
settles (M.read G.LoopVars p) l h = leaves_so tt
settles (M.read G.ForClause p) l h = settle_if (is l.kind kinds.For) (λ e. takes_so (λ j. tt)) (λ e. fails_so)
settles (M.read G.Clauses p) l h = leaves_so tt
settles (M.read (G.OptionalList k) p) l h = settle_if (starts_element k l.kind) (λ e. leaves_so tt) (λ e. leaves_so tt)
settles (M.read (G.CommaList k) p) l h = leaves_so tt
settles (M.done d (M.top u)) l h = finishes_so
settles (M.done d (M.module_stmt_at m p)) l h = leaves_so tt
settles (M.done d (M.stmt_simple_at p)) l h = leaves_so tt
settles (M.done ps (M.def_parameters_at d text i o p)) l h = leaves_so tt
settles (M.done t (M.def_return_type_at d text i o ps c p)) l h = leaves_so tt
settles (M.done s (M.def_suite_at d text i o ps c t k p)) l h = leaves_so tt
settles (M.done d (M.if_test_at i p)) l h = leaves_so tt
settles (M.done s (M.if_suite_at i d c p)) l h = leaves_so tt
settles (M.done e (M.if_rest_at i d c s p)) l h = leaves_so tt
settles (M.done d (M.stmt_for_at p)) l h = leaves_so tt
settles (M.done d (M.for_vars_at f p)) l h = leaves_so tt
settles (M.done e (M.for_source_at f d i p)) l h = leaves_so tt
settles (M.done d (M.elif_test_at i p)) l h = leaves_so tt
settles (M.done s (M.elif_suite_at i d c p)) l h = leaves_so tt
settles (M.done e (M.elif_rest_at i d c s p)) l h = leaves_so tt
settles (M.done s (M.else_suite_at i c p)) l h = leaves_so tt
settles (M.done d (M.suite_simple_at p)) l h = leaves_so tt
settles (M.done d (M.suite_newlines_at n p)) l h = leaves_so tt
settles (M.done d (M.block_newlines_at p)) l h = leaves_so tt
settles (M.done s (M.block_first_at d p)) l h = leaves_so tt
settles (M.done s (M.block_stmt_at b p)) l h = leaves_so tt
settles (M.done d (M.return_type_note_at a p)) l h = leaves_so tt
settles (M.done d (M.args_annotation_at s text i p)) l h = leaves_so tt
settles (M.done d (M.kwargs_annotation_at s text i p)) l h = leaves_so tt
settles (M.done v (M.def_param_default_at text i d e p)) l h = leaves_so tt
settles (M.done s (M.for_suite_at f d i e c p)) l h = leaves_so h
settles (M.done b (M.suite_block_at n d i p)) l h = settle_if (is l.kind kinds.Dedent) (λ e. takes_so (λ j. tt))
    (λ e. settle_if (is l.kind kinds.End) (λ g. leaves_so (is_true l.kind kinds.End g)) (λ g. fails_so))
settles (M.done d (M.def_param_annotation_at text i p)) l h = settle_if (is l.kind kinds.Equal) (λ e. takes_so (λ j. tt)) (λ e. leaves_so tt)
settles (M.done d (M.simple_smalls_at p)) l h = settle_if (is l.kind kinds.Semicolon) (λ e. takes_so (λ j. tt)) (λ e. leaves_so tt)
settles (M.done d (M.smalls_one_at p)) l h = leaves_so tt
settles (M.done e (M.smalls_more_at d s p)) l h = leaves_so tt
settles (M.done d (M.return_value_at r p)) l h = leaves_so tt
settles (M.done d (M.load_symbols_at o i text s p)) l h = leaves_so tt
settles (M.done d (M.small_list_at p)) l h = settle_if (is l.kind kinds.Colon) (λ e. leaves_so tt) (λ e. settle_list d p l.kind (assign_at l.kind))
settles (M.done n (M.assign_annotation_at d p)) l h = settle_annotation d n p l.first.span l.kind (assign_at l.kind)
settles (M.done e (M.assign_value_at d n o s p)) l h = leaves_so h
settles (M.done d (M.list_elements_at p)) l h = settle_if (is l.kind kinds.Comma) (λ e. takes_so (λ j. tt)) (λ e. leaves_so (list_settled d l.kind h e))
settles (M.done d (M.annotation_note_at c p)) l h = leaves_so tt
settles (M.done d (M.note_test_at p)) l h = leaves_so h
settles (M.done d (M.symbols_list_at c p)) l h = leaves_so tt
settles (M.done d (M.test_or_at p)) l h = settle_if (is l.kind kinds.If) (λ e. takes_so (λ j. tt)) (λ e. leaves_so (no_if l.kind h e))
settles (M.done c (M.test_if_at d i p)) l h = leaves_so tt
settles (M.done f (M.test_else_at d i c e p)) l h = leaves_so h
settles (M.done d (M.lambda_parameters_at s p)) l h = leaves_so tt
settles (M.done e (M.lambda_body_at s d c p)) l h = leaves_so h
settles (M.done d (M.left_first_at u p)) l h = leaves_so (settled_under u d l.kind h)
settles (M.done e (M.left_right_at u d o s p)) l h = leaves_so (settled_under u e l.kind h)
settles (M.done d (M.not_not_at s p)) l h = leaves_so h
settles (M.done d (M.not_comp_at p)) l h = leaves_so h
settles (M.done d (M.comp_first_at p)) l h = settle_compared d p l.first l.kind l.no_memory h
settles (M.done e (M.comp_right_at d o p)) l h = settle_if (compares l.kind) (λ e. fails_so) (λ e. leaves_so (no_compared l.kind h e))
settles (M.done d (M.unary_sign_at o s p)) l h = leaves_so h
settles (M.done d (M.unary_primary_at p)) l h = leaves_so h
settles (M.done d (M.primary_atom_at p)) l h = leaves_so tt
settles (M.done f (M.primary_subscript_at d o p)) l h = leaves_so tt
settles (M.done d (M.sub_first_at p)) l h = settle_if (is l.kind kinds.Comma) (λ e. takes_so (λ j. tt))
    (λ e. settle_if (is l.kind kinds.Colon) (λ e. takes_so (λ j. tt)) (λ e. leaves_so tt))
settles (M.done e (M.sub_two_at d c p)) l h = leaves_so tt
settles (M.done e (M.sub_stop_at d c p)) l h = settle_if (is l.kind kinds.Colon) (λ e. takes_so (λ j. tt)) (λ e. leaves_so tt)
settles (M.done f (M.sub_step_at d c e s p)) l h = leaves_so tt
settles (M.done d (M.bound_test_at p)) l h = leaves_so tt
settles (M.done f (M.primary_call_at d o p)) l h = leaves_so tt
settles (M.done d (M.arg_test_at p)) l h = settle_if (is l.kind kinds.Equal) (λ e. settle_argument d p l.first.span l.kind (alone d)) (λ e. leaves_so tt)
settles (M.done d (M.arg_named_at text s e p)) l h = leaves_so tt
settles (M.done d (M.arg_star_at s p)) l h = leaves_so tt
settles (M.done d (M.arg_stars_at s p)) l h = leaves_so tt
settles (M.done d (M.entry_key_at p)) l h = leaves_so tt
settles (M.done e (M.entry_value_at d c p)) l h = leaves_so tt
settles (M.done d (M.lambda_param_default_at text i e p)) l h = leaves_so tt
settles (M.done d (M.atom_round_at o p)) l h = leaves_so tt
settles (M.done d (M.atom_square_at o p)) l h = settle_if (is l.kind kinds.For) (λ e. settle_element o d p l.kind (single d)) (λ e. leaves_so tt)
settles (M.done d (M.atom_curly_at o p)) l h = settle_if (is l.kind kinds.For) (λ e. settle_entry o d p l.kind (single_entry d)) (λ e. leaves_so tt)
settles (M.done e (M.list_clauses_at o d p)) l h = leaves_so tt
settles (M.done e (M.dict_clauses_at o d p)) l h = leaves_so tt
settles (M.done d (M.vars_elements_at p)) l h = settle_if (is l.kind kinds.Comma) (λ e. takes_so (λ j. tt)) (λ e. leaves_so tt)
settles (M.done d (M.clause_vars_at f p)) l h = leaves_so tt
settles (M.done e (M.clause_source_at f d i p)) l h = leaves_so h
settles (M.done d (M.clauses_one_at p)) l h = leaves_so tt
settles (M.done e (M.clauses_for_at d p)) l h = leaves_so tt
settles (M.done e (M.clauses_if_at d i p)) l h = leaves_so tt
settles (M.done d (M.parts_at q s p)) l h = leaves_so tt
settles (M.done e (M.replacement_at d o p)) l h = leaves_so tt
settles (M.done c (M.conversion_at d o e p)) l h = leaves_so tt
settles (M.done d (M.comma_list_at p)) l h = settle_if (is l.kind kinds.Comma) (λ e. takes_so (λ j. tt)) (λ e. leaves_so tt)
settles (M.done d (M.comma_list_one_at u p)) l h = leaves_so (settled_one u d l.kind h)
settles (M.done e (M.comma_list_more_at u d c p)) l h = leaves_so (settled_more u d c e l.kind h)
settles (M.module_tail m p) l h = settle_if (is l.kind kinds.End) (λ e. leaves_so (is_true l.kind kinds.End e))
    (λ e. settle_if (is l.kind kinds.Newline) (λ g. takes_so (λ j. tt)) (λ g. leaves_so tt))
settles (M.left_tail {k} d p) l h = settle_left d p l.first.span l.kind h (operator_at k l.kind) refl
settles (M.primary_tail d p) l h = settle_if (is l.kind kinds.Dot) (λ e. takes_so (λ j. tt))
    (λ e. settle_if (is l.kind kinds.OpeningSquare) (λ f. takes_so (λ j. tt)) (λ f. settle_if (is l.kind kinds.OpeningRound) (λ g. takes_so (λ j. tt))
    (λ g. leaves_so (no_suffix l.kind e f g))))
settles (M.after_comma {k} d c p) l h = settle_if (starts_element k l.kind) (λ e. leaves_so tt) (λ e. leaves_so tt)
settles (M.after_vars_comma d c p) l h = settle_if (starts_operand l.kind) (λ e. leaves_so tt)
    (λ e. settle_if (is l.kind kinds.Not) (λ g. fails_so) (λ g. leaves_so (e, g)))
settles (M.after_star s p) l h = settle_if (is l.kind kinds.Identifier) (λ e. takes_so (λ j. tt)) (λ e. leaves_so tt)
settles (M.after_name text i p) l h = settle_if (is l.kind kinds.Equal) (λ e. takes_so (λ j. tt)) (λ e. leaves_so tt)
settles (M.parts_tail d p) l h = settle_if (is l.kind kinds.FStringText) (λ e. takes_so (λ j. tt))
    (λ e. settle_if (is l.kind kinds.FStringExprStart) (λ e. takes_so (λ j. tt)) (λ e. leaves_so tt))
settles (M.after_bang s p) l h = settle_if (is l.kind kinds.Identifier) (λ e. takes_so (λ j. tt)) (λ e. leaves_so e)
settles (M.conversion_named s text i p) l h = leaves_so tt
settles (M.replacement_due d o e c p) l h = settle_if (is l.kind kinds.FStringExprEnd) (λ e. takes_so (λ j. tt)) (λ e. fails_so)
settles (M.f_string_due q s d p) l h = settle_if (is l.kind kinds.FStringEnd) (λ e. takes_so (λ j. tt)) (λ e. fails_so)
settles (M.newline_due d p) l h = settle_if (is l.kind kinds.Newline) (λ e. takes_so (λ j. tt)) (λ e. fails_so)
settles (M.line_end_due d i p) l h = settle_if (is l.kind kinds.Newline) (λ e. takes_so (λ j. tt)) (λ e. fails_so)
settles (M.load_round_due o p) l h = settle_if (is l.kind kinds.OpeningRound) (λ e. takes_so (λ j. tt)) (λ e. fails_so)
settles (M.load_string_due o i p) l h = settle_if (is l.kind kinds.String) (λ e. takes_so (λ j. tt)) (λ e. fails_so)
settles (M.load_due o i text v d p) l h = settle_if (is l.kind kinds.ClosingRound) (λ e. takes_so (λ j. tt)) (λ e. fails_so)
settles (M.newlines_tail d p) l h = settle_if (is l.kind kinds.Newline) (λ e. takes_so (λ j. tt)) (λ e. leaves_so tt)
settles (M.block_tail d p) l h = settle_block d p l.first l.kind
settles (M.def_name_due d p) l h = settle_if (is l.kind kinds.Identifier) (λ e. takes_so (λ j. tt)) (λ e. fails_so)
settles (M.def_round_due d text i p) l h = settle_if (is l.kind kinds.OpeningRound) (λ e. takes_so (λ j. tt)) (λ e. fails_so)
settles (M.def_close_due d text i o ps p) l h = settle_if (is l.kind kinds.ClosingRound) (λ e. takes_so (λ j. tt)) (λ e. fails_so)
settles (M.def_colon_due d text i o ps c t p) l h = settle_if (is l.kind kinds.Colon) (λ e. takes_so (λ j. tt)) (λ e. fails_so)
settles (M.if_colon_due i d p) l h = settle_if (is l.kind kinds.Colon) (λ e. takes_so (λ j. tt)) (λ e. fails_so)
settles (M.elif_colon_due i d p) l h = settle_if (is l.kind kinds.Colon) (λ e. takes_so (λ j. tt)) (λ e. fails_so)
settles (M.else_colon_due i p) l h = settle_if (is l.kind kinds.Colon) (λ e. takes_so (λ j. tt)) (λ e. fails_so)
settles (M.for_in_due f d p) l h = settle_if (is l.kind kinds.In) (λ e. takes_so (λ j. tt)) (λ e. fails_so)
settles (M.for_colon_due f d i e p) l h = settle_if (is l.kind kinds.Colon) (λ e. takes_so (λ j. tt)) (λ e. fails_so)
settles (M.indent_due n d p) l h = settle_if (is l.kind kinds.Indent) (λ e. takes_so (λ j. tt)) (λ e. fails_so)
settles (M.def_param_kwargs_due s p) l h = settle_if (is l.kind kinds.Identifier) (λ e. takes_so (λ j. tt)) (λ e. fails_so)
settles (M.after_def_param_star s p) l h = settle_if (is l.kind kinds.Identifier) (λ e. takes_so (λ j. tt)) (λ e. leaves_so tt)
settles (M.their_due text i g p) l h = settle_if (is l.kind kinds.String) (λ e. takes_so (λ j. tt)) (λ e. fails_so)
settles (M.after_list_comma d c p) l h = settle_if (starts_test l.kind) (λ e. leaves_so tt) (λ e. leaves_so e)
settles (M.after_semicolon d s p) l h = settle_if (starts_small l.kind) (λ e. leaves_so tt) (λ e. leaves_so tt)
settles (M.after_return r p) l h = settle_if (starts_test l.kind) (λ e. leaves_so tt) (λ e. leaves_so tt)
settles (M.after_symbol text i p) l h = settle_if (is l.kind kinds.Equal) (λ e. takes_so (λ j. tt)) (λ e. leaves_so e)
settles (M.else_due d i c p) l h = settle_if (is l.kind kinds.Else) (λ e. takes_so (λ j. tt)) (λ e. fails_so)
settles (M.in_due d s p) l h = settle_if (is l.kind kinds.In) (λ e. takes_so (λ j. tt)) (λ e. fails_so)
settles (M.name_due d s p) l h = settle_if (is l.kind kinds.Identifier) (λ e. takes_so (λ j. tt)) (λ e. fails_so)
settles (M.colon_due d p) l h = settle_if (is l.kind kinds.Colon) (λ e. takes_so (λ j. tt)) (λ e. fails_so)
settles (M.subscript_due d o f p) l h = settle_if (is l.kind kinds.ClosingSquare) (λ e. takes_so (λ j. tt)) (λ e. fails_so)
settles (M.call_due d o f p) l h = settle_if (is l.kind kinds.ClosingRound) (λ e. takes_so (λ j. tt)) (λ e. fails_so)
settles (M.lambda_due s d p) l h = settle_if (is l.kind kinds.Colon) (λ e. takes_so (λ j. tt)) (λ e. fails_so)
settles (M.value_due d p) l h = settle_if (is l.kind kinds.Colon) (λ e. takes_so (λ j. tt)) (λ e. fails_so)
settles (M.kwargs_due s p) l h = settle_if (is l.kind kinds.Identifier) (λ e. takes_so (λ j. tt)) (λ e. fails_so)
settles (M.curly_due o d p) l h = settle_if (is l.kind kinds.ClosingCurly) (λ e. takes_so (λ j. tt)) (λ e. fails_so)
settles (M.clause_in_due f d p) l h = settle_if (is l.kind kinds.In) (λ e. takes_so (λ j. tt)) (λ e. fails_so)
settles (M.list_comprehension_due o d e p) l h = settle_if (is l.kind kinds.ClosingSquare) (λ e. takes_so (λ j. tt)) (λ e. fails_so)
settles (M.dict_comprehension_due o d e p) l h = settle_if (is l.kind kinds.ClosingCurly) (λ e. takes_so (λ j. tt)) (λ e. fails_so)
settles (M.clauses_tail d p) l h = settle_if (is l.kind kinds.For) (λ e. leaves_so tt) (λ e. settle_if (is l.kind kinds.If) (λ e. takes_so (λ j. tt))
    (λ e. leaves_so tt))
settles (M.round_due o d p) l h = settle_if (is l.kind kinds.ClosingRound) (λ e. takes_so (λ j. tt)) (λ e. fails_so)
settles (M.square_due o d p) l h = settle_if (is l.kind kinds.ClosingSquare) (λ e. takes_so (λ j. tt)) (λ e. fails_so)

by_move : {b : Nonterminal} (z : Ending) (a : Config b) (m : Move b) → Settled a.state (look z a.rest).kind → SettledMove m (look z a.rest).kind
    → Settled (next m a).state (look z (next m a).rest).kind
by_move z a (Keep t) g (leaves_so h) = h
by_move z a (Take t) g (takes_so h) = h _
by_move z a Fail g fails_so = g
by_move z a (Finish d) g finishes_so = g

-- along each run, from wherever a nonterminal is required
pub settled : {b : Nonterminal} {z : Ending} {a c : Config b} → Reaches z a c → Settled a.state (look z a.rest).kind → Settled c.state (look z c.rest).kind
settled here h = h
settled {z = z} {a = a} (more q) h = settled q (by_move z a (move a.state (look z a.rest)) h (settles a.state (look z a.rest) h))
