-- Between two tokens the machine makes at most this many steps.
use Rattle.std.proofs.Common.{ℕ, ◌≡◌, ◌<◌, ◌+◌, lit≤, arith, Bool, true, false, if◌then◌else◌, refl, Option, Some, None}
use Rattle.starlark_lexer.specs.Tokens.{Span, Lexeme}
use Rattle.starlark_tree.specs.Ast.{Word}
use Rattle.starlark_lexer.specs.declared.kind.Kind.{Kind}
use Rattle.starlark_lexer.specs.declared.kind.Kind.TheVariants as kinds
use Rattle.starlark_spec.specs.Grammar.{Nonterminal, ElementKind, PrecedenceLevel, Operator, AssignSign, Derivation}
use Rattle.starlark_spec.specs.Grammar.Nonterminal.{Module, Stmt, Simple, Small, Test, Not, Comp, Unary, Primary, Atom, Sub, Bound, Arg, Entry, LambdaParam}
use Rattle.starlark_spec.specs.Grammar.Nonterminal.{FStringParts, Conversion, LoopVars, ForClause, Clauses, Smalls, TestList, Annotation, Note, Symbols, Sym}
use Rattle.starlark_spec.specs.Grammar.Nonterminal.{Suite, Block, Newlines, Rest, For, ReturnType, DefParam, LeftAssociative, OptionalList, CommaList}
use Rattle.starlark_spec.specs.Grammar.PrecedenceLevel.{or_precedence, and_precedence, bit_or_precedence, xor_precedence, bit_and_precedence}
use Rattle.starlark_spec.specs.Grammar.PrecedenceLevel.{shift_precedence, add_precedence, multiply_precedence}
use Rattle.starlark_spec.specs.Grammar.ElementKind.{elements, arguments, entries, lambda_parameters, variables, symbols, def_parameters}
use Rattle.starlark_lexer.specs.Kinds.{is}
use Rattle.starlark_spec.specs.Machine.States.{Place, State, Rooted}
use Rattle.starlark_spec.specs.Machine.States as M
use Rattle.starlark_spec.specs.Machine.Sight.{Look}
use Rattle.starlark_spec.specs.Machine.Firsts.{unary_at, operator_at, comparison_at, compares, starts_operand, starts_test, starts_small, starts_element}
use Rattle.starlark_spec.specs.Machine.Firsts.{assign_at}
use Rattle.starlark_spec.specs.Machine.Moves.{Move, Keep, Take, Fail, Finish, move, move_atom, move_lambda_param, move_unary, move_stmt, move_small}
use Rattle.starlark_spec.specs.Machine.Moves.{move_symbol, move_def_param, move_block, after_left, after_bit_or, alone, after_argument, single, single_entry}
use Rattle.starlark_spec.specs.Machine.Moves.{after_first_element, after_first_entry, after_annotation, single_test, after_single, after_list, element}
use Rattle.starlark_spec.specs.Machine.Moves.{operand}

-- how many steps may still come after a place
abbrev weigh : {b n : Nonterminal} → Place b n → ℕ
weigh (M.top u) = 0
weigh (M.module_stmt_at x0 p) = weigh p + 3
weigh (M.stmt_simple_at p) = weigh p + 3
weigh (M.def_parameters_at x0 x1 x2 x3 p) = weigh p + 3
weigh (M.def_return_type_at x0 x1 x2 x3 x4 x5 p) = weigh p + 3
weigh (M.def_suite_at x0 x1 x2 x3 x4 x5 x6 x7 p) = weigh p + 3
weigh (M.if_test_at x0 p) = weigh p + 3
weigh (M.if_suite_at x0 x1 x2 p) = weigh p + 6
weigh (M.if_rest_at x0 x1 x2 x3 p) = weigh p + 3
weigh (M.stmt_for_at p) = weigh p + 3
weigh (M.for_vars_at x0 p) = weigh p + 3
weigh (M.for_source_at x0 x1 x2 p) = weigh p + 3
weigh (M.for_suite_at x0 x1 x2 x3 x4 p) = weigh p + 3
weigh (M.elif_test_at x0 p) = weigh p + 3
weigh (M.elif_suite_at x0 x1 x2 p) = weigh p + 6
weigh (M.elif_rest_at x0 x1 x2 x3 p) = weigh p + 3
weigh (M.else_suite_at x0 x1 p) = weigh p + 3
weigh (M.suite_simple_at p) = weigh p + 3
weigh (M.suite_newlines_at x0 p) = weigh p + 3
weigh (M.suite_block_at x0 x1 x2 p) = weigh p + 3
weigh (M.block_newlines_at p) = weigh p + 3
weigh (M.block_first_at x0 p) = weigh p + 3
weigh (M.block_stmt_at x0 p) = weigh p + 3
weigh (M.return_type_note_at x0 p) = weigh p + 3
weigh (M.args_annotation_at x0 x1 x2 p) = weigh p + 3
weigh (M.kwargs_annotation_at x0 x1 x2 p) = weigh p + 3
weigh (M.def_param_annotation_at x0 x1 p) = weigh p + 3
weigh (M.def_param_default_at x0 x1 x2 x3 p) = weigh p + 3
weigh (M.simple_smalls_at p) = weigh p + 3
weigh (M.smalls_one_at p) = weigh p + 3
weigh (M.smalls_more_at x0 x1 p) = weigh p + 3
weigh (M.return_value_at x0 p) = weigh p + 3
weigh (M.load_symbols_at x0 x1 x2 x3 p) = weigh p + 3
weigh (M.small_list_at p) = weigh p + 6
weigh (M.assign_annotation_at x0 p) = weigh p + 3
weigh (M.assign_value_at x0 x1 x2 x3 p) = weigh p + 3
weigh (M.list_elements_at p) = weigh p + 3
weigh (M.annotation_note_at x0 p) = weigh p + 3
weigh (M.note_test_at p) = weigh p + 3
weigh (M.symbols_list_at x0 p) = weigh p + 3
weigh (M.test_or_at p) = weigh p + 3
weigh (M.test_if_at x0 x1 p) = weigh p + 3
weigh (M.test_else_at x0 x1 x2 x3 p) = weigh p + 3
weigh (M.lambda_parameters_at x0 p) = weigh p + 3
weigh (M.lambda_body_at x0 x1 x2 p) = weigh p + 3
weigh (M.left_first_at x0 p) = weigh p + 3
weigh (M.left_right_at x0 x1 x2 x3 p) = weigh p + 3
weigh (M.not_not_at x0 p) = weigh p + 3
weigh (M.not_comp_at p) = weigh p + 3
weigh (M.comp_first_at p) = weigh p + 3
weigh (M.comp_right_at x0 x1 p) = weigh p + 3
weigh (M.unary_sign_at x0 x1 p) = weigh p + 3
weigh (M.unary_primary_at p) = weigh p + 3
weigh (M.primary_atom_at p) = weigh p + 3
weigh (M.primary_subscript_at x0 x1 p) = weigh p + 3
weigh (M.sub_first_at p) = weigh p + 3
weigh (M.sub_two_at x0 x1 p) = weigh p + 3
weigh (M.sub_stop_at x0 x1 p) = weigh p + 3
weigh (M.sub_step_at x0 x1 x2 x3 p) = weigh p + 3
weigh (M.bound_test_at p) = weigh p + 3
weigh (M.primary_call_at x0 x1 p) = weigh p + 3
weigh (M.arg_test_at p) = weigh p + 3
weigh (M.arg_named_at x0 x1 x2 p) = weigh p + 3
weigh (M.arg_star_at x0 p) = weigh p + 3
weigh (M.arg_stars_at x0 p) = weigh p + 3
weigh (M.entry_key_at p) = weigh p + 3
weigh (M.entry_value_at x0 x1 p) = weigh p + 3
weigh (M.lambda_param_default_at x0 x1 x2 p) = weigh p + 3
weigh (M.atom_round_at x0 p) = weigh p + 3
weigh (M.atom_square_at x0 p) = weigh p + 3
weigh (M.atom_curly_at x0 p) = weigh p + 3
weigh (M.list_clauses_at x0 x1 p) = weigh p + 3
weigh (M.dict_clauses_at x0 x1 p) = weigh p + 3
weigh (M.vars_elements_at p) = weigh p + 3
weigh (M.clause_vars_at x0 p) = weigh p + 3
weigh (M.clause_source_at x0 x1 x2 p) = weigh p + 3
weigh (M.clauses_one_at p) = weigh p + 3
weigh (M.clauses_for_at x0 p) = weigh p + 3
weigh (M.clauses_if_at x0 x1 p) = weigh p + 3
weigh (M.parts_at x0 x1 p) = weigh p + 3
weigh (M.replacement_at x0 x1 p) = weigh p + 6
weigh (M.conversion_at x0 x1 x2 p) = weigh p + 3
weigh (M.comma_list_at p) = weigh p + 3
weigh (M.comma_list_one_at x0 p) = weigh p + 3
weigh (M.comma_list_more_at x0 x1 x2 p) = weigh p + 3

-- for a required nonterminal that consumes a token, and for one that may consume none
abbrev due_in : Nonterminal → ℕ → ℕ
due_in Atom w = 1
due_in Primary w = 2
due_in Unary w = 3
due_in (LeftAssociative multiply_precedence) w = 4
due_in (LeftAssociative add_precedence) w = 5
due_in (LeftAssociative shift_precedence) w = 6
due_in (LeftAssociative bit_and_precedence) w = 7
due_in (LeftAssociative xor_precedence) w = 8
due_in (LeftAssociative bit_or_precedence) w = 9
due_in Comp w = 10
due_in Not w = 11
due_in (LeftAssociative and_precedence) w = 12
due_in (LeftAssociative or_precedence) w = 13
due_in Test w = 14
due_in Arg w = 15
due_in Entry w = 15
due_in Note w = 15
due_in Sub w = 15
due_in Sym w = 1
due_in DefParam w = 1
due_in LambdaParam w = 1
due_in ForClause w = 1
due_in For w = 1
due_in Clauses w = 2
due_in (CommaList k) w = 16
due_in LoopVars w = 17
due_in TestList w = 17
due_in Small w = 18
due_in Smalls w = 19
due_in Simple w = 20
due_in Stmt w = 21
due_in Suite w = 21
due_in Block w = w + 36
due_in n w = w + 32

-- how many steps may still come before a token is consumed
abbrev pub measure : {b : Nonterminal} → State b → ℕ
measure (M.read n p) = due_in n (weigh p)
measure (M.done d p) = weigh p + 30
measure (M.module_tail x0 p) = weigh p + 31
measure (M.newlines_tail x0 p) = weigh p + 31
measure (M.block_tail x0 p) = weigh p + 31
measure (M.parts_tail x0 p) = weigh p + 31
measure (M.clauses_tail x0 p) = weigh p + 31
measure (M.left_tail x0 p) = weigh p + 31
measure (M.primary_tail x0 p) = weigh p + 31
measure (M.after_comma x0 x1 p) = weigh p + 31
measure (M.after_vars_comma x0 x1 p) = weigh p + 31
measure (M.after_list_comma x0 x1 p) = weigh p + 31
measure (M.after_semicolon x0 x1 p) = weigh p + 31
measure (M.after_return x0 p) = weigh p + 31
measure (M.after_symbol x0 x1 p) = weigh p + 31
measure (M.after_def_param_star x0 p) = weigh p + 31
measure (M.after_star x0 p) = weigh p + 31
measure (M.after_name x0 x1 p) = weigh p + 31
measure (M.after_bang x0 p) = weigh p + 31
measure (M.conversion_named x0 x1 x2 p) = weigh p + 31
measure s = 0

pub data Lessens {b : Nonterminal} (s : State b) (m : ℕ) : Move b → Type 0 where
  less : {t : State b} → measure t < m → Lessens s m (Keep t)
  takes : {t : State b} → Lessens s m (Take t)
  stops : Lessens s m Fail
  finishes : {d : Derivation b} {u : Rooted b} → s ≡ M.done d (M.top u) → Lessens s m (Finish d)

less_if : {b : Nonterminal} {s : State b} {m : ℕ} (c : Bool) {u v : Move b} → (c ≡ true → Lessens s m u) → (c ≡ false → Lessens s m v)
    → Lessens s m (if c then u else v)
less_if true f g = f refl
less_if false f g = g refl

operand_less : (k : PrecedenceLevel) (w v : ℕ) → due_in (operand k) w < due_in (LeftAssociative k) v
operand_less or_precedence w v = lit≤ tt
operand_less and_precedence w v = lit≤ tt
operand_less bit_or_precedence w v = lit≤ tt
operand_less xor_precedence w v = lit≤ tt
operand_less bit_and_precedence w v = lit≤ tt
operand_less shift_precedence w v = lit≤ tt
operand_less add_precedence w v = lit≤ tt
operand_less multiply_precedence w v = lit≤ tt

item_less : (k : ElementKind) (w : ℕ) → due_in (element k) w < 16
item_less elements w = lit≤ tt
item_less arguments w = lit≤ tt
item_less entries w = lit≤ tt
item_less lambda_parameters w = lit≤ tt
item_less variables w = lit≤ tt
item_less symbols w = lit≤ tt
item_less def_parameters w = lit≤ tt

item_small : (k : ElementKind) (v w : ℕ) → due_in (element k) w < v + 31
item_small elements v w = omega arith
item_small arguments v w = omega arith
item_small entries v w = omega arith
item_small lambda_parameters v w = omega arith
item_small variables v w = omega arith
item_small symbols v w = omega arith
item_small def_parameters v w = omega arith

module _ {b : Nonterminal} {s : State b} where
  less_unary : (p : Place b Unary) (x : Lexeme) (k : Kind) → Lessens s 3 (move_unary p x.span (unary_at k))
  less_unary p x kinds.Plus = takes
  less_unary p x kinds.Minus = takes
  less_unary p x kinds.Tilde = takes
  less_unary p x k = less (lit≤ tt)

  less_atom : (p : Place b Atom) (x : Lexeme) (k : Kind) → Lessens s 1 (move_atom p x k)
  less_atom p x kinds.Identifier = takes
  less_atom p x kinds.Int = takes
  less_atom p x kinds.Float = takes
  less_atom p x kinds.String = takes
  less_atom p x kinds.Bytes = takes
  less_atom p x kinds.Ellipsis = takes
  less_atom p x kinds.OpeningRound = takes
  less_atom p x kinds.OpeningSquare = takes
  less_atom p x kinds.FStringStart = takes
  less_atom p x kinds.OpeningCurly = takes
  less_atom p x k = stops

  less_lambda_param : (p : Place b LambdaParam) (x : Lexeme) (k : Kind) → Lessens s 1 (move_lambda_param p x k)
  less_lambda_param p x kinds.Slash = takes
  less_lambda_param p x kinds.Star = takes
  less_lambda_param p x kinds.StarStar = takes
  less_lambda_param p x kinds.Identifier = takes
  less_lambda_param p x k = stops

  less_def_param : (p : Place b DefParam) (x : Lexeme) (k : Kind) → Lessens s 1 (move_def_param p x k)
  less_def_param p x kinds.Slash = takes
  less_def_param p x kinds.Star = takes
  less_def_param p x kinds.StarStar = takes
  less_def_param p x kinds.Identifier = takes
  less_def_param p x k = stops

  less_stmt : (p : Place b Stmt) (x : Lexeme) (k : Kind) → Lessens s 21 (move_stmt p x k)
  less_stmt p x kinds.Def = takes
  less_stmt p x kinds.If = takes
  less_stmt p x kinds.For = less (lit≤ tt)
  less_stmt p x k = less (lit≤ tt)

  less_small : (p : Place b Small) (x : Lexeme) (k : Kind) → Lessens s 18 (move_small p x k)
  less_small p x kinds.Return = takes
  less_small p x kinds.Break = takes
  less_small p x kinds.Continue = takes
  less_small p x kinds.Pass = takes
  less_small p x kinds.Load = takes
  less_small p x k = less (lit≤ tt)

  less_symbol : (p : Place b Sym) (x : Lexeme) (k : Kind) → Lessens s 1 (move_symbol p x k)
  less_symbol p x kinds.String = takes
  less_symbol p x kinds.Identifier = takes
  less_symbol p x k = stops

  less_block : (d : Derivation Block) (p : Place b Block) (x : Lexeme) (k : Kind) → Lessens s (weigh p + 31) (move_block d p x k)
  less_block d p x kinds.Newline = takes
  less_block d p x k = less (omega arith)

  less_compared : (d : Derivation (LeftAssociative bit_or_precedence)) (p : Place b Comp) (x : Lexeme) (k : Kind) (w : Bool)
      → Lessens s (weigh p + 3 + 30) (after_bit_or d p (record { kind = k; first = x; no_memory = w }) (comparison_at k))
  less_compared d p x kinds.EqualEqual w = takes
  less_compared d p x kinds.BangEqual w = takes
  less_compared d p x kinds.LessThan w = takes
  less_compared d p x kinds.GreaterThan w = takes
  less_compared d p x kinds.LessEqual w = takes
  less_compared d p x kinds.GreaterEqual w = takes
  less_compared d p x kinds.In w = takes
  less_compared d p x kinds.Not w = takes
  less_compared d p x k w = less (omega arith)

  less_argument : (d : Derivation Test) (p : Place b Arg) (e : Span) (x : Option Word) → Lessens s (weigh p + 3 + 30) (after_argument d p e x)
  less_argument d p e (Some name) = takes
  less_argument d p e None = less (omega arith)

  less_element : (o : Span) (d : Derivation (OptionalList elements)) (p : Place b Atom) (x : Option (Derivation Test))
      → Lessens s (weigh p + 3 + 30) (after_first_element o d p x)
  less_element o d p (Some e) = less (omega arith)
  less_element o d p None = less (omega arith)

  less_entry : (o : Span) (d : Derivation (OptionalList entries)) (p : Place b Atom) (x : Option (Derivation Entry))
      → Lessens s (weigh p + 3 + 30) (after_first_entry o d p x)
  less_entry o d p (Some e) = less (omega arith)
  less_entry o d p None = less (omega arith)

  less_annotation : (d : Derivation TestList) (n : Derivation Annotation) (p : Place b Small) (i : Span) (x : Option AssignSign)
      → Lessens s (weigh p + 3 + 30) (after_annotation d n p i x)
  less_annotation d n p i (Some o) = takes
  less_annotation d n p i None = stops

  less_single : (p : Place b Small) (x : Option (Derivation Test)) → Lessens s (weigh p + 6 + 30) (after_single p x)
  less_single p (Some d) = less (omega arith)
  less_single p None = stops

  less_list : (d : Derivation TestList) (p : Place b Small) (x : Option AssignSign) → Lessens s (weigh p + 6 + 30) (after_list d p x)
  less_list d p (Some o) = less (omega arith)
  less_list d p None = less_single p (single_test d)

  less_left : {r : PrecedenceLevel} (d : Derivation (LeftAssociative r)) (p : Place b (LeftAssociative r)) (i : Span) (x : Option (Operator r))
      → Lessens s (weigh p + 31) (after_left d p i x)
  less_left d p i (Some o) = takes
  less_left d p i None = less (omega arith)

pub lessens : {b : Nonterminal} (s : State b) (l : Look) → Lessens s (measure s) (move s l)
lessens (M.read Module p) l = less (omega arith)
lessens (M.read Stmt p) l = less_stmt p l.first l.kind
lessens (M.read For p) l = less_if (is l.kind kinds.For) (λ e. takes) (λ e. stops)
lessens (M.read Rest p) l = less_if (is l.kind kinds.Elif) (λ e. takes) (λ e. less_if (is l.kind kinds.Else) (λ e. takes) (λ e. less (omega arith)))
lessens (M.read Suite p) l = less_if (is l.kind kinds.Newline) (λ e. takes) (λ e. less (omega arith))
lessens (M.read Newlines p) l = less (omega arith)
lessens (M.read Block p) l = less (omega arith)
lessens (M.read ReturnType p) l = less_if (is l.kind kinds.MinusGreater) (λ e. takes) (λ e. less (omega arith))
lessens (M.read DefParam p) l = less_def_param p l.first l.kind
lessens (M.read Simple p) l = less (omega arith)
lessens (M.read Smalls p) l = less (omega arith)
lessens (M.read Small p) l = less_small p l.first l.kind
lessens (M.read TestList p) l = less (omega arith)
lessens (M.read Annotation p) l = less_if (is l.kind kinds.Colon) (λ e. takes) (λ e. less (omega arith))
lessens (M.read Note p) l = less (omega arith)
lessens (M.read Symbols p) l = less_if (is l.kind kinds.Comma) (λ e. takes) (λ e. less (omega arith))
lessens (M.read Sym p) l = less_symbol p l.first l.kind
lessens (M.read Test p) l = less_if (is l.kind kinds.Lambda) (λ e. takes) (λ e. less (omega arith))
lessens (M.read (LeftAssociative k) p) l = less (operand_less k _ _)
lessens (M.read Not p) l = less_if (is l.kind kinds.Not) (λ e. takes) (λ e. less (omega arith))
lessens (M.read Comp p) l = less (omega arith)
lessens (M.read Unary p) l = less_unary p l.first l.kind
lessens (M.read Primary p) l = less (omega arith)
lessens (M.read Atom p) l = less_atom p l.first l.kind
lessens (M.read Sub p) l = less_if (starts_test l.kind) (λ e. less (omega arith)) (λ e. less (omega arith))
lessens (M.read Bound p) l = less_if (starts_test l.kind) (λ e. less (omega arith)) (λ e. less (omega arith))
lessens (M.read Arg p) l = less_if (is l.kind kinds.Star) (λ e. takes) (λ e. less_if (is l.kind kinds.StarStar) (λ e. takes) (λ e. less (omega arith)))
lessens (M.read Entry p) l = less (omega arith)
lessens (M.read LambdaParam p) l = less_lambda_param p l.first l.kind
lessens (M.read FStringParts p) l = less (omega arith)
lessens (M.read Conversion p) l = less_if (is l.kind kinds.FStringBang) (λ e. takes) (λ e. less (omega arith))
lessens (M.read LoopVars p) l = less (omega arith)
lessens (M.read ForClause p) l = less_if (is l.kind kinds.For) (λ e. takes) (λ e. stops)
lessens (M.read Clauses p) l = less (omega arith)
lessens (M.read (OptionalList k) p) l = less_if (starts_element k l.kind) (λ e. less (omega arith)) (λ e. less (omega arith))
lessens (M.read (CommaList k) p) l = less (item_less k _)
lessens (M.done d (M.top u)) l = finishes refl
lessens (M.done d (M.module_stmt_at m p)) l = less (omega arith)
lessens (M.done d (M.stmt_simple_at p)) l = less (omega arith)
lessens (M.done ps (M.def_parameters_at d text i o p)) l = less (omega arith)
lessens (M.done t (M.def_return_type_at d text i o ps c p)) l = less (omega arith)
lessens (M.done s (M.def_suite_at d text i o ps c t k p)) l = less (omega arith)
lessens (M.done d (M.if_test_at i p)) l = less (omega arith)
lessens (M.done s (M.if_suite_at i d c p)) l = less (omega arith)
lessens (M.done e (M.if_rest_at i d c s p)) l = less (omega arith)
lessens (M.done d (M.stmt_for_at p)) l = less (omega arith)
lessens (M.done d (M.for_vars_at f p)) l = less (omega arith)
lessens (M.done e (M.for_source_at f d i p)) l = less (omega arith)
lessens (M.done d (M.elif_test_at i p)) l = less (omega arith)
lessens (M.done s (M.elif_suite_at i d c p)) l = less (omega arith)
lessens (M.done e (M.elif_rest_at i d c s p)) l = less (omega arith)
lessens (M.done s (M.else_suite_at i c p)) l = less (omega arith)
lessens (M.done d (M.suite_simple_at p)) l = less (omega arith)
lessens (M.done d (M.suite_newlines_at n p)) l = less (omega arith)
lessens (M.done d (M.block_newlines_at p)) l = less (omega arith)
lessens (M.done s (M.block_first_at d p)) l = less (omega arith)
lessens (M.done s (M.block_stmt_at b p)) l = less (omega arith)
lessens (M.done d (M.return_type_note_at a p)) l = less (omega arith)
lessens (M.done d (M.args_annotation_at s text i p)) l = less (omega arith)
lessens (M.done d (M.kwargs_annotation_at s text i p)) l = less (omega arith)
lessens (M.done v (M.def_param_default_at text i d e p)) l = less (omega arith)
lessens (M.done s (M.for_suite_at f d i e c p)) l = less (omega arith)
lessens (M.done b (M.suite_block_at n d i p)) l = less_if (is l.kind kinds.Dedent) (λ e. takes) (λ e. less_if (is l.kind kinds.End) (λ e. less (omega arith))
    (λ e. stops))
lessens (M.done d (M.def_param_annotation_at text i p)) l = less_if (is l.kind kinds.Equal) (λ e. takes) (λ e. less (omega arith))
lessens (M.done d (M.simple_smalls_at p)) l = less_if (is l.kind kinds.Semicolon) (λ e. takes) (λ e. less (omega arith))
lessens (M.done d (M.smalls_one_at p)) l = less (omega arith)
lessens (M.done e (M.smalls_more_at d s p)) l = less (omega arith)
lessens (M.done d (M.return_value_at r p)) l = less (omega arith)
lessens (M.done d (M.load_symbols_at o i text s p)) l = less (omega arith)
lessens (M.done d (M.small_list_at p)) l = less_if (is l.kind kinds.Colon) (λ e. less (omega arith)) (λ e. less_list d p (assign_at l.kind))
lessens (M.done n (M.assign_annotation_at d p)) l = less_annotation d n p l.first.span (assign_at l.kind)
lessens (M.done e (M.assign_value_at d n o s p)) l = less (omega arith)
lessens (M.done d (M.list_elements_at p)) l = less_if (is l.kind kinds.Comma) (λ e. takes) (λ e. less (omega arith))
lessens (M.done d (M.annotation_note_at c p)) l = less (omega arith)
lessens (M.done d (M.note_test_at p)) l = less (omega arith)
lessens (M.done d (M.symbols_list_at c p)) l = less (omega arith)
lessens (M.done d (M.test_or_at p)) l = less_if (is l.kind kinds.If) (λ e. takes) (λ e. less (omega arith))
lessens (M.done c (M.test_if_at d i p)) l = less (omega arith)
lessens (M.done f (M.test_else_at d i c e p)) l = less (omega arith)
lessens (M.done d (M.lambda_parameters_at s p)) l = less (omega arith)
lessens (M.done e (M.lambda_body_at s d c p)) l = less (omega arith)
lessens (M.done d (M.left_first_at u p)) l = less (omega arith)
lessens (M.done e (M.left_right_at u d o s p)) l = less (omega arith)
lessens (M.done d (M.not_not_at s p)) l = less (omega arith)
lessens (M.done d (M.not_comp_at p)) l = less (omega arith)
lessens (M.done d (M.comp_first_at p)) l = less_compared d p l.first l.kind l.no_memory
lessens (M.done e (M.comp_right_at d o p)) l = less_if (compares l.kind) (λ e. stops) (λ e. less (omega arith))
lessens (M.done d (M.unary_sign_at o s p)) l = less (omega arith)
lessens (M.done d (M.unary_primary_at p)) l = less (omega arith)
lessens (M.done d (M.primary_atom_at p)) l = less (omega arith)
lessens (M.done f (M.primary_subscript_at d o p)) l = less (omega arith)
lessens (M.done d (M.sub_first_at p)) l = less_if (is l.kind kinds.Comma) (λ e. takes)
    (λ e. less_if (is l.kind kinds.Colon) (λ e. takes) (λ e. less (omega arith)))
lessens (M.done e (M.sub_two_at d c p)) l = less (omega arith)
lessens (M.done e (M.sub_stop_at d c p)) l = less_if (is l.kind kinds.Colon) (λ e. takes) (λ e. less (omega arith))
lessens (M.done f (M.sub_step_at d c e s p)) l = less (omega arith)
lessens (M.done d (M.bound_test_at p)) l = less (omega arith)
lessens (M.done f (M.primary_call_at d o p)) l = less (omega arith)
lessens (M.done d (M.arg_test_at p)) l = less_if (is l.kind kinds.Equal) (λ e. less_argument d p l.first.span (alone d)) (λ e. less (omega arith))
lessens (M.done d (M.arg_named_at text s e p)) l = less (omega arith)
lessens (M.done d (M.arg_star_at s p)) l = less (omega arith)
lessens (M.done d (M.arg_stars_at s p)) l = less (omega arith)
lessens (M.done d (M.entry_key_at p)) l = less (omega arith)
lessens (M.done e (M.entry_value_at d c p)) l = less (omega arith)
lessens (M.done d (M.lambda_param_default_at text i e p)) l = less (omega arith)
lessens (M.done d (M.atom_round_at o p)) l = less (omega arith)
lessens (M.done d (M.atom_square_at o p)) l = less_if (is l.kind kinds.For) (λ e. less_element o d p (single d)) (λ e. less (omega arith))
lessens (M.done d (M.atom_curly_at o p)) l = less_if (is l.kind kinds.For) (λ e. less_entry o d p (single_entry d)) (λ e. less (omega arith))
lessens (M.done e (M.list_clauses_at o d p)) l = less (omega arith)
lessens (M.done e (M.dict_clauses_at o d p)) l = less (omega arith)
lessens (M.done d (M.vars_elements_at p)) l = less_if (is l.kind kinds.Comma) (λ e. takes) (λ e. less (omega arith))
lessens (M.done d (M.clause_vars_at f p)) l = less (omega arith)
lessens (M.done e (M.clause_source_at f d i p)) l = less (omega arith)
lessens (M.done d (M.clauses_one_at p)) l = less (omega arith)
lessens (M.done e (M.clauses_for_at d p)) l = less (omega arith)
lessens (M.done e (M.clauses_if_at d i p)) l = less (omega arith)
lessens (M.done d (M.parts_at q s p)) l = less (omega arith)
lessens (M.done e (M.replacement_at d o p)) l = less (omega arith)
lessens (M.done c (M.conversion_at d o e p)) l = less (omega arith)
lessens (M.done d (M.comma_list_at p)) l = less_if (is l.kind kinds.Comma) (λ e. takes) (λ e. less (omega arith))
lessens (M.done d (M.comma_list_one_at u p)) l = less (omega arith)
lessens (M.done e (M.comma_list_more_at u d c p)) l = less (omega arith)
lessens (M.module_tail m p) l = less_if (is l.kind kinds.End) (λ e. less (omega arith))
    (λ e. less_if (is l.kind kinds.Newline) (λ e. takes) (λ e. less (omega arith)))
lessens (M.left_tail {k} d p) l = less_left d p l.first.span (operator_at k l.kind)
lessens (M.primary_tail d p) l = less_if (is l.kind kinds.Dot) (λ e. takes) (λ e. less_if (is l.kind kinds.OpeningSquare) (λ e. takes)
    (λ e. less_if (is l.kind kinds.OpeningRound) (λ e. takes) (λ e. less (omega arith))))
lessens (M.after_comma {k} d c p) l = less_if (starts_element k l.kind) (λ e. less (item_small k (weigh p) _)) (λ e. less (omega arith))
lessens (M.after_vars_comma d c p) l = less_if (starts_operand l.kind) (λ e. less (omega arith))
    (λ e. less_if (is l.kind kinds.Not) (λ e. stops) (λ e. less (omega arith)))
lessens (M.after_star s p) l = less_if (is l.kind kinds.Identifier) (λ e. takes) (λ e. less (omega arith))
lessens (M.after_name text i p) l = less_if (is l.kind kinds.Equal) (λ e. takes) (λ e. less (omega arith))
lessens (M.parts_tail d p) l = less_if (is l.kind kinds.FStringText) (λ e. takes) (λ e. less_if (is l.kind kinds.FStringExprStart) (λ e. takes)
    (λ e. less (omega arith)))
lessens (M.after_bang s p) l = less_if (is l.kind kinds.Identifier) (λ e. takes) (λ e. less (omega arith))
lessens (M.conversion_named s text i p) l = less (omega arith)
lessens (M.replacement_due d o e c p) l = less_if (is l.kind kinds.FStringExprEnd) (λ e. takes) (λ e. stops)
lessens (M.f_string_due q s d p) l = less_if (is l.kind kinds.FStringEnd) (λ e. takes) (λ e. stops)
lessens (M.newline_due d p) l = less_if (is l.kind kinds.Newline) (λ e. takes) (λ e. stops)
lessens (M.line_end_due d i p) l = less_if (is l.kind kinds.Newline) (λ e. takes) (λ e. stops)
lessens (M.load_round_due o p) l = less_if (is l.kind kinds.OpeningRound) (λ e. takes) (λ e. stops)
lessens (M.load_string_due o i p) l = less_if (is l.kind kinds.String) (λ e. takes) (λ e. stops)
lessens (M.load_due o i text v d p) l = less_if (is l.kind kinds.ClosingRound) (λ e. takes) (λ e. stops)
lessens (M.newlines_tail d p) l = less_if (is l.kind kinds.Newline) (λ e. takes) (λ e. less (omega arith))
lessens (M.block_tail d p) l = less_block d p l.first l.kind
lessens (M.def_name_due d p) l = less_if (is l.kind kinds.Identifier) (λ e. takes) (λ e. stops)
lessens (M.def_round_due d text i p) l = less_if (is l.kind kinds.OpeningRound) (λ e. takes) (λ e. stops)
lessens (M.def_close_due d text i o ps p) l = less_if (is l.kind kinds.ClosingRound) (λ e. takes) (λ e. stops)
lessens (M.def_colon_due d text i o ps c t p) l = less_if (is l.kind kinds.Colon) (λ e. takes) (λ e. stops)
lessens (M.if_colon_due i d p) l = less_if (is l.kind kinds.Colon) (λ e. takes) (λ e. stops)
lessens (M.elif_colon_due i d p) l = less_if (is l.kind kinds.Colon) (λ e. takes) (λ e. stops)
lessens (M.else_colon_due i p) l = less_if (is l.kind kinds.Colon) (λ e. takes) (λ e. stops)
lessens (M.for_in_due f d p) l = less_if (is l.kind kinds.In) (λ e. takes) (λ e. stops)
lessens (M.for_colon_due f d i e p) l = less_if (is l.kind kinds.Colon) (λ e. takes) (λ e. stops)
lessens (M.indent_due n d p) l = less_if (is l.kind kinds.Indent) (λ e. takes) (λ e. stops)
lessens (M.def_param_kwargs_due s p) l = less_if (is l.kind kinds.Identifier) (λ e. takes) (λ e. stops)
lessens (M.after_def_param_star s p) l = less_if (is l.kind kinds.Identifier) (λ e. takes) (λ e. less (omega arith))
lessens (M.their_due text i g p) l = less_if (is l.kind kinds.String) (λ e. takes) (λ e. stops)
lessens (M.after_list_comma d c p) l = less_if (starts_test l.kind) (λ e. less (omega arith)) (λ e. less (omega arith))
lessens (M.after_semicolon d s p) l = less_if (starts_small l.kind) (λ e. less (omega arith)) (λ e. less (omega arith))
lessens (M.after_return r p) l = less_if (starts_test l.kind) (λ e. less (omega arith)) (λ e. less (omega arith))
lessens (M.after_symbol text i p) l = less_if (is l.kind kinds.Equal) (λ e. takes) (λ e. less (omega arith))
lessens (M.else_due d i c p) l = less_if (is l.kind kinds.Else) (λ e. takes) (λ e. stops)
lessens (M.in_due d s p) l = less_if (is l.kind kinds.In) (λ e. takes) (λ e. stops)
lessens (M.name_due d s p) l = less_if (is l.kind kinds.Identifier) (λ e. takes) (λ e. stops)
lessens (M.colon_due d p) l = less_if (is l.kind kinds.Colon) (λ e. takes) (λ e. stops)
lessens (M.subscript_due d o f p) l = less_if (is l.kind kinds.ClosingSquare) (λ e. takes) (λ e. stops)
lessens (M.call_due d o f p) l = less_if (is l.kind kinds.ClosingRound) (λ e. takes) (λ e. stops)
lessens (M.lambda_due s d p) l = less_if (is l.kind kinds.Colon) (λ e. takes) (λ e. stops)
lessens (M.value_due d p) l = less_if (is l.kind kinds.Colon) (λ e. takes) (λ e. stops)
lessens (M.kwargs_due s p) l = less_if (is l.kind kinds.Identifier) (λ e. takes) (λ e. stops)
lessens (M.curly_due o d p) l = less_if (is l.kind kinds.ClosingCurly) (λ e. takes) (λ e. stops)
lessens (M.clause_in_due f d p) l = less_if (is l.kind kinds.In) (λ e. takes) (λ e. stops)
lessens (M.list_comprehension_due o d e p) l = less_if (is l.kind kinds.ClosingSquare) (λ e. takes) (λ e. stops)
lessens (M.dict_comprehension_due o d e p) l = less_if (is l.kind kinds.ClosingCurly) (λ e. takes) (λ e. stops)
lessens (M.clauses_tail d p) l = less_if (is l.kind kinds.For) (λ e. less (omega arith))
    (λ e. less_if (is l.kind kinds.If) (λ e. takes) (λ e. less (omega arith)))
lessens (M.round_due o d p) l = less_if (is l.kind kinds.ClosingRound) (λ e. takes) (λ e. stops)
lessens (M.square_due o d p) l = less_if (is l.kind kinds.ClosingSquare) (λ e. takes) (λ e. stops)
