-- The machine's moves: what it does at the first of the remaining items.
use Rattle.std.specs.Prelude.{if◌then◌else◌, Option, Some, None}
use Rattle.starlark_lexer.specs.Tokens.{Span, Lexeme}
use Rattle.starlark_lexer.specs.declared.kind.Kind.{Kind}
use Rattle.starlark_lexer.specs.declared.kind.Kind.TheVariants as kinds
use Rattle.starlark_tree.specs.Ast.{Word}
use Rattle.starlark_spec.specs.Grammar.{Nonterminal, ElementKind, ElementOf, PrecedenceLevel, OperandOf, Operator, Comparison, UnarySign, AssignSign}
use Rattle.starlark_spec.specs.Grammar.{Derivation}
use Rattle.starlark_spec.specs.Grammar as G
use Rattle.starlark_spec.specs.Trees.{at}
use Rattle.starlark_lexer.specs.Kinds.{is}
use Rattle.starlark_spec.specs.Machine.States.{Place, State}
use Rattle.starlark_spec.specs.Machine.States as M
use Rattle.starlark_spec.specs.Machine.Sight.{Look, text_of, number_of, quote_of}
use Rattle.starlark_spec.specs.Machine.Firsts.{starts_operand, starts_test, starts_small, starts_element, operator_at, comparison_at, compares}
use Rattle.starlark_spec.specs.Machine.Firsts.{unary_at, assign_at}

-- it keeps the first item, or consumes it, or gets stuck there
pub data Move (b : Nonterminal) : Type 0 where
  Keep : State b → Move b
  Take : State b → Move b
  Fail : Move b
  Finish : Derivation b → Move b

-- an atom by the kind of its first token
abbrev pub move_atom : {b : Nonterminal} → Place b G.Atom → Lexeme → Kind → Move b
move_atom p x kinds.Identifier = Take (M.done (G.atom_name (text_of x.token) x.span) p)
move_atom p x kinds.Int = Take (M.done (G.atom_int (number_of x.token) x.span) p)
move_atom p x kinds.Float = Take (M.done (G.atom_float (text_of x.token) x.span) p)
move_atom p x kinds.String = Take (M.done (G.atom_string (text_of x.token) x.span) p)
move_atom p x kinds.Bytes = Take (M.done (G.atom_bytes (text_of x.token) x.span) p)
move_atom p x kinds.Ellipsis = Take (M.done (G.atom_ellipsis x.span) p)
move_atom p x kinds.OpeningRound = Take (M.read (G.OptionalList G.elements) (M.atom_round_at x.span p))
move_atom p x kinds.OpeningSquare = Take (M.read (G.OptionalList G.elements) (M.atom_square_at x.span p))
move_atom p x kinds.FStringStart = Take (M.read G.FStringParts (M.parts_at (quote_of x.token) x.span p))
move_atom p x kinds.OpeningCurly = Take (M.read (G.OptionalList G.entries) (M.atom_curly_at x.span p))
move_atom p x _ = Fail

-- a parameter by the kind of its first token
abbrev pub move_lambda_param : {b : Nonterminal} → Place b G.LambdaParam → Lexeme → Kind → Move b
move_lambda_param p x kinds.Slash = Take (M.done (G.lambda_param_slash x.span) p)
move_lambda_param p x kinds.Star = Take (M.after_star x.span p)
move_lambda_param p x kinds.StarStar = Take (M.kwargs_due x.span p)
move_lambda_param p x kinds.Identifier = Take (M.after_name (text_of x.token) x.span p)
move_lambda_param p x _ = Fail

-- the nonterminal of the elements of a list
abbrev pub element : ElementKind → Nonterminal
element G.elements = G.Test
element G.arguments = G.Arg
element G.entries = G.Entry
element G.lambda_parameters = G.LambdaParam
element G.variables = G.LeftAssociative G.bit_or_precedence
element G.symbols = G.Sym
element G.def_parameters = G.DefParam

abbrev pub is_element : (k : ElementKind) → ElementOf k (element k)
is_element G.elements = G.of_elements
is_element G.arguments = G.of_arguments
is_element G.entries = G.of_entries
is_element G.lambda_parameters = G.of_lambda_parameters
is_element G.variables = G.of_variables
is_element G.symbols = G.of_symbols
is_element G.def_parameters = G.of_def_parameters

-- the nonterminal of the operands of a level
abbrev pub operand : PrecedenceLevel → Nonterminal
operand G.or_precedence = G.LeftAssociative G.and_precedence
operand G.and_precedence = G.Not
operand G.bit_or_precedence = G.LeftAssociative G.xor_precedence
operand G.xor_precedence = G.LeftAssociative G.bit_and_precedence
operand G.bit_and_precedence = G.LeftAssociative G.shift_precedence
operand G.shift_precedence = G.LeftAssociative G.add_precedence
operand G.add_precedence = G.LeftAssociative G.multiply_precedence
operand G.multiply_precedence = G.Unary

abbrev pub is_operand : (k : PrecedenceLevel) → OperandOf k (operand k)
is_operand G.or_precedence = G.of_or
is_operand G.and_precedence = G.of_and
is_operand G.bit_or_precedence = G.of_bit_or
is_operand G.xor_precedence = G.of_xor
is_operand G.bit_and_precedence = G.of_bit_and
is_operand G.shift_precedence = G.of_shift
is_operand G.add_precedence = G.of_add
is_operand G.multiply_precedence = G.of_multiply

-- a statement by the kind of its first token
abbrev pub move_stmt : {b : Nonterminal} → Place b G.Stmt → Lexeme → Kind → Move b
move_stmt p x kinds.Def = Take (M.def_name_due x.span p)
move_stmt p x kinds.If = Take (M.read G.Test (M.if_test_at x.span p))
move_stmt p x kinds.For = Keep (M.read G.For (M.stmt_for_at p))
move_stmt p x _ = Keep (M.read G.Simple (M.stmt_simple_at p))

-- a parameter of a `def` by the kind of its first token
abbrev pub move_def_param : {b : Nonterminal} → Place b G.DefParam → Lexeme → Kind → Move b
move_def_param p x kinds.Slash = Take (M.done (G.def_param_slash x.span) p)
move_def_param p x kinds.Star = Take (M.after_def_param_star x.span p)
move_def_param p x kinds.StarStar = Take (M.def_param_kwargs_due x.span p)
move_def_param p x kinds.Identifier = Take (M.read G.Annotation (M.def_param_annotation_at (text_of x.token) x.span p))
move_def_param p x _ = Fail

-- after a statement in a block
abbrev pub move_block : {b : Nonterminal} → Derivation G.Block → Place b G.Block → Lexeme → Kind → Move b
move_block d p x kinds.Newline = Take (M.block_tail (G.block_newline d x.span) p)
move_block d p x kinds.Dedent = Keep (M.done d p)
move_block d p x kinds.End = Keep (M.done d p)
move_block d p x _ = Keep (M.read G.Stmt (M.block_stmt_at d p))

-- a small statement by the kind of its first token
abbrev pub move_small : {b : Nonterminal} → Place b G.Small → Lexeme → Kind → Move b
move_small p x kinds.Return = Take (M.after_return x.span p)
move_small p x kinds.Break = Take (M.done (G.small_break x.span) p)
move_small p x kinds.Continue = Take (M.done (G.small_continue x.span) p)
move_small p x kinds.Pass = Take (M.done (G.small_pass x.span) p)
move_small p x kinds.Load = Take (M.load_round_due x.span p)
move_small p x _ = Keep (M.read G.TestList (M.small_list_at p))

-- a symbol of a load by the kind of its first token
abbrev pub move_symbol : {b : Nonterminal} → Place b G.Sym → Lexeme → Kind → Move b
move_symbol p x kinds.String = Take (M.done (G.sym_same (text_of x.token) x.span) p)
move_symbol p x kinds.Identifier = Take (M.after_symbol (text_of x.token) x.span p)
move_symbol p x _ = Fail

abbrev pub after_annotation : {b : Nonterminal} → Derivation G.TestList → Derivation G.Annotation → Place b G.Small → Span → Option AssignSign → Move b
after_annotation d n p s (Some o) = Take (M.read G.TestList (M.assign_value_at d n o s p))
after_annotation d n p s None = Fail

-- the only element of a list without a comma
abbrev pub single_test : Derivation G.TestList → Option (Derivation G.Test)
single_test (G.list_plain (G.comma_list_one G.of_elements d)) = Some d
single_test _ = None

abbrev pub after_single : {b : Nonterminal} → Place b G.Small → Option (Derivation G.Test) → Move b
after_single p (Some d) = Keep (M.done (G.small_test d) p)
after_single p None = Fail

abbrev pub after_list : {b : Nonterminal} → Derivation G.TestList → Place b G.Small → Option AssignSign → Move b
after_list d p (Some o) = Keep (M.read G.Annotation (M.assign_annotation_at d p))
after_list d p None = after_single p (single_test d)

abbrev pub move_unary : {b : Nonterminal} → Place b G.Unary → Span → Option UnarySign → Move b
move_unary p s (Some o) = Take (M.read G.Unary (M.unary_sign_at o s p))
move_unary p s None = Keep (M.read G.Primary (M.unary_primary_at p))

-- the name of a derivation that is one token
abbrev pub alone : {n : Nonterminal} → Derivation n → Option Word
alone (G.test_or d) = alone d
alone (G.left_one u d) = alone d
alone (G.not_comp d) = alone d
alone (G.comp_one d) = alone d
alone (G.unary_primary d) = alone d
alone (G.primary_atom d) = alone d
alone (G.atom_name text s) = Some (at text s)
alone _ = None

-- the only element of a list without a comma, and the only entry
abbrev pub single : Derivation (G.OptionalList G.elements) → Option (Derivation G.Test)
single (G.optional_list_plain (G.comma_list_one G.of_elements d)) = Some d
single _ = None

abbrev pub single_entry : Derivation (G.OptionalList G.entries) → Option (Derivation G.Entry)
single_entry (G.optional_list_plain (G.comma_list_one G.of_entries d)) = Some d
single_entry _ = None

abbrev pub move_read : {b : Nonterminal} (n : Nonterminal) → Place b n → Look → Move b
move_read G.Module p l = Keep (M.module_tail G.module_none p)
move_read G.Stmt p l = move_stmt p l.first l.kind
move_read G.For p l = if is l.kind kinds.For then Take (M.read G.LoopVars (M.for_vars_at l.first.span p)) else Fail
move_read G.Rest p l =
    if is l.kind kinds.Elif then Take (M.read G.Test (M.elif_test_at l.first.span p))
    else (if is l.kind kinds.Else then Take (M.else_colon_due l.first.span p) else Keep (M.done G.rest_none p))
move_read G.Suite p l = if is l.kind kinds.Newline then Take (M.read G.Newlines (M.suite_newlines_at l.first.span p)) else Keep
    (M.read G.Simple (M.suite_simple_at p))
move_read G.Newlines p l = Keep (M.newlines_tail G.newlines_none p)
move_read G.Block p l = Keep (M.read G.Newlines (M.block_newlines_at p))
move_read G.ReturnType p l = if is l.kind kinds.MinusGreater then Take (M.read G.Note (M.return_type_note_at l.first.span p)) else Keep
    (M.done G.return_type_none p)
move_read G.DefParam p l = move_def_param p l.first l.kind
move_read G.Simple p l = Keep (M.read G.Smalls (M.simple_smalls_at p))
move_read G.Smalls p l = Keep (M.read G.Small (M.smalls_one_at p))
move_read G.Small p l = move_small p l.first l.kind
move_read G.TestList p l = Keep (M.read (G.CommaList G.elements) (M.list_elements_at p))
move_read G.Annotation p l = if is l.kind kinds.Colon then Take (M.read G.Note (M.annotation_note_at l.first.span p)) else Keep (M.done G.annotation_none p)
move_read G.Note p l = Keep (M.read G.Test (M.note_test_at p))
move_read G.Symbols p l = if is l.kind kinds.Comma then Take (M.read (G.OptionalList G.symbols) (M.symbols_list_at l.first.span p)) else Keep
    (M.done G.symbols_none p)
move_read G.Sym p l = move_symbol p l.first l.kind
move_read G.Test p l =
    if is l.kind kinds.Lambda then Take (M.read (G.OptionalList G.lambda_parameters) (M.lambda_parameters_at l.first.span p))
    else Keep (M.read (G.LeftAssociative G.or_precedence) (M.test_or_at p))
move_read (G.LeftAssociative k) p l = Keep (M.read (operand k) (M.left_first_at (is_operand k) p))
move_read G.Not p l = if is l.kind kinds.Not then Take (M.read G.Not (M.not_not_at l.first.span p)) else Keep (M.read G.Comp (M.not_comp_at p))
move_read G.Comp p l = Keep (M.read (G.LeftAssociative G.bit_or_precedence) (M.comp_first_at p))
move_read G.Unary p l = move_unary p l.first.span (unary_at l.kind)
move_read G.Primary p l = Keep (M.read G.Atom (M.primary_atom_at p))
move_read G.Atom p l = move_atom p l.first l.kind
move_read G.Sub p l = if starts_test l.kind then Keep (M.read G.Test (M.sub_first_at p)) else Keep (M.colon_due G.bound_none p)
move_read G.Bound p l = if starts_test l.kind then Keep (M.read G.Test (M.bound_test_at p)) else Keep (M.done G.bound_none p)
move_read G.Arg p l =
    if is l.kind kinds.Star then Take (M.read G.Test (M.arg_star_at l.first.span p))
    else (if is l.kind kinds.StarStar then Take (M.read G.Test (M.arg_stars_at l.first.span p)) else Keep (M.read G.Test (M.arg_test_at p)))
move_read G.Entry p l = Keep (M.read G.Test (M.entry_key_at p))
move_read G.LambdaParam p l = move_lambda_param p l.first l.kind
move_read G.FStringParts p l = Keep (M.parts_tail G.parts_none p)
move_read G.Conversion p l = if is l.kind kinds.FStringBang then Take (M.after_bang l.first.span p) else Keep (M.done G.conversion_default p)
move_read G.LoopVars p l = Keep (M.read (G.CommaList G.variables) (M.vars_elements_at p))
move_read G.ForClause p l = if is l.kind kinds.For then Take (M.read G.LoopVars (M.clause_vars_at l.first.span p)) else Fail
move_read G.Clauses p l = Keep (M.read G.ForClause (M.clauses_one_at p))
move_read (G.OptionalList k) p l = if starts_element k l.kind then Keep (M.read (G.CommaList k) (M.comma_list_at p)) else Keep (M.done G.optional_list_none p)
move_read (G.CommaList k) p l = Keep (M.read (element k) (M.comma_list_one_at (is_element k) p))

abbrev pub after_left : {b : Nonterminal} {k : PrecedenceLevel} → Derivation (G.LeftAssociative k) → Place b (G.LeftAssociative k) → Span → Option (Operator k)
    → Move b
after_left {b} {k} d p s (Some o) = Take (M.read (operand k) (M.left_right_at (is_operand k) d o s p))
after_left d p s None = Keep (M.done d p)

abbrev pub after_bit_or : {b : Nonterminal} → Derivation (G.LeftAssociative G.bit_or_precedence) → Place b G.Comp → Look → Option Comparison → Move b
after_bit_or d p l (Some c) = Take (M.read (G.LeftAssociative G.bit_or_precedence) (M.comp_right_at d (G.comparison c l.first.span) p))
after_bit_or d p l None = if is l.kind kinds.Not then Take (M.in_due d l.first.span p) else Keep (M.done (G.comp_one d) p)

-- `=` after an argument that is a name, or after another
abbrev pub after_argument : {b : Nonterminal} → Derivation G.Test → Place b G.Arg → Span → Option Word → Move b
after_argument d p e (Some name) = Take (M.read G.Test (M.arg_named_at name.text name.span e p))
after_argument d p e None = Keep (M.done (G.arg_test d) p)

-- `for` after the first element of a list, or the first entry of a dictionary
abbrev pub after_first_element : {b : Nonterminal} → Span → Derivation (G.OptionalList G.elements) → Place b G.Atom → Option (Derivation G.Test) → Move b
after_first_element o d p (Some e) = Keep (M.read G.Clauses (M.list_clauses_at o e p))
after_first_element o d p None = Keep (M.square_due o d p)

abbrev pub after_first_entry : {b : Nonterminal} → Span → Derivation (G.OptionalList G.entries) → Place b G.Atom → Option (Derivation G.Entry) → Move b
after_first_entry o d p (Some e) = Keep (M.read G.Clauses (M.dict_clauses_at o e p))
after_first_entry o d p None = Keep (M.curly_due o d p)

abbrev pub move_done : {b n : Nonterminal} → Derivation n → Place b n → Look → Move b
move_done d (M.top root) l = Finish d
move_done d (M.module_stmt_at m p) l = Keep (M.module_tail (G.module_stmt m d) p)
move_done d (M.stmt_simple_at p) l = Keep (M.done (G.stmt_simple d) p)
move_done ps (M.def_parameters_at d text i o p) l = Keep (M.def_close_due d text i o ps p)
move_done t (M.def_return_type_at d text i o ps c p) l = Keep (M.def_colon_due d text i o ps c t p)
move_done s (M.def_suite_at d text i o ps c t k p) l = Keep (M.done (G.stmt_def d text i o ps c t k s) p)
move_done d (M.if_test_at i p) l = Keep (M.if_colon_due i d p)
move_done s (M.if_suite_at i d c p) l = Keep (M.read G.Rest (M.if_rest_at i d c s p))
move_done e (M.if_rest_at i d c s p) l = Keep (M.done (G.stmt_if i d c s e) p)
move_done d (M.stmt_for_at p) l = Keep (M.done (G.stmt_for d) p)
move_done d (M.for_vars_at f p) l = Keep (M.for_in_due f d p)
move_done e (M.for_source_at f d i p) l = Keep (M.for_colon_due f d i e p)
move_done s (M.for_suite_at f d i e c p) l = Keep (M.done (G.for_loop f d i e c s) p)
move_done d (M.elif_test_at i p) l = Keep (M.elif_colon_due i d p)
move_done s (M.elif_suite_at i d c p) l = Keep (M.read G.Rest (M.elif_rest_at i d c s p))
move_done e (M.elif_rest_at i d c s p) l = Keep (M.done (G.rest_elif i d c s e) p)
move_done s (M.else_suite_at i c p) l = Keep (M.done (G.rest_else i c s) p)
move_done d (M.suite_simple_at p) l = Keep (M.done (G.suite_simple d) p)
move_done d (M.suite_newlines_at n p) l = Keep (M.indent_due n d p)
move_done b (M.suite_block_at n d i p) l =
    if is l.kind kinds.Dedent then Take (M.done (G.suite_block n d i b l.first.span) p)
    else (if is l.kind kinds.End then Keep (M.done (G.suite_open n d i b) p) else Fail)
move_done d (M.block_newlines_at p) l = Keep (M.read G.Stmt (M.block_first_at d p))
move_done s (M.block_first_at d p) l = Keep (M.block_tail (G.block_first d s) p)
move_done s (M.block_stmt_at b p) l = Keep (M.block_tail (G.block_stmt b s) p)
move_done d (M.return_type_note_at a p) l = Keep (M.done (G.return_type_note a d) p)
move_done d (M.args_annotation_at s text i p) l = Keep (M.done (G.def_param_args s text i d) p)
move_done d (M.kwargs_annotation_at s text i p) l = Keep (M.done (G.def_param_kwargs s text i d) p)
move_done d (M.def_param_annotation_at text i p) l =
    if is l.kind kinds.Equal then Take (M.read G.Test (M.def_param_default_at text i d l.first.span p)) else Keep (M.done (G.def_param_name text i d) p)
move_done v (M.def_param_default_at text i d e p) l = Keep (M.done (G.def_param_default text i d e v) p)
move_done d (M.simple_smalls_at p) l = if is l.kind kinds.Semicolon then Take (M.after_semicolon d l.first.span p) else Keep (M.newline_due d p)
move_done d (M.smalls_one_at p) l = Keep (M.done (G.smalls_one d) p)
move_done e (M.smalls_more_at d s p) l = Keep (M.done (G.smalls_more d s e) p)
move_done d (M.return_value_at r p) l = Keep (M.done (G.small_return_value r d) p)
move_done d (M.load_symbols_at o i text s p) l = Keep (M.load_due o i text s d p)
move_done d (M.small_list_at p) l = if is l.kind kinds.Colon then Keep (M.read G.Annotation (M.assign_annotation_at d p)) else after_list d p (assign_at l.kind)
move_done n (M.assign_annotation_at d p) l = after_annotation d n p l.first.span (assign_at l.kind)
move_done e (M.assign_value_at d n o s p) l = Keep (M.done (G.small_assign d n o s e) p)
move_done d (M.list_elements_at p) l = if is l.kind kinds.Comma then Take (M.after_list_comma d l.first.span p) else Keep (M.done (G.list_plain d) p)
move_done d (M.annotation_note_at c p) l = Keep (M.done (G.annotation_note c d) p)
move_done d (M.note_test_at p) l = Keep (M.done (G.note_test d) p)
move_done d (M.symbols_list_at c p) l = Keep (M.done (G.symbols_list c d) p)
move_done d (M.test_or_at p) l =
    if is l.kind kinds.If then Take (M.read (G.LeftAssociative G.or_precedence) (M.test_if_at d l.first.span p)) else Keep (M.done (G.test_or d) p)
move_done c (M.test_if_at d i p) l = Keep (M.else_due d i c p)
move_done f (M.test_else_at d i c e p) l = Keep (M.done (G.test_if d i c e f) p)
move_done d (M.lambda_parameters_at s p) l = Keep (M.lambda_due s d p)
move_done e (M.lambda_body_at s d c p) l = Keep (M.done (G.test_lambda s d c e) p)
move_done d (M.left_first_at u p) l = Keep (M.left_tail (G.left_one u d) p)
move_done e (M.left_right_at u d o s p) l = Keep (M.left_tail (G.left_more u d o s e) p)
move_done d (M.not_not_at s p) l = Keep (M.done (G.not_not s d) p)
move_done d (M.not_comp_at p) l = Keep (M.done (G.not_comp d) p)
move_done d (M.comp_first_at p) l = after_bit_or d p l (comparison_at l.kind)
move_done e (M.comp_right_at d o p) l = if compares l.kind then Fail else Keep (M.done (G.comp_two d o e) p)
move_done d (M.unary_sign_at o s p) l = Keep (M.done (G.unary_sign o s d) p)
move_done d (M.unary_primary_at p) l = Keep (M.done (G.unary_primary d) p)
move_done d (M.primary_atom_at p) l = Keep (M.primary_tail (G.primary_atom d) p)
move_done f (M.primary_subscript_at d o p) l = Keep (M.subscript_due d o f p)
move_done d (M.sub_first_at p) l =
    if is l.kind kinds.Comma then Take (M.read G.Test (M.sub_two_at d l.first.span p))
    else (if is l.kind kinds.Colon then Take (M.read G.Bound (M.sub_stop_at (G.bound_test d) l.first.span p)) else Keep (M.done (G.sub_one d) p))
move_done e (M.sub_two_at d c p) l = Keep (M.done (G.sub_two d c e) p)
move_done e (M.sub_stop_at d c p) l = if is l.kind kinds.Colon then Take (M.read G.Bound (M.sub_step_at d c e l.first.span p)) else Keep
    (M.done (G.sub_slice d c e) p)
move_done f (M.sub_step_at d c e s p) l = Keep (M.done (G.sub_step d c e s f) p)
move_done d (M.bound_test_at p) l = Keep (M.done (G.bound_test d) p)
move_done f (M.primary_call_at d o p) l = Keep (M.call_due d o f p)
move_done d (M.arg_test_at p) l = if is l.kind kinds.Equal then after_argument d p l.first.span (alone d) else Keep (M.done (G.arg_test d) p)
move_done d (M.arg_named_at text s e p) l = Keep (M.done (G.arg_named text s e d) p)
move_done d (M.arg_star_at s p) l = Keep (M.done (G.arg_star s d) p)
move_done d (M.arg_stars_at s p) l = Keep (M.done (G.arg_stars s d) p)
move_done d (M.entry_key_at p) l = Keep (M.value_due d p)
move_done e (M.entry_value_at d c p) l = Keep (M.done (G.entry d c e) p)
move_done d (M.lambda_param_default_at text i e p) l = Keep (M.done (G.lambda_param_default text i e d) p)
move_done d (M.atom_round_at o p) l = Keep (M.round_due o d p)
move_done d (M.atom_square_at o p) l = if is l.kind kinds.For then after_first_element o d p (single d) else Keep (M.square_due o d p)
move_done d (M.atom_curly_at o p) l = if is l.kind kinds.For then after_first_entry o d p (single_entry d) else Keep (M.curly_due o d p)
move_done e (M.list_clauses_at o d p) l = Keep (M.list_comprehension_due o d e p)
move_done e (M.dict_clauses_at o d p) l = Keep (M.dict_comprehension_due o d e p)
move_done d (M.vars_elements_at p) l = if is l.kind kinds.Comma then Take (M.after_vars_comma d l.first.span p) else Keep (M.done (G.vars_plain d) p)
move_done d (M.clause_vars_at f p) l = Keep (M.clause_in_due f d p)
move_done e (M.clause_source_at f d i p) l = Keep (M.done (G.for_clause f d i e) p)
move_done d (M.clauses_one_at p) l = Keep (M.clauses_tail (G.clauses_one d) p)
move_done e (M.clauses_for_at d p) l = Keep (M.clauses_tail (G.clauses_for d e) p)
move_done e (M.clauses_if_at d i p) l = Keep (M.clauses_tail (G.clauses_if d i e) p)
move_done d (M.parts_at q s p) l = Keep (M.f_string_due q s d p)
move_done e (M.replacement_at d o p) l = Keep (M.read G.Conversion (M.conversion_at d o e p))
move_done c (M.conversion_at d o e p) l = Keep (M.replacement_due d o e c p)
move_done d (M.comma_list_at p) l = if is l.kind kinds.Comma then Take (M.after_comma d l.first.span p) else Keep (M.done (G.optional_list_plain d) p)
move_done d (M.comma_list_one_at u p) l = Keep (M.done (G.comma_list_one u d) p)
move_done e (M.comma_list_more_at u d c p) l = Keep (M.done (G.comma_list_more u d c e) p)

abbrev pub move : {b : Nonterminal} → State b → Look → Move b
move (M.read n p) l = move_read n p l
move (M.done d p) l = move_done d p l
move (M.module_tail m p) l =
    if is l.kind kinds.End then Keep (M.done m p)
    else (if is l.kind kinds.Newline then Take (M.module_tail (G.module_newline m l.first.span) p) else Keep (M.read G.Stmt (M.module_stmt_at m p)))
move (M.left_tail {k} d p) l = after_left d p l.first.span (operator_at k l.kind)
move (M.primary_tail d p) l =
    if is l.kind kinds.Dot then Take (M.name_due d l.first.span p)
    else (if is l.kind kinds.OpeningSquare then Take (M.read G.Sub (M.primary_subscript_at d l.first.span p))
    else (if is l.kind kinds.OpeningRound then Take (M.read (G.OptionalList G.arguments) (M.primary_call_at d l.first.span p)) else Keep (M.done d p)))
move (M.after_comma {k} d c p) l = if starts_element k l.kind then Keep (M.read (element k) (M.comma_list_more_at (is_element k) d c (M.comma_list_at p)))
    else Keep (M.done (G.optional_list_comma d c) p)
move (M.after_vars_comma d c p) l =
    if starts_operand l.kind then Keep (M.read (G.LeftAssociative G.bit_or_precedence) (M.comma_list_more_at G.of_variables d c (M.vars_elements_at p)))
    else (if is l.kind kinds.Not then Fail else Keep (M.done (G.vars_comma d c) p))
move (M.after_star s p) l =
    if is l.kind kinds.Identifier then Take (M.done (G.lambda_param_args s (text_of l.first.token) l.first.span) p) else Keep (M.done (G.lambda_param_star s) p)
move (M.after_name text i p) l =
    if is l.kind kinds.Equal then Take (M.read G.Test (M.lambda_param_default_at text i l.first.span p)) else Keep (M.done (G.lambda_param_name text i) p)
move (M.else_due d i c p) l = if is l.kind kinds.Else then Take (M.read G.Test (M.test_else_at d i c l.first.span p)) else Fail
move (M.in_due d s p) l = if is l.kind kinds.In then Take (M.read (G.LeftAssociative G.bit_or_precedence) (M.comp_right_at d (G.not_in s l.first.span) p)) else
    Fail
move (M.name_due d s p) l = if is l.kind kinds.Identifier then Take (M.primary_tail (G.primary_dot d s (text_of l.first.token) l.first.span) p) else Fail
move (M.colon_due d p) l = if is l.kind kinds.Colon then Take (M.read G.Bound (M.sub_stop_at d l.first.span p)) else Fail
move (M.subscript_due d o f p) l = if is l.kind kinds.ClosingSquare then Take (M.primary_tail (G.primary_subscript d o f l.first.span) p) else Fail
move (M.call_due d o f p) l = if is l.kind kinds.ClosingRound then Take (M.primary_tail (G.primary_call d o f l.first.span) p) else Fail
move (M.lambda_due s d p) l = if is l.kind kinds.Colon then Take (M.read G.Test (M.lambda_body_at s d l.first.span p)) else Fail
move (M.value_due d p) l = if is l.kind kinds.Colon then Take (M.read G.Test (M.entry_value_at d l.first.span p)) else Fail
move (M.kwargs_due s p) l = if is l.kind kinds.Identifier then Take (M.done (G.lambda_param_kwargs s (text_of l.first.token) l.first.span) p) else Fail
move (M.newline_due d p) l = if is l.kind kinds.Newline then Take (M.done (G.simple_line d l.first.span) p) else Fail
move (M.line_end_due d s p) l = if is l.kind kinds.Newline then Take (M.done (G.simple_semicolon d s l.first.span) p) else Fail
move (M.load_round_due o p) l = if is l.kind kinds.OpeningRound then Take (M.load_string_due o l.first.span p) else Fail
move (M.load_string_due o i p) l = if is l.kind kinds.String then Take (M.read G.Symbols (M.load_symbols_at o i (text_of l.first.token) l.first.span p)) else
    Fail
move (M.load_due o i text s d p) l = if is l.kind kinds.ClosingRound then Take (M.done (G.small_load o i text s d l.first.span) p) else Fail
move (M.newlines_tail d p) l = if is l.kind kinds.Newline then Take (M.newlines_tail (G.newlines_more d l.first.span) p) else Keep (M.done d p)
move (M.block_tail d p) l = move_block d p l.first l.kind
move (M.def_name_due d p) l = if is l.kind kinds.Identifier then Take (M.def_round_due d (text_of l.first.token) l.first.span p) else Fail
move (M.def_round_due d text i p) l =
    if is l.kind kinds.OpeningRound then Take (M.read (G.OptionalList G.def_parameters) (M.def_parameters_at d text i l.first.span p)) else Fail
move (M.def_close_due d text i o ps p) l = if is l.kind kinds.ClosingRound then Take
    (M.read G.ReturnType (M.def_return_type_at d text i o ps l.first.span p)) else Fail
move (M.def_colon_due d text i o ps c t p) l = if is l.kind kinds.Colon then Take (M.read G.Suite (M.def_suite_at d text i o ps c t l.first.span p)) else Fail
move (M.if_colon_due i d p) l = if is l.kind kinds.Colon then Take (M.read G.Suite (M.if_suite_at i d l.first.span p)) else Fail
move (M.elif_colon_due i d p) l = if is l.kind kinds.Colon then Take (M.read G.Suite (M.elif_suite_at i d l.first.span p)) else Fail
move (M.else_colon_due i p) l = if is l.kind kinds.Colon then Take (M.read G.Suite (M.else_suite_at i l.first.span p)) else Fail
move (M.for_in_due f d p) l = if is l.kind kinds.In then Take (M.read G.Test (M.for_source_at f d l.first.span p)) else Fail
move (M.for_colon_due f d i e p) l = if is l.kind kinds.Colon then Take (M.read G.Suite (M.for_suite_at f d i e l.first.span p)) else Fail
move (M.indent_due n d p) l = if is l.kind kinds.Indent then Take (M.read G.Block (M.suite_block_at n d l.first.span p)) else Fail
move (M.def_param_kwargs_due s p) l =
    if is l.kind kinds.Identifier then Take (M.read G.Annotation (M.kwargs_annotation_at s (text_of l.first.token) l.first.span p)) else Fail
move (M.after_def_param_star s p) l = if is l.kind kinds.Identifier then Take
    (M.read G.Annotation (M.args_annotation_at s (text_of l.first.token) l.first.span p))
    else Keep (M.done (G.def_param_star s) p)
move (M.their_due text i e p) l = if is l.kind kinds.String then Take (M.done (G.sym_other text i e (text_of l.first.token) l.first.span) p) else Fail
move (M.after_list_comma d c p) l =
    if starts_test l.kind then Keep (M.read G.Test (M.comma_list_more_at G.of_elements d c (M.list_elements_at p))) else Keep (M.done (G.list_comma d c) p)
move (M.after_semicolon d s p) l = if starts_small l.kind then Keep (M.read G.Small (M.smalls_more_at d s (M.simple_smalls_at p))) else Keep
    (M.line_end_due d s p)
move (M.after_return r p) l = if starts_test l.kind then Keep (M.read G.TestList (M.return_value_at r p)) else Keep (M.done (G.small_return r) p)
move (M.after_symbol text i p) l = if is l.kind kinds.Equal then Take (M.their_due text i l.first.span p) else Keep (M.done (G.sym_alone text i) p)
move (M.round_due o d p) l = if is l.kind kinds.ClosingRound then Take (M.done (G.atom_round o d l.first.span) p) else Fail
move (M.square_due o d p) l = if is l.kind kinds.ClosingSquare then Take (M.done (G.atom_square o d l.first.span) p) else Fail
move (M.curly_due o d p) l = if is l.kind kinds.ClosingCurly then Take (M.done (G.atom_curly o d l.first.span) p) else Fail
move (M.clause_in_due f d p) l = if is l.kind kinds.In then Take (M.read (G.LeftAssociative G.or_precedence) (M.clause_source_at f d l.first.span p)) else Fail
move (M.list_comprehension_due o d e p) l = if is l.kind kinds.ClosingSquare then Take (M.done (G.atom_list_comprehension o d e l.first.span) p) else Fail
move (M.dict_comprehension_due o d e p) l = if is l.kind kinds.ClosingCurly then Take (M.done (G.atom_dict_comprehension o d e l.first.span) p) else Fail
move (M.clauses_tail d p) l =
    if is l.kind kinds.For then Keep (M.read G.ForClause (M.clauses_for_at d p))
    else (if is l.kind kinds.If then Take (M.read (G.LeftAssociative G.or_precedence) (M.clauses_if_at d l.first.span p)) else Keep (M.done d p))
move (M.parts_tail d p) l =
    if is l.kind kinds.FStringText then Take (M.parts_tail (G.parts_text d (text_of l.first.token) l.first.span) p)
    else (if is l.kind kinds.FStringExprStart then Take (M.read G.Test (M.replacement_at d l.first.span p)) else Keep (M.done d p))
move (M.after_bang s p) l =
    if is l.kind kinds.Identifier then Take (M.conversion_named s (text_of l.first.token) l.first.span p) else Keep (M.done (G.conversion_absent s) p)
move (M.conversion_named s text i p) l = Keep (M.done (G.conversion_name s text i) p)
move (M.replacement_due d o e c p) l = if is l.kind kinds.FStringExprEnd then Take (M.parts_tail (G.parts_replacement d o e c l.first.span) p) else Fail
move (M.f_string_due q s d p) l = if is l.kind kinds.FStringEnd then Take (M.done (G.atom_f_string q s d l.first.span) p) else Fail
