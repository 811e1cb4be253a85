-- The tree of a derivation, with all spans.
use Rattle.std.specs.Prelude.{ℕ, ◌==◌, if◌then◌else◌, codes, List as Seq, [], ◌∷◌, ◌++◌, Option, Some, None, unwrap_or, Result, Ok, Err}
use Rattle.std.specs.List.{flat_map}
use Rattle.starlark_lexer.specs.Tokens.{Span, from_to, Lexeme, Text}
use Rattle.starlark_lexer.specs.declared.token.FStringConv.{FStringConv}
use Rattle.starlark_lexer.specs.declared.token.FStringConv.TheVariants as conversions
use Rattle.starlark_tree.specs.Ast.{Word, no_payload, Expression, expression, Shape, Statement, statement, Form, expressions_of, statements_of}
use Rattle.starlark_tree.specs.Ast.{expression_span, Maybe, absent, present, no_type, Argument, arguments_of}
use Rattle.starlark_tree.specs.Ast.{Parameter as AstParameter, parameters_of, pairs_of}
use Rattle.starlark_tree.specs.Ast as t
use Rattle.starlark_tree.specs.Ast.{Target}
use Rattle.starlark_spec.specs.Faults.{Fault}
use Rattle.starlark_spec.specs.Targets.{target}
use Rattle.starlark_spec.specs.Assignments.{assigned}
use Rattle.starlark_tree.specs.declared.ast.operator.AssignOp.{AssignOp}
use Rattle.starlark_tree.specs.declared.ast.operator.AssignOp.TheVariants as assign_operators
use Rattle.starlark_spec.specs.Grammar.{AssignSign}
use Rattle.starlark_spec.specs.Grammar as G
use Rattle.starlark_tree.specs.declared.ast.operator.BinOp.{BinOp}
use Rattle.starlark_tree.specs.declared.ast.operator.BinOp.TheVariants as operators
use Rattle.starlark_spec.specs.Grammar.{Nonterminal, ElementKind, ElementOf, PrecedenceLevel, OperandOf, Operator, Comparison}
use Rattle.starlark_spec.specs.Grammar.{CompSign, UnarySign, Derivation, RightSide, right_side, yield_of}
use Rattle.starlark_spec.specs.Grammar.RightSide.{◌⨾◌}

-- where the first token begins, or 0
abbrev pub begin_of : Seq Lexeme → ℕ
begin_of [] = 0
begin_of (l ∷ ls) = l.span.begin

-- where the last token of a right side ends, or the position before it
abbrev pub end_of_last : RightSide → ℕ → ℕ
end_of_last G.nothing before = before
end_of_last (G.word token span) before = span.end
end_of_last (a ⨾ b) before = end_of_last b (end_of_last a before)
end_of_last (G.marked x a) before = end_of_last a before
end_of_last G.tokens_end before = before

-- from the first token of a derivation to its last
abbrev pub derivation_span : {n : Nonterminal} → Derivation n → Span
derivation_span d = from_to (begin_of (yield_of d [])) (end_of_last (right_side d) 0)

-- what is in the square brackets after an operand: an index, two of them, or the start, stop and step of a slice
pub data Subscript : Type 0 where
  one_index : Expression no_payload → Subscript
  two_indices : Expression no_payload → Expression no_payload → Subscript
  bounds : Maybe no_payload → Maybe no_payload → Maybe no_payload → Subscript

-- a key and its value
abbrev pub Pair : Type 0
Pair = Expression no_payload × Expression no_payload

-- an f-string's text, with a placeholder for each replacement field, and the expressions of these
pub record Format : Type 0 where
  pub text : Text
  pub values : Seq (Expression no_payload)

-- the clauses of a comprehension: the first, and the others
abbrev pub Comprehended : Type 0
Comprehended = t.ForIn no_payload × Seq (t.Clause no_payload)

-- the tree of an element of a comma list
abbrev pub ElementTree : ElementKind → Type 0
ElementTree G.elements = Expression no_payload
ElementTree G.arguments = Argument no_payload
ElementTree G.entries = Pair
ElementTree G.lambda_parameters = AstParameter no_payload
ElementTree G.variables = Expression no_payload
ElementTree G.symbols = Word × Word
ElementTree G.def_parameters = AstParameter no_payload

-- the tree of a nonterminal; those of a list, of Sub, and of a module are built where they are used
abbrev pub TreeOf : Nonterminal → Type 0
TreeOf G.Module = Seq (Statement no_payload)
TreeOf G.Stmt = Statement no_payload
TreeOf G.For = Statement no_payload
TreeOf G.Rest = Option (Statement no_payload)
TreeOf G.Suite = Statement no_payload
TreeOf G.Newlines = Seq Span
TreeOf G.Block = Seq (Statement no_payload)
TreeOf G.ReturnType = t.MaybeType no_payload
TreeOf G.DefParam = AstParameter no_payload
TreeOf G.Simple = Statement no_payload
TreeOf G.Smalls = Seq (Statement no_payload)
TreeOf G.Small = Statement no_payload
TreeOf G.TestList = Expression no_payload
TreeOf G.Annotation = t.MaybeType no_payload
TreeOf G.Note = Expression no_payload
TreeOf G.Symbols = Seq (t.LoadArg no_payload)
TreeOf G.Sym = Word × Word
TreeOf G.Test = Expression no_payload
TreeOf (G.LeftAssociative k) = Expression no_payload
TreeOf G.Not = Expression no_payload
TreeOf G.Comp = Expression no_payload
TreeOf G.Unary = Expression no_payload
TreeOf G.Primary = Expression no_payload
TreeOf G.Sub = Subscript
TreeOf G.Bound = Maybe no_payload
TreeOf G.Arg = Argument no_payload
TreeOf G.Entry = Pair
TreeOf G.LambdaParam = AstParameter no_payload
TreeOf G.Atom = Expression no_payload
TreeOf G.LoopVars = Expression no_payload
TreeOf G.ForClause = t.ForIn no_payload
TreeOf G.Clauses = Comprehended
TreeOf G.FStringParts = Format
TreeOf G.Conversion = FStringConv
TreeOf (G.OptionalList k) = Seq (ElementTree k)
TreeOf (G.CommaList k) = Seq (ElementTree k)

-- an element's tree
abbrev pub element_tree : {k : ElementKind} {n : Nonterminal} → ElementOf k n → TreeOf n → ElementTree k
element_tree G.of_elements e = e
element_tree G.of_arguments a = a
element_tree G.of_entries p = p
element_tree G.of_lambda_parameters p = p
element_tree G.of_variables e = e
element_tree G.of_symbols s = s
element_tree G.of_def_parameters p = p

-- an operand's tree is an expression
abbrev pub operand_tree : {k : PrecedenceLevel} {n : Nonterminal} → OperandOf k n → TreeOf n → Expression no_payload
operand_tree G.of_or e = e
operand_tree G.of_and e = e
operand_tree G.of_bit_or e = e
operand_tree G.of_xor e = e
operand_tree G.of_bit_and e = e
operand_tree G.of_shift e = e
operand_tree G.of_add e = e
operand_tree G.of_multiply e = e

abbrev pub operator_of : {k : PrecedenceLevel} → Operator k → BinOp
operator_of G.or_sign = operators.Or
operator_of G.and_sign = operators.And
operator_of G.pipe = operators.BitOr
operator_of G.caret = operators.BitXor
operator_of G.ampersand = operators.BitAnd
operator_of G.less_less = operators.LeftShift
operator_of G.greater_greater = operators.RightShift
operator_of G.plus = operators.Add
operator_of G.minus = operators.Subtract
operator_of G.star = operators.Multiply
operator_of G.slash = operators.Divide
operator_of G.slash_slash = operators.FloorDivide
operator_of G.percent = operators.Percent

abbrev pub comparison_of : Comparison → BinOp
comparison_of G.equal = operators.Equal
comparison_of G.not_equal = operators.NotEqual
comparison_of G.less = operators.Less
comparison_of G.greater = operators.Greater
comparison_of G.less_or_equal = operators.LessOrEqual
comparison_of G.greater_or_equal = operators.GreaterOrEqual
comparison_of G.membership = operators.In

abbrev pub compared_by : CompSign → BinOp
compared_by (G.comparison c s) = comparison_of c
compared_by (G.not_in not_at in_at) = operators.NotIn

-- two operands span from where the left one begins to where the right one ends
abbrev pub operation : Expression no_payload → BinOp → Expression no_payload → Expression no_payload
operation e o f = expression (from_to (expression_span e).begin (expression_span f).end) (t.Op e o f)

abbrev pub signed : UnarySign → Span → Expression no_payload → Expression no_payload
signed G.plus_sign span e = expression span (t.Plus e)
signed G.minus_sign span e = expression span (t.Minus e)
signed G.tilde_sign span e = expression span (t.BitNot e)

abbrev pub at : Text → Span → Word
at text span = record { text = text; span = span }

abbrev pub tuple : Span → Seq (Expression no_payload) → Expression no_payload
tuple span es = expression span (t.Tuple (expressions_of es))

abbrev pub list : Span → Seq (Expression no_payload) → Expression no_payload
list span es = expression span (t.List (expressions_of es))

-- a single element is itself
abbrev pub one_or_tuple : Span → Seq (Expression no_payload) → Expression no_payload
one_or_tuple span (e ∷ []) = e
one_or_tuple span es = tuple span es

-- What is in parentheses: nothing is an empty tuple that spans the parentheses, a single element without a comma is itself, anything else is a tuple
-- that spans the first to the last token inside.
abbrev pub grouped : Span → Derivation (G.OptionalList G.elements) → Seq (Expression no_payload) → Expression no_payload
grouped brackets G.optional_list_none es = tuple brackets es
grouped brackets (G.optional_list_plain d) es = one_or_tuple (derivation_span (G.optional_list_plain d)) es
grouped brackets (G.optional_list_comma d c) es = tuple (derivation_span (G.optional_list_comma d c)) es

abbrev pub dictionary : Span → Seq Pair → Expression no_payload
dictionary span ps = expression span (t.Dict (pairs_of ps))

-- an operand with a subscript
abbrev pub subscripted : Span → Expression no_payload → Subscript → Expression no_payload
subscripted span e (one_index i) = expression span (t.Index e i)
subscripted span e (two_indices i j) = expression span (t.Index2 e i j)
subscripted span e (bounds start stop step) = expression span (t.Slice e start stop step)

-- an operand that is called
abbrev pub called : Span → Expression no_payload → Seq (Argument no_payload) → Expression no_payload
called span e passed = expression span (t.Call e (arguments_of passed))

abbrev pub lambda : Span → Seq (AstParameter no_payload) → Expression no_payload → Expression no_payload
lambda span ps e = expression span (t.Lambda (parameters_of ps) e tt)

abbrev pub list_comprehension : Span → Expression no_payload → Comprehended → Expression no_payload
list_comprehension span e cs = expression span (t.ListComprehension e cs.0 (t.clauses_of cs.1))

abbrev pub dict_comprehension : Span → Pair → Comprehended → Expression no_payload
dict_comprehension span p cs = expression span (t.DictComprehension p.0 p.1 cs.0 (t.clauses_of cs.1))

-- The target that an expression is. If it is not one, a rule is broken and no tree is returned.
abbrev pub target_or_none : Result (Target no_payload) Fault → Target no_payload
target_or_none (Ok x) = x
target_or_none (Err f) = t.TupleTarget f.span t.no_targets

abbrev pub target_of : Expression no_payload → Target no_payload
target_of e = target_or_none (target e)

-- a byte of a text, twice if it is a brace
abbrev pub doubled_byte : ℕ → Text
doubled_byte b = if b == 123 then codes "{{" else (if b == 125 then codes "}}" else b ∷ [])

-- a text whose braces are doubled
abbrev pub doubled : Text → Text
doubled text = flat_map doubled_byte text

-- the conversion of a name: `s` or `r`
abbrev pub conversion_of : Text → Option FStringConv
conversion_of (c ∷ []) = if c == 115 then Some conversions.Str else (if c == 114 then Some conversions.Repr else None)
conversion_of _ = None

-- the placeholder of a replacement field
abbrev pub placeholder : FStringConv → Text
placeholder conversions.Repr = codes "{!r}"
placeholder _ = codes "{}"

abbrev pub f_string : Span → Format → Expression no_payload
f_string span f = expression span (t.FString span (at f.text span) (expressions_of f.values))

-- a single statement is itself, anything else a block
abbrev pub one_or_block : Span → Seq (Statement no_payload) → Statement no_payload
one_or_block span (s ∷ []) = s
one_or_block span ss = statement span (t.Block (statements_of ss))

abbrev pub assign_operator : AssignSign → Option AssignOp
assign_operator G.equal_sign = None
assign_operator G.plus_equal = Some assign_operators.Add
assign_operator G.minus_equal = Some assign_operators.Subtract
assign_operator G.star_equal = Some assign_operators.Multiply
assign_operator G.slash_equal = Some assign_operators.Divide
assign_operator G.slash_slash_equal = Some assign_operators.FloorDivide
assign_operator G.percent_equal = Some assign_operators.Percent
assign_operator G.ampersand_equal = Some assign_operators.BitAnd
assign_operator G.pipe_equal = Some assign_operators.BitOr
assign_operator G.caret_equal = Some assign_operators.BitXor
assign_operator G.less_less_equal = Some assign_operators.LeftShift
assign_operator G.greater_greater_equal = Some assign_operators.RightShift

-- the commas between the elements of a comma list
abbrev pub element_commas : {k : ElementKind} → Derivation (G.CommaList k) → Seq Span
element_commas (G.comma_list_one is_element element) = []
element_commas (G.comma_list_more is_element listed comma_at element) = element_commas listed ++ comma_at ∷ []

-- the commas after the elements of a list
abbrev pub commas : {k : ElementKind} → Derivation (G.OptionalList k) → Seq Span
commas G.optional_list_none = []
commas (G.optional_list_plain d) = element_commas d
commas (G.optional_list_comma listed comma_at) = element_commas listed ++ comma_at ∷ []

-- where the first statement of a block begins
abbrev pub block_begin : Derivation G.Block → ℕ
block_begin (G.block_first newlines stmt) = begin_of (yield_of stmt [])
block_begin (G.block_newline block newline_at) = block_begin block
block_begin (G.block_stmt block stmt) = block_begin block

-- from there to the last token of the block
abbrev pub block_span : Derivation G.Block → Span
block_span b = from_to (block_begin b) (end_of_last (right_side b) 0)

-- an `if` with what comes after it; an `elif` is an `if` that begins there
abbrev pub if_form : Expression no_payload → Statement no_payload → Option (Statement no_payload) → t.Form no_payload
if_form condition body None = t.IfThen condition body
if_form condition body (Some other) = t.IfElse condition body other

-- the name that a load binds, the name in the loaded module, and the comma after them
abbrev pub load_argument : Word × Word → Option Span → t.LoadArg no_payload
load_argument names comma = record { local = names.0; payload = tt; their = names.1; comma = comma }

abbrev pub load_arguments : Seq (Word × Word) → Seq Span → Seq (t.LoadArg no_payload)
load_arguments [] cs = []
load_arguments (n ∷ ns) [] = load_argument n None ∷ load_arguments ns []
load_arguments (n ∷ ns) (c ∷ cs) = load_argument n (Some c) ∷ load_arguments ns cs

-- the tree of a derivation
abbrev pub tree : {n : Nonterminal} → Derivation n → TreeOf n
tree G.module_none = []
tree (G.module_newline before newline_at) = tree before
tree (G.module_stmt before stmt) = tree before ++ tree stmt ∷ []
tree (G.stmt_simple d) = tree d
tree (G.stmt_def def_at name name_at opening_at params closing_at return_type colon_at suite) =
    statement (derivation_span (G.stmt_def def_at name name_at opening_at params closing_at return_type colon_at suite))
    (t.Def (at name name_at) tt (parameters_of (tree params)) (tree return_type) (tree suite) tt)
tree (G.stmt_if if_at test colon_at suite rest) =
    statement (derivation_span (G.stmt_if if_at test colon_at suite rest)) (if_form (tree test) (tree suite) (tree rest))
tree (G.stmt_for d) = tree d
tree (G.for_loop for_at vars in_at source colon_at suite) =
    statement (derivation_span (G.for_loop for_at vars in_at source colon_at suite)) (t.For (target_of (tree vars)) (tree source) (tree suite))
tree G.rest_none = None
tree (G.rest_elif elif_at test colon_at suite rest) =
    Some (statement (derivation_span (G.rest_elif elif_at test colon_at suite rest)) (if_form (tree test) (tree suite) (tree rest)))
tree (G.rest_else else_at colon_at suite) = Some (tree suite)
tree (G.suite_simple d) = tree d
tree (G.suite_block newline_at newlines indent_at block dedent_at) = one_or_block (block_span block) (tree block)
tree (G.suite_open newline_at newlines indent_at block) = one_or_block (block_span block) (tree block)
tree G.newlines_none = []
tree (G.newlines_more newlines newline_at) = tree newlines ++ newline_at ∷ []
tree (G.block_first newlines stmt) = tree stmt ∷ []
tree (G.block_newline block newline_at) = tree block
tree (G.block_stmt block stmt) = tree block ++ tree stmt ∷ []
tree G.return_type_none = t.no_type
tree (G.return_type_note arrow_at note) = t.typed (expression_span (tree note)) (tree note) tt
tree (G.def_param_slash slash_at) = t.Slash slash_at
tree (G.def_param_star star_at) = t.NoArgs star_at
tree (G.def_param_args star_at name name_at annotation) =
    t.Args (derivation_span (G.def_param_args star_at name name_at annotation)) (at name name_at) tt (tree annotation)
tree (G.def_param_kwargs stars_at name name_at annotation) =
    t.KwArgs (derivation_span (G.def_param_kwargs stars_at name name_at annotation)) (at name name_at) tt (tree annotation)
tree (G.def_param_name name name_at annotation) =
    t.Normal (derivation_span (G.def_param_name name name_at annotation)) (at name name_at) tt (tree annotation) absent
tree (G.def_param_default name name_at annotation equal_at value) =
    t.Normal (derivation_span (G.def_param_default name name_at annotation equal_at value)) (at name name_at) tt (tree annotation) (present (tree value))
tree (G.simple_line smalls newline_at) = one_or_block (derivation_span (G.simple_line smalls newline_at)) (tree smalls)
tree (G.simple_semicolon smalls semicolon_at newline_at) = one_or_block (derivation_span (G.simple_semicolon smalls semicolon_at newline_at)) (tree smalls)
tree (G.smalls_one d) = tree d ∷ []
tree (G.smalls_more smalls semicolon_at small) = tree smalls ++ tree small ∷ []
tree (G.small_return return_at) = statement return_at (t.Return None)
tree (G.small_return_value return_at value) = statement (derivation_span (G.small_return_value return_at value)) (t.Return (Some (tree value)))
tree (G.small_break s) = statement s t.Break
tree (G.small_continue s) = statement s t.Continue
tree (G.small_pass s) = statement s t.Pass
tree (G.small_load load_at opening_at file file_at loaded closing_at) = statement (from_to load_at.begin closing_at.end)
    (t.Load (at file file_at) (tree loaded) tt)
tree (G.small_test d) = statement (derivation_span d) (t.Evaluate (tree d))
tree (G.small_assign left annotation sign sign_at right) = statement (derivation_span (G.small_assign left annotation sign sign_at right))
    (assigned (tree annotation) (assign_operator sign) (tree right) (target_of (tree left)))
tree (G.list_plain d) = one_or_tuple (derivation_span (G.list_plain d)) (tree d)
tree (G.list_comma listed comma_at) = tuple (derivation_span (G.list_comma listed comma_at)) (tree listed)
tree G.annotation_none = t.no_type
tree (G.annotation_note colon_at note) = t.typed (expression_span (tree note)) (tree note) tt
tree (G.note_test d) = tree d
tree G.symbols_none = []
tree (G.symbols_list comma_at loaded) = load_arguments (tree loaded) (commas loaded)
tree (G.sym_same name name_at) = (at name name_at, at name name_at)
tree (G.sym_other name name_at equal_at their their_at) = (at name name_at, at their their_at)
tree (G.sym_alone name name_at) = (at name name_at, at name name_at)
tree (G.test_or d) = tree d
tree (G.test_if value if_at test else_at other) =
    expression (from_to (expression_span (tree value)).begin (end_of_last (right_side other) else_at.end)) (t.If (tree test) (tree value) (tree other))
tree (G.test_lambda lambda_at params colon_at body) = lambda (from_to lambda_at.begin (end_of_last (right_side body) colon_at.end)) (tree params) (tree body)
tree (G.left_one is_operand operand) = operand_tree is_operand (tree operand)
tree (G.left_more is_operand left sign sign_at right) = operation (tree left) (operator_of sign) (operand_tree is_operand (tree right))
tree (G.not_not not_at operand) = expression (from_to not_at.begin (end_of_last (right_side operand) not_at.end)) (t.Not (tree operand))
tree (G.not_comp d) = tree d
tree (G.comp_one d) = tree d
tree (G.comp_two left sign right) = operation (tree left) (compared_by sign) (tree right)
tree (G.unary_sign sign sign_at operand) = signed sign (from_to sign_at.begin (end_of_last (right_side operand) sign_at.end)) (tree operand)
tree (G.unary_primary d) = tree d
tree (G.primary_atom d) = tree d
tree (G.primary_dot operand dot_at name name_at) =
    expression (from_to (expression_span (tree operand)).begin name_at.end) (t.Dot (tree operand) (at name name_at))
tree (G.primary_subscript operand opening_at sub closing_at) =
    subscripted (from_to (expression_span (tree operand)).begin closing_at.end) (tree operand) (tree sub)
tree (G.primary_call operand opening_at passed closing_at) = called (from_to (expression_span (tree operand)).begin closing_at.end) (tree operand) (tree passed)
tree (G.sub_one d) = one_index (tree d)
tree (G.sub_two first comma_at second) = two_indices (tree first) (tree second)
tree (G.sub_slice begin colon_at stop) = bounds (tree begin) (tree stop) absent
tree (G.sub_step begin colon_at stop step_at step) = bounds (tree begin) (tree stop) (tree step)
tree G.bound_none = absent
tree (G.bound_test d) = present (tree d)
tree (G.arg_test d) = t.Positional (derivation_span d) (tree d)
tree (G.arg_named name name_at equal_at value) = t.Named (from_to name_at.begin (end_of_last (right_side value) equal_at.end)) (at name name_at) (tree value)
tree (G.arg_star star_at value) = t.Star (from_to star_at.begin (end_of_last (right_side value) star_at.end)) (tree value)
tree (G.arg_stars stars_at value) = t.StarStar (from_to stars_at.begin (end_of_last (right_side value) stars_at.end)) (tree value)
tree (G.entry key colon_at value) = (tree key, tree value)
tree (G.lambda_param_slash slash_at) = t.Slash slash_at
tree (G.lambda_param_star star_at) = t.NoArgs star_at
tree (G.lambda_param_args star_at name name_at) = t.Args (from_to star_at.begin name_at.end) (at name name_at) tt no_type
tree (G.lambda_param_kwargs stars_at name name_at) = t.KwArgs (from_to stars_at.begin name_at.end) (at name name_at) tt no_type
tree (G.lambda_param_name name name_at) = t.Normal name_at (at name name_at) tt no_type absent
tree (G.lambda_param_default name name_at equal_at value) =
    t.Normal (from_to name_at.begin (end_of_last (right_side value) equal_at.end)) (at name name_at) tt no_type (present (tree value))
tree (G.atom_name name name_at) = expression name_at (t.Identifier (at name name_at) tt)
tree (G.atom_int n s) = expression s (t.Constant (t.Int s n))
tree (G.atom_float text s) = expression s (t.Constant (t.Float (at text s)))
tree (G.atom_string text s) = expression s (t.Constant (t.String (at text s)))
tree (G.atom_bytes text s) = expression s (t.Constant (t.Bytes (at text s)))
tree (G.atom_ellipsis s) = expression s (t.Constant t.Ellipsis)
tree (G.atom_round opening_at inside closing_at) = grouped (from_to opening_at.begin closing_at.end) inside (tree inside)
tree (G.atom_square opening_at inside closing_at) = list (from_to opening_at.begin closing_at.end) (tree inside)
tree (G.atom_curly opening_at inside closing_at) = dictionary (from_to opening_at.begin closing_at.end) (tree inside)
tree (G.atom_list_comprehension opening_at element clauses closing_at) = list_comprehension (from_to opening_at.begin closing_at.end) (tree element)
    (tree clauses)
tree (G.atom_dict_comprehension opening_at pair clauses closing_at) = dict_comprehension (from_to opening_at.begin closing_at.end) (tree pair) (tree clauses)
tree (G.atom_f_string quote opening_at parts closing_at) = f_string (from_to opening_at.begin closing_at.end) (tree parts)
tree (G.vars_plain d) = one_or_tuple (derivation_span (G.vars_plain d)) (tree d)
tree (G.vars_comma listed comma_at) = tuple (derivation_span (G.vars_comma listed comma_at)) (tree listed)
tree (G.for_clause for_at vars in_at source) = t.for_in (target_of (tree vars)) (tree source)
tree (G.clauses_one d) = (tree d, [])
tree (G.clauses_for clauses clause) = ((tree clauses).0, (tree clauses).1 ++ t.for_clause (tree clause) ∷ [])
tree (G.clauses_if clauses if_at test) = ((tree clauses).0, (tree clauses).1 ++ t.if_clause (tree test) ∷ [])
tree G.parts_none = record { text = []; values = [] }
tree (G.parts_text parts text text_at) = record { text = (tree parts).text ++ doubled text; values = (tree parts).values }
tree (G.parts_replacement parts opening_at value conversion closing_at) =
    record { text = (tree parts).text ++ placeholder (tree conversion); values = (tree parts).values ++ tree value ∷ [] }
tree G.conversion_default = conversions.None
tree (G.conversion_absent bang_at) = conversions.None
tree (G.conversion_name bang_at name name_at) = unwrap_or (conversion_of name) conversions.None
tree G.optional_list_none = []
tree (G.optional_list_plain d) = tree d
tree (G.optional_list_comma listed comma_at) = tree listed
tree (G.comma_list_one is_element element) = element_tree is_element (tree element) ∷ []
tree (G.comma_list_more is_element listed comma_at element) = tree listed ++ element_tree is_element (tree element) ∷ []

-- where the first statement of a module begins
abbrev pub first_begin : Derivation G.Module → Option ℕ
first_begin G.module_none = None
first_begin (G.module_newline before newline_at) = first_begin before
first_begin (G.module_stmt before stmt) = Some (unwrap_or (first_begin before) (begin_of (yield_of stmt [])))

-- from the first statement's first token to the last token's end; without statements it is empty, there or at 0
abbrev pub module_span : Derivation G.Module → Span
module_span m = from_to (unwrap_or (first_begin m) (end_of_last (right_side m) 0)) (end_of_last (right_side m) 0)

-- the statement that a module is
abbrev pub module_tree : Derivation G.Module → Statement no_payload
module_tree m = one_or_block (module_span m) (tree m)
