-- The tree of a derivation of tokens that fit is one that fits.
use Rattle.std.proofs.Common.{ℕ, ◌^◌, ◌<◌, [], unwrap_or, refl, arith}
use Rattle.std.specs.Bool.{⊤}
use Rattle.std.specs.List.{AllByRecursion as Each}
use Rattle.starlark_lexer.specs.Tokens.{Span, from_to}
use Rattle.starlark_tree.specs.Ast as t
use Rattle.starlark_tree.specs.Ast.{expression_span}
use Rattle.starlark_spec.specs.Grammar.{Nonterminal, ElementKind, ElementOf, PrecedenceLevel, OperandOf, Derivation, RightSide, right_side, yield_of}
use Rattle.starlark_spec.specs.Grammar as G
use Rattle.starlark_spec.specs.Trees.{TreeOf, ElementTree, element_tree, operand_tree, operator_of, compared_by, assign_operator, element_commas, commas}
use Rattle.starlark_spec.specs.Trees.{begin_of, end_of_last, block_begin, block_span, first_begin, module_span, module_tree, tree}
use Rattle.starlark_json.specs.Tree.Fitting.{SpanFits, ExpressionFits, MaybeFits, MaybeTypeFits, ArgumentFits, ParameterFits, ForFits, ClauseFits}
use Rattle.starlark_json.specs.Tree.Fitting.{LoadArgsFit, StatementFits}
use Rattle.starlark_json.proofs.Fits.Tokens.{SideFits, span_fits, end_fits, yield_begin_fits}
use Rattle.starlark_json.proofs.Fits.Expressions.{each_more, spanned, place_fits, PairFits, arguments_fit, pairs_fit, parameters_fit, clauses_fit}
use Rattle.starlark_json.proofs.Fits.Expressions.{expressions_fit, tuple_fits, one_fits, grouped_fits, signed_fits, operation_fits, SubscriptFits}
use Rattle.starlark_json.proofs.Fits.Expressions.{subscripted_fits, f_string_fits, aim_fits, assigned_fits, RestFits, if_fits, block_fits, NamesFit, loads_fit}

-- ---- what the tree of a nonterminal has

abbrev ElementFits : (k : ElementKind) → ElementTree k → Type 0
ElementFits G.elements e = ExpressionFits e
ElementFits G.arguments a = ArgumentFits a
ElementFits G.entries p = PairFits p
ElementFits G.lambda_parameters p = ParameterFits p
ElementFits G.variables e = ExpressionFits e
ElementFits G.symbols names = NamesFit names
ElementFits G.def_parameters p = ParameterFits p

abbrev TreeFits : (n : Nonterminal) → TreeOf n → Type 0
TreeFits G.Module ss = Each StatementFits ss
TreeFits G.Stmt s = StatementFits s
TreeFits G.For s = StatementFits s
TreeFits G.Rest s = RestFits s
TreeFits G.Suite s = StatementFits s
TreeFits G.Newlines ss = ⊤
TreeFits G.Block ss = Each StatementFits ss
TreeFits G.ReturnType ty = MaybeTypeFits ty
TreeFits G.DefParam p = ParameterFits p
TreeFits G.Simple s = StatementFits s
TreeFits G.Smalls ss = Each StatementFits ss
TreeFits G.Small s = StatementFits s
TreeFits G.TestList e = ExpressionFits e
TreeFits G.Annotation ty = MaybeTypeFits ty
TreeFits G.Note e = ExpressionFits e
TreeFits G.Symbols names = LoadArgsFit names
TreeFits G.Sym names = NamesFit names
TreeFits G.Test e = ExpressionFits e
TreeFits (G.LeftAssociative k) e = ExpressionFits e
TreeFits G.Not e = ExpressionFits e
TreeFits G.Comp e = ExpressionFits e
TreeFits G.Unary e = ExpressionFits e
TreeFits G.Primary e = ExpressionFits e
TreeFits G.Sub s = SubscriptFits s
TreeFits G.Bound m = MaybeFits m
TreeFits G.Arg a = ArgumentFits a
TreeFits G.Entry p = PairFits p
TreeFits G.LambdaParam p = ParameterFits p
TreeFits G.Atom e = ExpressionFits e
TreeFits G.LoopVars e = ExpressionFits e
TreeFits G.ForClause f = ForFits f
TreeFits G.Clauses c = ForFits c.0 × Each ClauseFits c.1
TreeFits G.FStringParts f = Each ExpressionFits f.values
TreeFits G.Conversion c = ⊤
TreeFits (G.OptionalList k) xs = Each (ElementFits k) xs
TreeFits (G.CommaList k) xs = Each (ElementFits k) xs

element_fits : {k : ElementKind} {n : Nonterminal} (u : ElementOf k n) (x : TreeOf n) → TreeFits n x → ElementFits k (element_tree u x)
element_fits G.of_elements x h = h
element_fits G.of_arguments x h = h
element_fits G.of_entries x h = h
element_fits G.of_lambda_parameters x h = h
element_fits G.of_variables x h = h
element_fits G.of_symbols x h = h
element_fits G.of_def_parameters x h = h

operand_fits : {k : PrecedenceLevel} {n : Nonterminal} (u : OperandOf k n) (x : TreeOf n) → TreeFits n x → ExpressionFits (operand_tree u x)
operand_fits G.of_or x h = h
operand_fits G.of_and x h = h
operand_fits G.of_bit_or x h = h
operand_fits G.of_xor x h = h
operand_fits G.of_bit_and x h = h
operand_fits G.of_shift x h = h
operand_fits G.of_add x h = h
operand_fits G.of_multiply x h = h

-- ---- spans that are not of one derivation

-- from a token to the end of the last token of what comes after it
from_token : (s r : Span) (a : RightSide) → SpanFits s → SpanFits r → SideFits a → SpanFits (from_to s.begin (end_of_last a r.end))
from_token s r a h k side = record { begin = h.begin; end = end_fits a r.end side k.end }

element_commas_fit : {k : ElementKind} (d : Derivation (G.CommaList k)) → SideFits (right_side d) → Each SpanFits (element_commas d)
element_commas_fit (G.comma_list_one is_element element) h = tt
element_commas_fit (G.comma_list_more is_element listed comma_at element) h =
    each_more SpanFits (element_commas listed) comma_at (element_commas_fit listed h.0) h.1.0.1

commas_fit : {k : ElementKind} (d : Derivation (G.OptionalList k)) → SideFits (right_side d) → Each SpanFits (commas d)
commas_fit G.optional_list_none h = tt
commas_fit (G.optional_list_plain d) h = element_commas_fit d h
commas_fit (G.optional_list_comma listed comma_at) h = each_more SpanFits (element_commas listed) comma_at (element_commas_fit listed h.0) h.1.1

block_begin_fits : (b : Derivation G.Block) → SideFits (right_side b) → block_begin b < 2 ^ 64
block_begin_fits (G.block_first newlines stmt) h = yield_begin_fits (right_side stmt) h.1
block_begin_fits (G.block_newline block newline_at) h = block_begin_fits block h.0
block_begin_fits (G.block_stmt block stmt) h = block_begin_fits block h.0

last_fits : (a : RightSide) → SideFits a → end_of_last a 0 < 2 ^ 64
last_fits a h = end_fits a 0 h (omega arith)

block_span_fits : (b : Derivation G.Block) → SideFits (right_side b) → SpanFits (block_span b)
block_span_fits b h = record { begin = block_begin_fits b h; end = last_fits (right_side b) h }

-- ---- trees

tree_fits : {n : Nonterminal} (d : Derivation n) → SideFits (right_side d) → TreeFits n (tree d)
tree_fits G.module_none h = tt
tree_fits (G.module_newline before newline_at) h = tree_fits before h.0
tree_fits (G.module_stmt before stmt) h = each_more StatementFits (tree before) (tree stmt) (tree_fits before h.0) (tree_fits stmt h.1)
tree_fits (G.stmt_simple d) h = tree_fits d h
tree_fits (G.stmt_def def_at w name_at opening_at params closing_at return_type colon_at suite) h = (
  span_fits (G.stmt_def def_at w name_at opening_at params closing_at return_type colon_at suite) h,
  (h.1.0.1, parameters_fit (tree params) (tree_fits params h.1.1.1.0), tree_fits return_type h.1.1.1.1.1.0, tree_fits suite h.1.1.1.1.1.1.1),
)
tree_fits (G.stmt_if if_at test colon_at suite rest) h = (
  span_fits (G.stmt_if if_at test colon_at suite rest) h,
  if_fits (tree test) (tree suite) (tree rest) (tree_fits test h.1.0) (tree_fits suite h.1.1.1.0) (tree_fits rest h.1.1.1.1),
)
tree_fits (G.stmt_for d) h = tree_fits d h
tree_fits (G.for_loop for_at vars in_at source colon_at suite) h = (
  span_fits (G.for_loop for_at vars in_at source colon_at suite) h,
  (aim_fits (tree vars) (tree_fits vars h.1.0), tree_fits source h.1.1.1.0, tree_fits suite h.1.1.1.1.1),
)
tree_fits G.rest_none h = tt
tree_fits (G.rest_elif elif_at test colon_at suite rest) h = (
  span_fits (G.rest_elif elif_at test colon_at suite rest) h,
  if_fits (tree test) (tree suite) (tree rest) (tree_fits test h.1.0) (tree_fits suite h.1.1.1.0) (tree_fits rest h.1.1.1.1),
)
tree_fits (G.rest_else else_at colon_at suite) h = tree_fits suite h.1.1
tree_fits (G.suite_simple d) h = tree_fits d h
tree_fits (G.suite_block newline_at newlines indent_at block dedent_at) h =
    block_fits (block_span block) (tree block) (block_span_fits block h.1.1.1.0) (tree_fits block h.1.1.1.0)
tree_fits (G.suite_open newline_at newlines indent_at block) h =
    block_fits (block_span block) (tree block) (block_span_fits block h.1.1.1.0) (tree_fits block h.1.1.1.0)
tree_fits G.newlines_none h = tt
tree_fits (G.newlines_more newlines newline_at) h = tt
tree_fits (G.block_first newlines stmt) h = (tree_fits stmt h.1, tt)
tree_fits (G.block_newline block newline_at) h = tree_fits block h.0
tree_fits (G.block_stmt block stmt) h = each_more StatementFits (tree block) (tree stmt) (tree_fits block h.0) (tree_fits stmt h.1)
tree_fits G.return_type_none h = tt
tree_fits (G.return_type_note arrow_at note) h = let e = tree_fits note h.1 in (place_fits (tree note) e, e)
tree_fits (G.def_param_slash slash_at) h = h.1
tree_fits (G.def_param_star star_at) h = h.1
tree_fits (G.def_param_args star_at w name_at annotation) h =
    (span_fits (G.def_param_args star_at w name_at annotation) h, h.1.0.1, tree_fits annotation h.1.1)
tree_fits (G.def_param_kwargs stars_at w name_at annotation) h =
    (span_fits (G.def_param_kwargs stars_at w name_at annotation) h, h.1.0.1, tree_fits annotation h.1.1)
tree_fits (G.def_param_name w name_at annotation) h = (span_fits (G.def_param_name w name_at annotation) h, h.0.1, tree_fits annotation h.1, tt)
tree_fits (G.def_param_default w name_at annotation equal_at value) h = (
  span_fits (G.def_param_default w name_at annotation equal_at value) h,
  h.0.1,
  tree_fits annotation h.1.0,
  tree_fits value h.1.1.1,
)
tree_fits (G.simple_line smalls newline_at) h = block_fits _ (tree smalls) (span_fits (G.simple_line smalls newline_at) h) (tree_fits smalls h.0)
tree_fits (G.simple_semicolon smalls semicolon_at newline_at) h =
    block_fits _ (tree smalls) (span_fits (G.simple_semicolon smalls semicolon_at newline_at) h) (tree_fits smalls h.0)
tree_fits (G.smalls_one d) h = (tree_fits d h, tt)
tree_fits (G.smalls_more smalls semicolon_at small) h = each_more StatementFits (tree smalls) (tree small) (tree_fits smalls h.0) (tree_fits small h.1.1)
tree_fits (G.small_return return_at) h = (h.1, tt)
tree_fits (G.small_return_value return_at value) h = (span_fits (G.small_return_value return_at value) h, tree_fits value h.1)
tree_fits (G.small_break s) h = (h.1, tt)
tree_fits (G.small_continue s) h = (h.1, tt)
tree_fits (G.small_pass s) h = (h.1, tt)
tree_fits (G.small_load load_at opening_at file file_at loaded closing_at) h =
    (spanned load_at closing_at h.0.1 h.1.1.1.1.1, (h.1.1.0.1, tree_fits loaded h.1.1.1.0))
tree_fits (G.small_test d) h = (span_fits d h, tree_fits d h)
tree_fits (G.small_assign left annotation sign sign_at right) h = (
  span_fits (G.small_assign left annotation sign sign_at right) h,
  assigned_fits (tree annotation) (assign_operator sign) (tree right) _ (tree_fits annotation h.1.0) (tree_fits right h.1.1.1)
      (aim_fits (tree left) (tree_fits left h.0)),
)
tree_fits (G.list_plain d) h = one_fits _ (tree d) (span_fits (G.list_plain d) h) (tree_fits d h)
tree_fits (G.list_comma listed comma_at) h = tuple_fits _ (tree listed) (span_fits (G.list_comma listed comma_at) h) (tree_fits listed h.0)
tree_fits G.annotation_none h = tt
tree_fits (G.annotation_note colon_at note) h = let e = tree_fits note h.1 in (place_fits (tree note) e, e)
tree_fits (G.note_test d) h = tree_fits d h
tree_fits G.symbols_none h = tt
tree_fits (G.symbols_list comma_at loaded) h = loads_fit (tree loaded) (commas loaded) (tree_fits loaded h.1) (commas_fit loaded h.1)
tree_fits (G.sym_same w name_at) h = (h.1, h.1)
tree_fits (G.sym_other w name_at equal_at their their_at) h = (h.0.1, h.1.1.1)
tree_fits (G.sym_alone w name_at) h = (h.1, h.1)
tree_fits (G.test_or d) h = tree_fits d h
tree_fits (G.test_if value if_at test else_at other) h =
    let v = tree_fits value h.0 in
    let begin = place_fits (tree value) v in
    (from_token (expression_span (tree value)) else_at (right_side other) begin h.1.1.1.0.1 h.1.1.1.1, (tree_fits test h.1.1.0, v, tree_fits other h.1.1.1.1))
tree_fits (G.test_lambda lambda_at params colon_at body) h = (
  from_token lambda_at colon_at (right_side body) h.0.1 h.1.1.0.1 h.1.1.1,
  (parameters_fit (tree params) (tree_fits params h.1.0), tree_fits body h.1.1.1),
)
tree_fits (G.left_one is_operand operand) h = operand_fits is_operand (tree operand) (tree_fits operand h)
tree_fits (G.left_more is_operand left sign sign_at right) h =
    operation_fits (tree left) (operator_of sign) (operand_tree is_operand (tree right)) (tree_fits left h.0)
    (operand_fits is_operand (tree right) (tree_fits right h.1.1))
tree_fits (G.not_not not_at operand) h = (from_token not_at not_at (right_side operand) h.0.1 h.0.1 h.1, tree_fits operand h.1)
tree_fits (G.not_comp d) h = tree_fits d h
tree_fits (G.comp_one d) h = tree_fits d h
tree_fits (G.comp_two left sign right) h = operation_fits (tree left) (compared_by sign) (tree right) (tree_fits left h.0) (tree_fits right h.1.1)
tree_fits (G.unary_sign sign sign_at operand) h =
    signed_fits sign _ (tree operand) (from_token sign_at sign_at (right_side operand) h.0.1 h.0.1 h.1) (tree_fits operand h.1)
tree_fits (G.unary_primary d) h = tree_fits d h
tree_fits (G.primary_atom d) h = tree_fits d h
tree_fits (G.primary_dot operand dot_at w name_at) h =
    let e = tree_fits operand h.0 in
    (spanned (expression_span (tree operand)) name_at (place_fits (tree operand) e) h.1.1.1, (e, h.1.1.1))
tree_fits (G.primary_subscript operand opening_at sub closing_at) h =
    let e = tree_fits operand h.0 in
    let span = spanned (expression_span (tree operand)) closing_at (place_fits (tree operand) e) h.1.1.1.1 in
    subscripted_fits _ (tree operand) (tree sub) span e (tree_fits sub h.1.1.0)
tree_fits (G.primary_call operand opening_at passed closing_at) h =
    let e = tree_fits operand h.0 in
    let span = spanned (expression_span (tree operand)) closing_at (place_fits (tree operand) e) h.1.1.1.1 in
    (span, (e, arguments_fit (tree passed) (tree_fits passed h.1.1.0)))
tree_fits (G.sub_one d) h = tree_fits d h
tree_fits (G.sub_two first comma_at second) h = (tree_fits first h.0, tree_fits second h.1.1)
tree_fits (G.sub_slice begin colon_at stop) h = (tree_fits begin h.0, tree_fits stop h.1.1, tt)
tree_fits (G.sub_step begin colon_at stop step_at step) h = (tree_fits begin h.0, tree_fits stop h.1.1.0, tree_fits step h.1.1.1.1)
tree_fits G.bound_none h = tt
tree_fits (G.bound_test d) h = tree_fits d h
tree_fits (G.arg_test d) h = (span_fits d h, tree_fits d h)
tree_fits (G.arg_named w name_at equal_at value) h =
    (from_token name_at equal_at (right_side value) h.0.1 h.1.0.1 h.1.1, h.0.1, tree_fits value h.1.1)
tree_fits (G.arg_star star_at value) h = (from_token star_at star_at (right_side value) h.0.1 h.0.1 h.1, tree_fits value h.1)
tree_fits (G.arg_stars stars_at value) h = (from_token stars_at stars_at (right_side value) h.0.1 h.0.1 h.1, tree_fits value h.1)
tree_fits (G.entry key colon_at value) h = (tree_fits key h.0, tree_fits value h.1.1)
tree_fits (G.lambda_param_slash slash_at) h = h.1
tree_fits (G.lambda_param_star star_at) h = h.1
tree_fits (G.lambda_param_args star_at w name_at) h = (spanned star_at name_at h.0.1 h.1.1, h.1.1, tt)
tree_fits (G.lambda_param_kwargs stars_at w name_at) h = (spanned stars_at name_at h.0.1 h.1.1, h.1.1, tt)
tree_fits (G.lambda_param_name w name_at) h = (h.1, h.1, tt, tt)
tree_fits (G.lambda_param_default w name_at equal_at value) h =
    (from_token name_at equal_at (right_side value) h.0.1 h.1.0.1 h.1.1, h.0.1, tt, tree_fits value h.1.1)
tree_fits (G.atom_name w name_at) h = (h.1, refl)
tree_fits (G.atom_int n s) h = (h.1, (refl, h.0))
tree_fits (G.atom_float text s) h = (h.1, refl)
tree_fits (G.atom_string text s) h = (h.1, refl)
tree_fits (G.atom_bytes text s) h = (h.1, (refl, h.0))
tree_fits (G.atom_ellipsis s) h = (h.1, tt)
tree_fits (G.atom_round opening_at inside closing_at) h =
    grouped_fits _ inside (tree inside) (spanned opening_at closing_at h.0.1 h.1.1.1) h.1.0 (tree_fits inside h.1.0)
tree_fits (G.atom_square opening_at inside closing_at) h =
    (spanned opening_at closing_at h.0.1 h.1.1.1, expressions_fit (tree inside) (tree_fits inside h.1.0))
tree_fits (G.atom_curly opening_at inside closing_at) h = (spanned opening_at closing_at h.0.1 h.1.1.1, pairs_fit (tree inside) (tree_fits inside h.1.0))
tree_fits (G.atom_list_comprehension opening_at element clauses closing_at) h =
    let c = tree_fits clauses h.1.1.0 in
    (spanned opening_at closing_at h.0.1 h.1.1.1.1, (tree_fits element h.1.0, c.0, clauses_fit (tree clauses).1 c.1))
tree_fits (G.atom_dict_comprehension opening_at pair clauses closing_at) h =
    let c = tree_fits clauses h.1.1.0 in
    let p = tree_fits pair h.1.0 in
    (spanned opening_at closing_at h.0.1 h.1.1.1.1, (p.0, p.1, c.0, clauses_fit (tree clauses).1 c.1))
tree_fits (G.atom_f_string quote opening_at parts closing_at) h =
    f_string_fits _ (tree parts) (spanned opening_at closing_at h.0.1 h.1.1.1) (tree_fits parts h.1.0)
tree_fits (G.vars_plain d) h = one_fits _ (tree d) (span_fits (G.vars_plain d) h) (tree_fits d h)
tree_fits (G.vars_comma listed comma_at) h = tuple_fits _ (tree listed) (span_fits (G.vars_comma listed comma_at) h) (tree_fits listed h.0)
tree_fits (G.for_clause for_at vars in_at source) h = (aim_fits (tree vars) (tree_fits vars h.1.0), tree_fits source h.1.1.1)
tree_fits (G.clauses_one d) h = (tree_fits d h, tt)
tree_fits (G.clauses_for clauses clause) h =
    let c = tree_fits clauses h.0 in (c.0, each_more ClauseFits (tree clauses).1 (t.for_clause (tree clause)) c.1 (tree_fits clause h.1))
tree_fits (G.clauses_if clauses if_at test) h =
    let c = tree_fits clauses h.0 in (c.0, each_more ClauseFits (tree clauses).1 (t.if_clause (tree test)) c.1 (tree_fits test h.1.1))
tree_fits G.parts_none h = tt
tree_fits (G.parts_text parts text text_at) h = tree_fits parts h.0
tree_fits (G.parts_replacement parts opening_at value conversion closing_at) h =
    each_more ExpressionFits (tree parts).values (tree value) (tree_fits parts h.0) (tree_fits value h.1.1.0)
tree_fits G.conversion_default h = tt
tree_fits (G.conversion_absent bang_at) h = tt
tree_fits (G.conversion_name bang_at w name_at) h = tt
tree_fits G.optional_list_none h = tt
tree_fits (G.optional_list_plain d) h = tree_fits d h
tree_fits (G.optional_list_comma listed comma_at) h = tree_fits listed h.0
tree_fits (G.comma_list_one is_element element) h = (element_fits is_element (tree element) (tree_fits element h), tt)
tree_fits (G.comma_list_more {k = k} is_element listed comma_at element) h =
    each_more (ElementFits k) (tree listed) (element_tree is_element (tree element)) (tree_fits listed h.0)
    (element_fits is_element (tree element) (tree_fits element h.1.1))

-- ---- modules

first_begin_fits : (d : Derivation G.Module) → SideFits (right_side d) → (other : ℕ) → other < 2 ^ 64 → unwrap_or (first_begin d) other < 2 ^ 64
first_begin_fits G.module_none h other k = k
first_begin_fits (G.module_newline before newline_at) h other k = first_begin_fits before h.0 other k
first_begin_fits (G.module_stmt before stmt) h other k = first_begin_fits before h.0 (begin_of (yield_of stmt [])) (yield_begin_fits (right_side stmt) h.1)

-- the statement of a derivation of tokens that fit
pub module_fits : (d : Derivation G.Module) → SideFits (right_side d) → StatementFits (module_tree d)
module_fits d h =
    let end = last_fits (right_side d) h in
    block_fits (module_span d) (tree d) (record { begin = first_begin_fits d h (end_of_last (right_side d) 0) end; end = end }) (tree_fits d h)
