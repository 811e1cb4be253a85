-- The kept faults of a derivation: those of calls, f-strings and loads, in the order in which these end.
use Rattle.std.specs.Prelude.{List as Seq, [], ◌++◌}
use Rattle.starlark_lexer.specs.Tokens.{from_to}
use Rattle.starlark_lexer.specs.declared.dialect.Dialect.{Dialect}
use Rattle.starlark_spec.specs.Faults.{Fault}
use Rattle.starlark_spec.specs.Grammar.{Nonterminal, Derivation}
use Rattle.starlark_spec.specs.Grammar as G
use Rattle.starlark_spec.specs.Trees.{at, tree}
use Rattle.starlark_validate.specs.KeptTreeFaults.{call_faults, f_string_faults, load_faults}

-- Those of the parts from left to right; the parts of a node end before it does, so its own fault comes last.
abbrev pub kept : {n : Nonterminal} → Dialect → Derivation n → Seq Fault
kept dialect G.module_none = []
kept dialect (G.module_newline before newline_at) = kept dialect before
kept dialect (G.module_stmt before stmt) = kept dialect before ++ kept dialect stmt
kept dialect (G.stmt_simple d) = kept dialect d
kept dialect (G.stmt_def def_at name name_at opening_at params closing_at return_type colon_at suite) = kept dialect params
    ++ (kept dialect return_type ++ kept dialect suite)
kept dialect (G.stmt_if if_at test colon_at suite rest) = kept dialect test ++ (kept dialect suite ++ kept dialect rest)
kept dialect (G.stmt_for d) = kept dialect d
kept dialect (G.for_loop for_at vars in_at source colon_at suite) = kept dialect vars ++ (kept dialect source ++ kept dialect suite)
kept dialect G.rest_none = []
kept dialect (G.rest_elif elif_at test colon_at suite rest) = kept dialect test ++ (kept dialect suite ++ kept dialect rest)
kept dialect (G.rest_else else_at colon_at suite) = kept dialect suite
kept dialect (G.suite_simple d) = kept dialect d
kept dialect (G.suite_block newline_at newlines indent_at block dedent_at) = kept dialect newlines ++ kept dialect block
kept dialect (G.suite_open newline_at newlines indent_at block) = kept dialect newlines ++ kept dialect block
kept dialect G.newlines_none = []
kept dialect (G.newlines_more newlines newline_at) = kept dialect newlines
kept dialect (G.block_first newlines stmt) = kept dialect newlines ++ kept dialect stmt
kept dialect (G.block_newline block newline_at) = kept dialect block
kept dialect (G.block_stmt block stmt) = kept dialect block ++ kept dialect stmt
kept dialect G.return_type_none = []
kept dialect (G.return_type_note arrow_at note) = kept dialect note
kept dialect (G.def_param_slash slash_at) = []
kept dialect (G.def_param_star star_at) = []
kept dialect (G.def_param_args star_at name name_at annotation) = kept dialect annotation
kept dialect (G.def_param_kwargs stars_at name name_at annotation) = kept dialect annotation
kept dialect (G.def_param_name name name_at annotation) = kept dialect annotation
kept dialect (G.def_param_default name name_at annotation equal_at value) = kept dialect annotation ++ kept dialect value
kept dialect (G.simple_line smalls newline_at) = kept dialect smalls
kept dialect (G.simple_semicolon smalls semicolon_at newline_at) = kept dialect smalls
kept dialect (G.smalls_one d) = kept dialect d
kept dialect (G.smalls_more smalls semicolon_at small) = kept dialect smalls ++ kept dialect small
kept dialect (G.small_return return_at) = []
kept dialect (G.small_return_value return_at value) = kept dialect value
kept dialect (G.small_break s) = []
kept dialect (G.small_continue s) = []
kept dialect (G.small_pass s) = []
kept dialect (G.small_load load_at opening_at file file_at loaded closing_at) = kept dialect loaded ++ load_faults (at file file_at) (tree loaded)
kept dialect (G.small_test d) = kept dialect d
kept dialect (G.small_assign left annotation sign sign_at right) = kept dialect left ++ (kept dialect annotation ++ kept dialect right)
kept dialect (G.list_plain d) = kept dialect d
kept dialect (G.list_comma listed comma_at) = kept dialect listed
kept dialect G.annotation_none = []
kept dialect (G.annotation_note colon_at note) = kept dialect note
kept dialect (G.note_test d) = kept dialect d
kept dialect G.symbols_none = []
kept dialect (G.symbols_list comma_at loaded) = kept dialect loaded
kept dialect (G.sym_same name name_at) = []
kept dialect (G.sym_other name name_at equal_at their their_at) = []
kept dialect (G.sym_alone name name_at) = []
kept dialect (G.test_or d) = kept dialect d
kept dialect (G.test_if value if_at test else_at other) = kept dialect value ++ (kept dialect test ++ kept dialect other)
kept dialect (G.test_lambda lambda_at params colon_at body) = kept dialect params ++ kept dialect body
kept dialect (G.left_one is_operand operand) = kept dialect operand
kept dialect (G.left_more is_operand left sign sign_at right) = kept dialect left ++ kept dialect right
kept dialect (G.not_not not_at operand) = kept dialect operand
kept dialect (G.not_comp d) = kept dialect d
kept dialect (G.comp_one d) = kept dialect d
kept dialect (G.comp_two left sign right) = kept dialect left ++ kept dialect right
kept dialect (G.unary_sign sign sign_at operand) = kept dialect operand
kept dialect (G.unary_primary d) = kept dialect d
kept dialect (G.primary_atom d) = kept dialect d
kept dialect (G.primary_dot operand dot_at name name_at) = kept dialect operand
kept dialect (G.primary_subscript operand opening_at sub closing_at) = kept dialect operand ++ kept dialect sub
kept dialect (G.primary_call operand opening_at passed closing_at) = kept dialect operand ++ (kept dialect passed ++ call_faults (tree passed))
kept dialect (G.sub_one d) = kept dialect d
kept dialect (G.sub_two first comma_at second) = kept dialect first ++ kept dialect second
kept dialect (G.sub_slice begin colon_at stop) = kept dialect begin ++ kept dialect stop
kept dialect (G.sub_step begin colon_at stop step_at step) = kept dialect begin ++ (kept dialect stop ++ kept dialect step)
kept dialect G.bound_none = []
kept dialect (G.bound_test d) = kept dialect d
kept dialect (G.arg_test d) = kept dialect d
kept dialect (G.arg_named name name_at equal_at value) = kept dialect value
kept dialect (G.arg_star star_at value) = kept dialect value
kept dialect (G.arg_stars stars_at value) = kept dialect value
kept dialect (G.entry key colon_at value) = kept dialect key ++ kept dialect value
kept dialect (G.lambda_param_slash slash_at) = []
kept dialect (G.lambda_param_star star_at) = []
kept dialect (G.lambda_param_args star_at name name_at) = []
kept dialect (G.lambda_param_kwargs stars_at name name_at) = []
kept dialect (G.lambda_param_name name name_at) = []
kept dialect (G.lambda_param_default name name_at equal_at value) = kept dialect value
kept dialect (G.atom_name name name_at) = []
kept dialect (G.atom_int n s) = []
kept dialect (G.atom_float text s) = []
kept dialect (G.atom_string text s) = []
kept dialect (G.atom_bytes text s) = []
kept dialect (G.atom_ellipsis s) = []
kept dialect (G.atom_round opening_at inside closing_at) = kept dialect inside
kept dialect (G.atom_square opening_at inside closing_at) = kept dialect inside
kept dialect (G.atom_curly opening_at inside closing_at) = kept dialect inside
kept dialect (G.atom_list_comprehension opening_at element clauses closing_at) = kept dialect element ++ kept dialect clauses
kept dialect (G.atom_dict_comprehension opening_at pair clauses closing_at) = kept dialect pair ++ kept dialect clauses
kept dialect (G.atom_f_string quote opening_at parts closing_at) = kept dialect parts ++ f_string_faults dialect (from_to opening_at.begin closing_at.end)
kept dialect (G.vars_plain d) = kept dialect d
kept dialect (G.vars_comma listed comma_at) = kept dialect listed
kept dialect (G.for_clause for_at vars in_at source) = kept dialect vars ++ kept dialect source
kept dialect (G.clauses_one d) = kept dialect d
kept dialect (G.clauses_for clauses clause) = kept dialect clauses ++ kept dialect clause
kept dialect (G.clauses_if clauses if_at test) = kept dialect clauses ++ kept dialect test
kept dialect G.parts_none = []
kept dialect (G.parts_text parts text text_at) = kept dialect parts
kept dialect (G.parts_replacement parts opening_at value conversion closing_at) = kept dialect parts ++ (kept dialect value ++ kept dialect conversion)
kept dialect G.conversion_default = []
kept dialect (G.conversion_absent bang_at) = []
kept dialect (G.conversion_name bang_at name name_at) = []
kept dialect G.optional_list_none = []
kept dialect (G.optional_list_plain d) = kept dialect d
kept dialect (G.optional_list_comma listed comma_at) = kept dialect listed
kept dialect (G.comma_list_one is_element element) = kept dialect element
kept dialect (G.comma_list_more is_element listed comma_at element) = kept dialect listed ++ kept dialect element
