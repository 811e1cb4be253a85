-- Each derivation with other spans.
use Rattle.starlark_spec.specs.Grammar.{Nonterminal, Derivation}
use Rattle.starlark_spec.specs.Grammar as G
use Rattle.starlark_source.proofs.Spans.Moves.{Moves}
use Rattle.starlark_source.proofs.Spans.StatementMoves.{moved_module_none, moved_module_newline, moved_module_stmt, moved_stmt_simple, moved_stmt_def}
use Rattle.starlark_source.proofs.Spans.StatementMoves.{moved_stmt_if, moved_stmt_for, moved_for_loop, moved_rest_none, moved_rest_elif, moved_rest_else}
use Rattle.starlark_source.proofs.Spans.StatementMoves.{moved_suite_simple, moved_suite_block, moved_suite_open, moved_newlines_none, moved_newlines_more}
use Rattle.starlark_source.proofs.Spans.StatementMoves.{moved_block_first, moved_block_newline, moved_block_stmt, moved_return_type_none}
use Rattle.starlark_source.proofs.Spans.StatementMoves.{moved_return_type_note, moved_def_param_slash, moved_def_param_star, moved_def_param_args}
use Rattle.starlark_source.proofs.Spans.StatementMoves.{moved_def_param_kwargs, moved_def_param_name, moved_def_param_default, moved_simple_line}
use Rattle.starlark_source.proofs.Spans.StatementMoves.{moved_simple_semicolon, moved_smalls_one, moved_smalls_more}
use Rattle.starlark_source.proofs.Spans.SmallStatementMoves.{moved_small_return, moved_small_return_value, moved_small_break, moved_small_continue}
use Rattle.starlark_source.proofs.Spans.SmallStatementMoves.{moved_small_pass, moved_small_load, moved_small_test, moved_small_assign, moved_list_plain}
use Rattle.starlark_source.proofs.Spans.SmallStatementMoves.{moved_list_comma, moved_annotation_none, moved_annotation_note, moved_note_test}
use Rattle.starlark_source.proofs.Spans.SmallStatementMoves.{moved_symbols_none, moved_symbols_list, moved_sym_same, moved_sym_other, moved_sym_alone}
use Rattle.starlark_source.proofs.Spans.SmallStatementMoves.{moved_test_or, moved_test_if, moved_test_lambda, moved_left_one, moved_left_more}
use Rattle.starlark_source.proofs.Spans.ExpressionMoves.{moved_not_not, moved_not_comp, moved_comp_one, moved_comp_two, moved_unary_sign, moved_unary_primary}
use Rattle.starlark_source.proofs.Spans.ExpressionMoves.{moved_primary_atom, moved_primary_dot, moved_primary_subscript, moved_primary_call, moved_sub_one}
use Rattle.starlark_source.proofs.Spans.ExpressionMoves.{moved_sub_two, moved_sub_slice, moved_sub_step, moved_bound_none, moved_bound_test, moved_arg_test}
use Rattle.starlark_source.proofs.Spans.ExpressionMoves.{moved_arg_named, moved_arg_star, moved_arg_stars, moved_entry, moved_lambda_param_slash}
use Rattle.starlark_source.proofs.Spans.ExpressionMoves.{moved_lambda_param_star, moved_lambda_param_args, moved_lambda_param_kwargs, moved_lambda_param_name}
use Rattle.starlark_source.proofs.Spans.ExpressionMoves.{moved_lambda_param_default}
use Rattle.starlark_source.proofs.Spans.AtomMoves.{moved_atom_name, moved_atom_int, moved_atom_float, moved_atom_string, moved_atom_bytes}
use Rattle.starlark_source.proofs.Spans.AtomMoves.{moved_atom_ellipsis, moved_atom_round, moved_atom_square, moved_atom_curly, moved_atom_list_comprehension}
use Rattle.starlark_source.proofs.Spans.AtomMoves.{moved_atom_dict_comprehension, moved_atom_f_string, moved_vars_plain, moved_vars_comma, moved_for_clause}
use Rattle.starlark_source.proofs.Spans.AtomMoves.{moved_clauses_one, moved_clauses_for, moved_clauses_if, moved_parts_none, moved_parts_text}
use Rattle.starlark_source.proofs.Spans.AtomMoves.{moved_parts_replacement, moved_conversion_default, moved_conversion_absent, moved_conversion_name}
use Rattle.starlark_source.proofs.Spans.AtomMoves.{moved_optional_list_none, moved_optional_list_plain, moved_optional_list_comma, moved_comma_list_one}
use Rattle.starlark_source.proofs.Spans.AtomMoves.{moved_comma_list_more}

pub moved : {n : Nonterminal} (d : Derivation n) → Moves d
moved G.module_none = moved_module_none
moved (G.module_newline before newline_at) = moved_module_newline before newline_at (moved before)
moved (G.module_stmt before stmt) = moved_module_stmt before stmt (moved before) (moved stmt)
moved (G.stmt_simple d) = moved_stmt_simple d (moved d)
moved (G.stmt_def def_at name name_at opening_at params closing_at return_type colon_at suite) =
    moved_stmt_def def_at name name_at opening_at params closing_at return_type colon_at suite (moved params) (moved return_type) (moved suite)
moved (G.stmt_if if_at test colon_at suite rest) = moved_stmt_if if_at test colon_at suite rest (moved test) (moved suite) (moved rest)
moved (G.stmt_for d) = moved_stmt_for d (moved d)
moved (G.for_loop for_at vars in_at source colon_at suite) = moved_for_loop for_at vars in_at source colon_at suite (moved vars) (moved source) (moved suite)
moved G.rest_none = moved_rest_none
moved (G.rest_elif elif_at test colon_at suite rest) = moved_rest_elif elif_at test colon_at suite rest (moved test) (moved suite) (moved rest)
moved (G.rest_else else_at colon_at suite) = moved_rest_else else_at colon_at suite (moved suite)
moved (G.suite_simple d) = moved_suite_simple d (moved d)
moved (G.suite_block newline_at newlines indent_at block dedent_at) =
    moved_suite_block newline_at newlines indent_at block dedent_at (moved newlines) (moved block)
moved (G.suite_open newline_at newlines indent_at block) = moved_suite_open newline_at newlines indent_at block (moved newlines) (moved block)
moved G.newlines_none = moved_newlines_none
moved (G.newlines_more newlines newline_at) = moved_newlines_more newlines newline_at (moved newlines)
moved (G.block_first newlines stmt) = moved_block_first newlines stmt (moved newlines) (moved stmt)
moved (G.block_newline block newline_at) = moved_block_newline block newline_at (moved block)
moved (G.block_stmt block stmt) = moved_block_stmt block stmt (moved block) (moved stmt)
moved G.return_type_none = moved_return_type_none
moved (G.return_type_note arrow_at note) = moved_return_type_note arrow_at note (moved note)
moved (G.def_param_slash slash_at) = moved_def_param_slash slash_at
moved (G.def_param_star star_at) = moved_def_param_star star_at
moved (G.def_param_args star_at name name_at annotation) = moved_def_param_args star_at name name_at annotation (moved annotation)
moved (G.def_param_kwargs stars_at name name_at annotation) = moved_def_param_kwargs stars_at name name_at annotation (moved annotation)
moved (G.def_param_name name name_at annotation) = moved_def_param_name name name_at annotation (moved annotation)
moved (G.def_param_default name name_at annotation equal_at value) =
    moved_def_param_default name name_at annotation equal_at value (moved annotation) (moved value)
moved (G.simple_line smalls newline_at) = moved_simple_line smalls newline_at (moved smalls)
moved (G.simple_semicolon smalls semicolon_at newline_at) = moved_simple_semicolon smalls semicolon_at newline_at (moved smalls)
moved (G.smalls_one d) = moved_smalls_one d (moved d)
moved (G.smalls_more smalls semicolon_at small) = moved_smalls_more smalls semicolon_at small (moved smalls) (moved small)
moved (G.small_return return_at) = moved_small_return return_at
moved (G.small_return_value return_at value) = moved_small_return_value return_at value (moved value)
moved (G.small_break s) = moved_small_break s
moved (G.small_continue s) = moved_small_continue s
moved (G.small_pass s) = moved_small_pass s
moved (G.small_load load_at opening_at file file_at loaded closing_at) = moved_small_load load_at opening_at file file_at loaded closing_at (moved loaded)
moved (G.small_test d) = moved_small_test d (moved d)
moved (G.small_assign left annotation sign sign_at right) = moved_small_assign left annotation sign sign_at right (moved left) (moved annotation) (moved right)
moved (G.list_plain d) = moved_list_plain d (moved d)
moved (G.list_comma listed comma_at) = moved_list_comma listed comma_at (moved listed)
moved G.annotation_none = moved_annotation_none
moved (G.annotation_note colon_at note) = moved_annotation_note colon_at note (moved note)
moved (G.note_test d) = moved_note_test d (moved d)
moved G.symbols_none = moved_symbols_none
moved (G.symbols_list comma_at loaded) = moved_symbols_list comma_at loaded (moved loaded)
moved (G.sym_same name name_at) = moved_sym_same name name_at
moved (G.sym_other name name_at equal_at their their_at) = moved_sym_other name name_at equal_at their their_at
moved (G.sym_alone name name_at) = moved_sym_alone name name_at
moved (G.test_or d) = moved_test_or d (moved d)
moved (G.test_if value if_at test else_at other) = moved_test_if value if_at test else_at other (moved value) (moved test) (moved other)
moved (G.test_lambda lambda_at params colon_at body) = moved_test_lambda lambda_at params colon_at body (moved params) (moved body)
moved (G.left_one is_operand operand) = moved_left_one is_operand operand (moved operand)
moved (G.left_more is_operand left sign sign_at right) = moved_left_more is_operand left sign sign_at right (moved left) (moved right)
moved (G.not_not not_at operand) = moved_not_not not_at operand (moved operand)
moved (G.not_comp d) = moved_not_comp d (moved d)
moved (G.comp_one d) = moved_comp_one d (moved d)
moved (G.comp_two left sign right) = moved_comp_two left sign right (moved left) (moved right)
moved (G.unary_sign sign sign_at operand) = moved_unary_sign sign sign_at operand (moved operand)
moved (G.unary_primary d) = moved_unary_primary d (moved d)
moved (G.primary_atom d) = moved_primary_atom d (moved d)
moved (G.primary_dot operand dot_at name name_at) = moved_primary_dot operand dot_at name name_at (moved operand)
moved (G.primary_subscript operand opening_at sub closing_at) = moved_primary_subscript operand opening_at sub closing_at (moved operand) (moved sub)
moved (G.primary_call operand opening_at passed closing_at) = moved_primary_call operand opening_at passed closing_at (moved operand) (moved passed)
moved (G.sub_one d) = moved_sub_one d (moved d)
moved (G.sub_two first comma_at second) = moved_sub_two first comma_at second (moved first) (moved second)
moved (G.sub_slice begin colon_at stop) = moved_sub_slice begin colon_at stop (moved begin) (moved stop)
moved (G.sub_step begin colon_at stop step_at step) = moved_sub_step begin colon_at stop step_at step (moved begin) (moved stop) (moved step)
moved G.bound_none = moved_bound_none
moved (G.bound_test d) = moved_bound_test d (moved d)
moved (G.arg_test d) = moved_arg_test d (moved d)
moved (G.arg_named name name_at equal_at value) = moved_arg_named name name_at equal_at value (moved value)
moved (G.arg_star star_at value) = moved_arg_star star_at value (moved value)
moved (G.arg_stars stars_at value) = moved_arg_stars stars_at value (moved value)
moved (G.entry key colon_at value) = moved_entry key colon_at value (moved key) (moved value)
moved (G.lambda_param_slash slash_at) = moved_lambda_param_slash slash_at
moved (G.lambda_param_star star_at) = moved_lambda_param_star star_at
moved (G.lambda_param_args star_at name name_at) = moved_lambda_param_args star_at name name_at
moved (G.lambda_param_kwargs stars_at name name_at) = moved_lambda_param_kwargs stars_at name name_at
moved (G.lambda_param_name name name_at) = moved_lambda_param_name name name_at
moved (G.lambda_param_default name name_at equal_at value) = moved_lambda_param_default name name_at equal_at value (moved value)
moved (G.atom_name name name_at) = moved_atom_name name name_at
moved (G.atom_int n s) = moved_atom_int n s
moved (G.atom_float text s) = moved_atom_float text s
moved (G.atom_string text s) = moved_atom_string text s
moved (G.atom_bytes text s) = moved_atom_bytes text s
moved (G.atom_ellipsis s) = moved_atom_ellipsis s
moved (G.atom_round opening_at inside closing_at) = moved_atom_round opening_at inside closing_at (moved inside)
moved (G.atom_square opening_at inside closing_at) = moved_atom_square opening_at inside closing_at (moved inside)
moved (G.atom_curly opening_at inside closing_at) = moved_atom_curly opening_at inside closing_at (moved inside)
moved (G.atom_list_comprehension opening_at element clauses closing_at) =
    moved_atom_list_comprehension opening_at element clauses closing_at (moved element) (moved clauses)
moved (G.atom_dict_comprehension opening_at pair clauses closing_at) =
    moved_atom_dict_comprehension opening_at pair clauses closing_at (moved pair) (moved clauses)
moved (G.atom_f_string quote opening_at parts closing_at) = moved_atom_f_string quote opening_at parts closing_at (moved parts)
moved (G.vars_plain d) = moved_vars_plain d (moved d)
moved (G.vars_comma listed comma_at) = moved_vars_comma listed comma_at (moved listed)
moved (G.for_clause for_at vars in_at source) = moved_for_clause for_at vars in_at source (moved vars) (moved source)
moved (G.clauses_one d) = moved_clauses_one d (moved d)
moved (G.clauses_for clauses clause) = moved_clauses_for clauses clause (moved clauses) (moved clause)
moved (G.clauses_if clauses if_at test) = moved_clauses_if clauses if_at test (moved clauses) (moved test)
moved G.parts_none = moved_parts_none
moved (G.parts_text parts text text_at) = moved_parts_text parts text text_at (moved parts)
moved (G.parts_replacement parts opening_at value conversion closing_at) =
    moved_parts_replacement parts opening_at value conversion closing_at (moved parts) (moved value) (moved conversion)
moved G.conversion_default = moved_conversion_default
moved (G.conversion_absent bang_at) = moved_conversion_absent bang_at
moved (G.conversion_name bang_at name name_at) = moved_conversion_name bang_at name name_at
moved (G.optional_list_none {k = k}) = moved_optional_list_none k
moved (G.optional_list_plain d) = moved_optional_list_plain d (moved d)
moved (G.optional_list_comma listed comma_at) = moved_optional_list_comma listed comma_at (moved listed)
moved (G.comma_list_one is_element element) = moved_comma_list_one is_element element (moved element)
moved (G.comma_list_more is_element listed comma_at element) = moved_comma_list_more is_element listed comma_at element (moved listed) (moved element)
