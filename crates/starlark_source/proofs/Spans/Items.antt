-- No token of a derivation is a comment.
use Rattle.std.proofs.Common.{◌≡◌, List as Seq, [], ◌∷◌, map, Bool, true, false, not, ◌&&◌, Ok, refl, ap, ◌∙◌}
use Rattle.std.specs.Bool.{⊤}
use Rattle.starlark_lexer.specs.Tokens.{Lexeme, LexerFault}
use Rattle.starlark_spec.specs.Items.{Items, at_end, is_comment, items}
use Rattle.starlark_spec.specs.Grammar.{Nonterminal, Derivation, PrecedenceLevel, Operator, Comparison, UnarySign, AssignSign, CompSign, RightSide}
use Rattle.starlark_spec.specs.Grammar.{right_side, side_yield, yield_of, sign_side, operator_token, comparison_token, unary_token, assign_token}
use Rattle.starlark_spec.specs.Grammar as G
use Rattle.starlark_spec.specs.Grammar.RightSide.{◌⨾◌}

abbrev plain : RightSide → Bool
plain G.nothing = true
plain (G.word x s) = not (is_comment x)
plain (a ⨾ b) = plain a && plain b
plain (G.marked x a) = plain a
plain G.tokens_end = true

operator_plain : {k : PrecedenceLevel} (s : Operator k) → not (is_comment (operator_token s)) ≡ true
operator_plain G.or_sign = refl
operator_plain G.and_sign = refl
operator_plain G.pipe = refl
operator_plain G.caret = refl
operator_plain G.ampersand = refl
operator_plain G.less_less = refl
operator_plain G.greater_greater = refl
operator_plain G.plus = refl
operator_plain G.minus = refl
operator_plain G.star = refl
operator_plain G.slash = refl
operator_plain G.slash_slash = refl
operator_plain G.percent = refl

comparison_plain : (s : Comparison) → not (is_comment (comparison_token s)) ≡ true
comparison_plain G.equal = refl
comparison_plain G.not_equal = refl
comparison_plain G.less = refl
comparison_plain G.greater = refl
comparison_plain G.less_or_equal = refl
comparison_plain G.greater_or_equal = refl
comparison_plain G.membership = refl

unary_plain : (s : UnarySign) → not (is_comment (unary_token s)) ≡ true
unary_plain G.plus_sign = refl
unary_plain G.minus_sign = refl
unary_plain G.tilde_sign = refl

assign_plain : (s : AssignSign) → not (is_comment (assign_token s)) ≡ true
assign_plain G.equal_sign = refl
assign_plain G.plus_equal = refl
assign_plain G.minus_equal = refl
assign_plain G.star_equal = refl
assign_plain G.slash_equal = refl
assign_plain G.slash_slash_equal = refl
assign_plain G.percent_equal = refl
assign_plain G.ampersand_equal = refl
assign_plain G.pipe_equal = refl
assign_plain G.caret_equal = refl
assign_plain G.less_less_equal = refl
assign_plain G.greater_greater_equal = refl

sign_plain : (s : CompSign) → plain (sign_side s) ≡ true
sign_plain (G.comparison c s) = comparison_plain c
sign_plain (G.not_in a b) = refl

plain_so : {n : Nonterminal} (d : Derivation n) → plain (right_side d) ≡ true
plain_so G.module_none = refl
plain_so (G.module_newline before newline_at) = λ i. plain_so before i && true
plain_so (G.module_stmt before stmt) = λ i. plain_so before i && plain_so stmt i
plain_so (G.stmt_simple d) = λ i. plain_so d i
plain_so (G.stmt_def def_at name name_at opening_at params closing_at return_type colon_at suite) =
    λ i. plain_so params i && (plain_so return_type i && plain_so suite i)
plain_so (G.stmt_if if_at test colon_at suite rest) = λ i. plain_so test i && (plain_so suite i && plain_so rest i)
plain_so (G.stmt_for d) = λ i. plain_so d i
plain_so (G.for_loop for_at vars in_at source colon_at suite) = λ i. plain_so vars i && (plain_so source i && plain_so suite i)
plain_so G.rest_none = refl
plain_so (G.rest_elif elif_at test colon_at suite rest) = λ i. plain_so test i && (plain_so suite i && plain_so rest i)
plain_so (G.rest_else else_at colon_at suite) = λ i. plain_so suite i
plain_so (G.suite_simple d) = λ i. plain_so d i
plain_so (G.suite_block newline_at newlines indent_at block dedent_at) = λ i. plain_so newlines i && (plain_so block i && true)
plain_so (G.suite_open newline_at newlines indent_at block) = λ i. plain_so newlines i && (plain_so block i && true)
plain_so G.newlines_none = refl
plain_so (G.newlines_more newlines newline_at) = λ i. plain_so newlines i && true
plain_so (G.block_first newlines stmt) = λ i. plain_so newlines i && plain_so stmt i
plain_so (G.block_newline block newline_at) = λ i. plain_so block i && true
plain_so (G.block_stmt block stmt) = λ i. plain_so block i && plain_so stmt i
plain_so G.return_type_none = refl
plain_so (G.return_type_note arrow_at note) = λ i. plain_so note i
plain_so (G.def_param_slash slash_at) = refl
plain_so (G.def_param_star star_at) = refl
plain_so (G.def_param_args star_at name name_at annotation) = λ i. plain_so annotation i
plain_so (G.def_param_kwargs stars_at name name_at annotation) = λ i. plain_so annotation i
plain_so (G.def_param_name name name_at annotation) = λ i. plain_so annotation i
plain_so (G.def_param_default name name_at annotation equal_at value) = λ i. plain_so annotation i && plain_so value i
plain_so (G.simple_line smalls newline_at) = λ i. plain_so smalls i && true
plain_so (G.simple_semicolon smalls semicolon_at newline_at) = λ i. plain_so smalls i && true
plain_so (G.smalls_one d) = λ i. plain_so d i
plain_so (G.smalls_more smalls semicolon_at small) = λ i. plain_so smalls i && plain_so small i
plain_so (G.small_return return_at) = refl
plain_so (G.small_return_value return_at value) = λ i. plain_so value i
plain_so (G.small_break s) = refl
plain_so (G.small_continue s) = refl
plain_so (G.small_pass s) = refl
plain_so (G.small_load load_at opening_at file file_at loaded closing_at) = λ i. plain_so loaded i && true
plain_so (G.small_test d) = λ i. plain_so d i
plain_so (G.small_assign left annotation sign sign_at right) = λ i. plain_so left i && (plain_so annotation i && (assign_plain sign i && plain_so right i))
plain_so (G.list_plain d) = λ i. plain_so d i
plain_so (G.list_comma listed comma_at) = λ i. plain_so listed i && true
plain_so G.annotation_none = refl
plain_so (G.annotation_note colon_at note) = λ i. plain_so note i
plain_so (G.note_test d) = λ i. plain_so d i
plain_so G.symbols_none = refl
plain_so (G.symbols_list comma_at loaded) = λ i. plain_so loaded i
plain_so (G.sym_same name name_at) = refl
plain_so (G.sym_other name name_at equal_at their their_at) = refl
plain_so (G.sym_alone name name_at) = refl
plain_so (G.test_or d) = λ i. plain_so d i
plain_so (G.test_if value if_at test else_at other) = λ i. plain_so value i && (plain_so test i && plain_so other i)
plain_so (G.test_lambda lambda_at params colon_at body) = λ i. plain_so params i && plain_so body i
plain_so (G.left_one is_operand operand) = λ i. plain_so operand i
plain_so (G.left_more is_operand left sign sign_at right) = λ i. plain_so left i && (operator_plain sign i && plain_so right i)
plain_so (G.not_not not_at operand) = λ i. plain_so operand i
plain_so (G.not_comp d) = λ i. plain_so d i
plain_so (G.comp_one d) = λ i. plain_so d i
plain_so (G.comp_two left sign right) = λ i. plain_so left i && (sign_plain sign i && plain_so right i)
plain_so (G.unary_sign sign sign_at operand) = λ i. unary_plain sign i && plain_so operand i
plain_so (G.unary_primary d) = λ i. plain_so d i
plain_so (G.primary_atom d) = λ i. plain_so d i
plain_so (G.primary_dot operand dot_at name name_at) = λ i. plain_so operand i && true
plain_so (G.primary_subscript operand opening_at sub closing_at) = λ i. plain_so operand i && (plain_so sub i && true)
plain_so (G.primary_call operand opening_at passed closing_at) = λ i. plain_so operand i && (plain_so passed i && true)
plain_so (G.sub_one d) = λ i. plain_so d i
plain_so (G.sub_two first comma_at second) = λ i. plain_so first i && plain_so second i
plain_so (G.sub_slice begin colon_at stop) = λ i. plain_so begin i && plain_so stop i
plain_so (G.sub_step begin colon_at stop step_at step) = λ i. plain_so begin i && (plain_so stop i && plain_so step i)
plain_so G.bound_none = refl
plain_so (G.bound_test d) = λ i. plain_so d i
plain_so (G.arg_test d) = λ i. plain_so d i
plain_so (G.arg_named name name_at equal_at value) = λ i. plain_so value i
plain_so (G.arg_star star_at value) = λ i. plain_so value i
plain_so (G.arg_stars stars_at value) = λ i. plain_so value i
plain_so (G.entry key colon_at value) = λ i. plain_so key i && plain_so value i
plain_so (G.lambda_param_slash slash_at) = refl
plain_so (G.lambda_param_star star_at) = refl
plain_so (G.lambda_param_args star_at name name_at) = refl
plain_so (G.lambda_param_kwargs stars_at name name_at) = refl
plain_so (G.lambda_param_name name name_at) = refl
plain_so (G.lambda_param_default name name_at equal_at value) = λ i. plain_so value i
plain_so (G.atom_name name name_at) = refl
plain_so (G.atom_int n s) = refl
plain_so (G.atom_float text s) = refl
plain_so (G.atom_string text s) = refl
plain_so (G.atom_bytes text s) = refl
plain_so (G.atom_ellipsis s) = refl
plain_so (G.atom_round opening_at inside closing_at) = λ i. plain_so inside i && true
plain_so (G.atom_square opening_at inside closing_at) = λ i. plain_so inside i && true
plain_so (G.atom_curly opening_at inside closing_at) = λ i. plain_so inside i && true
plain_so (G.atom_list_comprehension opening_at element clauses closing_at) = λ i. plain_so element i && (plain_so clauses i && true)
plain_so (G.atom_dict_comprehension opening_at pair clauses closing_at) = λ i. plain_so pair i && (plain_so clauses i && true)
plain_so (G.atom_f_string quote opening_at parts closing_at) = λ i. plain_so parts i && true
plain_so (G.vars_plain d) = λ i. plain_so d i
plain_so (G.vars_comma listed comma_at) = λ i. plain_so listed i && true
plain_so (G.for_clause for_at vars in_at source) = λ i. plain_so vars i && plain_so source i
plain_so (G.clauses_one d) = λ i. plain_so d i
plain_so (G.clauses_for clauses clause) = λ i. plain_so clauses i && plain_so clause i
plain_so (G.clauses_if clauses if_at test) = λ i. plain_so clauses i && plain_so test i
plain_so G.parts_none = refl
plain_so (G.parts_text parts text text_at) = λ i. plain_so parts i && true
plain_so (G.parts_replacement parts opening_at value conversion closing_at) = λ i. plain_so parts i && (plain_so value i && (plain_so conversion i && true))
plain_so G.conversion_default = refl
plain_so (G.conversion_absent bang_at) = refl
plain_so (G.conversion_name bang_at name name_at) = refl
plain_so G.optional_list_none = refl
plain_so (G.optional_list_plain d) = λ i. plain_so d i
plain_so (G.optional_list_comma listed comma_at) = λ i. plain_so listed i && true
plain_so (G.comma_list_one is_element element) = λ i. plain_so element i
plain_so (G.comma_list_more is_element listed comma_at element) = λ i. plain_so listed i && plain_so element i

-- ---- so the items are the tokens

abbrev AreTokens : Seq Lexeme → Type 0
AreTokens [] = ⊤
AreTokens (l ∷ ls) = (not (is_comment l.token) ≡ true) × AreTokens ls

left_true : (a b : Bool) → a && b ≡ true → a ≡ true
left_true true b h = refl
left_true false b h = h

right_true : (a b : Bool) → a && b ≡ true → b ≡ true
right_true true b h = h
right_true false b h = absurd (cc)

are_tokens : (a : RightSide) (more : Seq Lexeme) → plain a ≡ true → AreTokens more → AreTokens (side_yield a more)
are_tokens G.nothing more h t = t
are_tokens (G.word x s) more h t = (h, t)
are_tokens (a ⨾ b) more h t = are_tokens a (side_yield b more) (left_true (plain a) (plain b) h) (are_tokens b more (right_true (plain a) (plain b) h) t)
are_tokens (G.marked x a) more h t = are_tokens a more h t
are_tokens G.tokens_end more h t = t

no_comment : (b : Bool) → not b ≡ true → b ≡ false
no_comment true h = absurd (cc)
no_comment false h = refl

items_are : (ls : Seq Lexeme) → AreTokens ls → items (map (λ l. Ok l) ls) ≡ record { tokens = ls; ending = at_end }
items_are [] h = refl
items_are (l ∷ ls) h = rw (no_comment (is_comment l.token) h.0, items_are ls h.1) refl

-- the items of what a derivation yields
pub items_of_yield : {n : Nonterminal} (d : Derivation n) → items (map (λ l. Ok l) (yield_of d [])) ≡ record { tokens = yield_of d []; ending = at_end }
items_of_yield d = items_are (yield_of d []) (are_tokens (right_side d) [] (plain_so d) tt)
