-- Derivations without their spans, and with other spans.
use Rattle.std.proofs.Common.{◌≡◌, List as Seq, [], ◌∷◌, refl, ap, ◌∙◌}
use Rattle.starlark_lexer.specs.Tokens.{Span, Terminal, Lexeme, lexeme, nowhere}
use Rattle.starlark_lexer.specs.Tokens as tokens
use Rattle.starlark_spec.specs.Grammar.{Nonterminal, Derivation}
use Rattle.starlark_spec.specs.Grammar.{CompSign, right_side, sign_side, side_yield, yield_of, comparison_token}
use Rattle.starlark_spec.specs.Grammar as G
use Rattle.starlark_source.specs.SourceTokens.{terminals}
use Rattle.starlark_source.proofs.ReadBack.Writing.{side_tokens, IsClosed}

abbrev pub unplaced_sign : CompSign → CompSign
unplaced_sign (G.comparison c s) = G.comparison c nowhere
unplaced_sign (G.not_in a b) = G.not_in nowhere nowhere

-- a derivation without its spans
abbrev pub unplaced : {n : Nonterminal} → Derivation n → Derivation n
unplaced G.module_none = G.module_none
unplaced (G.module_newline before newline_at) = G.module_newline (unplaced before) nowhere
unplaced (G.module_stmt before stmt) = G.module_stmt (unplaced before) (unplaced stmt)
unplaced (G.stmt_simple d) = G.stmt_simple (unplaced d)
unplaced (G.stmt_def def_at name name_at opening_at params closing_at return_type colon_at suite) =
    G.stmt_def nowhere name nowhere nowhere (unplaced params) nowhere (unplaced return_type) nowhere (unplaced suite)
unplaced (G.stmt_if if_at test colon_at suite rest) = G.stmt_if nowhere (unplaced test) nowhere (unplaced suite) (unplaced rest)
unplaced (G.stmt_for d) = G.stmt_for (unplaced d)
unplaced (G.for_loop for_at vars in_at source colon_at suite) = G.for_loop nowhere (unplaced vars) nowhere (unplaced source) nowhere (unplaced suite)
unplaced G.rest_none = G.rest_none
unplaced (G.rest_elif elif_at test colon_at suite rest) = G.rest_elif nowhere (unplaced test) nowhere (unplaced suite) (unplaced rest)
unplaced (G.rest_else else_at colon_at suite) = G.rest_else nowhere nowhere (unplaced suite)
unplaced (G.suite_simple d) = G.suite_simple (unplaced d)
unplaced (G.suite_block newline_at newlines indent_at block dedent_at) = G.suite_block nowhere (unplaced newlines) nowhere (unplaced block) nowhere
unplaced (G.suite_open newline_at newlines indent_at block) = G.suite_open nowhere (unplaced newlines) nowhere (unplaced block)
unplaced G.newlines_none = G.newlines_none
unplaced (G.newlines_more newlines newline_at) = G.newlines_more (unplaced newlines) nowhere
unplaced (G.block_first newlines stmt) = G.block_first (unplaced newlines) (unplaced stmt)
unplaced (G.block_newline block newline_at) = G.block_newline (unplaced block) nowhere
unplaced (G.block_stmt block stmt) = G.block_stmt (unplaced block) (unplaced stmt)
unplaced G.return_type_none = G.return_type_none
unplaced (G.return_type_note arrow_at note) = G.return_type_note nowhere (unplaced note)
unplaced (G.def_param_slash slash_at) = G.def_param_slash nowhere
unplaced (G.def_param_star star_at) = G.def_param_star nowhere
unplaced (G.def_param_args star_at name name_at annotation) = G.def_param_args nowhere name nowhere (unplaced annotation)
unplaced (G.def_param_kwargs stars_at name name_at annotation) = G.def_param_kwargs nowhere name nowhere (unplaced annotation)
unplaced (G.def_param_name name name_at annotation) = G.def_param_name name nowhere (unplaced annotation)
unplaced (G.def_param_default name name_at annotation equal_at value) = G.def_param_default name nowhere (unplaced annotation) nowhere (unplaced value)
unplaced (G.simple_line smalls newline_at) = G.simple_line (unplaced smalls) nowhere
unplaced (G.simple_semicolon smalls semicolon_at newline_at) = G.simple_semicolon (unplaced smalls) nowhere nowhere
unplaced (G.smalls_one d) = G.smalls_one (unplaced d)
unplaced (G.smalls_more smalls semicolon_at small) = G.smalls_more (unplaced smalls) nowhere (unplaced small)
unplaced (G.small_return return_at) = G.small_return nowhere
unplaced (G.small_return_value return_at value) = G.small_return_value nowhere (unplaced value)
unplaced (G.small_break s) = G.small_break nowhere
unplaced (G.small_continue s) = G.small_continue nowhere
unplaced (G.small_pass s) = G.small_pass nowhere
unplaced (G.small_load load_at opening_at file file_at loaded closing_at) = G.small_load nowhere nowhere file nowhere (unplaced loaded) nowhere
unplaced (G.small_test d) = G.small_test (unplaced d)
unplaced (G.small_assign left annotation sign sign_at right) = G.small_assign (unplaced left) (unplaced annotation) sign nowhere (unplaced right)
unplaced (G.list_plain d) = G.list_plain (unplaced d)
unplaced (G.list_comma listed comma_at) = G.list_comma (unplaced listed) nowhere
unplaced G.annotation_none = G.annotation_none
unplaced (G.annotation_note colon_at note) = G.annotation_note nowhere (unplaced note)
unplaced (G.note_test d) = G.note_test (unplaced d)
unplaced G.symbols_none = G.symbols_none
unplaced (G.symbols_list comma_at loaded) = G.symbols_list nowhere (unplaced loaded)
unplaced (G.sym_same name name_at) = G.sym_same name nowhere
unplaced (G.sym_other name name_at equal_at their their_at) = G.sym_other name nowhere nowhere their nowhere
unplaced (G.sym_alone name name_at) = G.sym_alone name nowhere
unplaced (G.test_or d) = G.test_or (unplaced d)
unplaced (G.test_if value if_at test else_at other) = G.test_if (unplaced value) nowhere (unplaced test) nowhere (unplaced other)
unplaced (G.test_lambda lambda_at params colon_at body) = G.test_lambda nowhere (unplaced params) nowhere (unplaced body)
unplaced (G.left_one is_operand operand) = G.left_one is_operand (unplaced operand)
unplaced (G.left_more is_operand left sign sign_at right) = G.left_more is_operand (unplaced left) sign nowhere (unplaced right)
unplaced (G.not_not not_at operand) = G.not_not nowhere (unplaced operand)
unplaced (G.not_comp d) = G.not_comp (unplaced d)
unplaced (G.comp_one d) = G.comp_one (unplaced d)
unplaced (G.comp_two left sign right) = G.comp_two (unplaced left) (unplaced_sign sign) (unplaced right)
unplaced (G.unary_sign sign sign_at operand) = G.unary_sign sign nowhere (unplaced operand)
unplaced (G.unary_primary d) = G.unary_primary (unplaced d)
unplaced (G.primary_atom d) = G.primary_atom (unplaced d)
unplaced (G.primary_dot operand dot_at name name_at) = G.primary_dot (unplaced operand) nowhere name nowhere
unplaced (G.primary_subscript operand opening_at sub closing_at) = G.primary_subscript (unplaced operand) nowhere (unplaced sub) nowhere
unplaced (G.primary_call operand opening_at passed closing_at) = G.primary_call (unplaced operand) nowhere (unplaced passed) nowhere
unplaced (G.sub_one d) = G.sub_one (unplaced d)
unplaced (G.sub_two first comma_at second) = G.sub_two (unplaced first) nowhere (unplaced second)
unplaced (G.sub_slice begin colon_at stop) = G.sub_slice (unplaced begin) nowhere (unplaced stop)
unplaced (G.sub_step begin colon_at stop step_at step) = G.sub_step (unplaced begin) nowhere (unplaced stop) nowhere (unplaced step)
unplaced G.bound_none = G.bound_none
unplaced (G.bound_test d) = G.bound_test (unplaced d)
unplaced (G.arg_test d) = G.arg_test (unplaced d)
unplaced (G.arg_named name name_at equal_at value) = G.arg_named name nowhere nowhere (unplaced value)
unplaced (G.arg_star star_at value) = G.arg_star nowhere (unplaced value)
unplaced (G.arg_stars stars_at value) = G.arg_stars nowhere (unplaced value)
unplaced (G.entry key colon_at value) = G.entry (unplaced key) nowhere (unplaced value)
unplaced (G.lambda_param_slash slash_at) = G.lambda_param_slash nowhere
unplaced (G.lambda_param_star star_at) = G.lambda_param_star nowhere
unplaced (G.lambda_param_args star_at name name_at) = G.lambda_param_args nowhere name nowhere
unplaced (G.lambda_param_kwargs stars_at name name_at) = G.lambda_param_kwargs nowhere name nowhere
unplaced (G.lambda_param_name name name_at) = G.lambda_param_name name nowhere
unplaced (G.lambda_param_default name name_at equal_at value) = G.lambda_param_default name nowhere nowhere (unplaced value)
unplaced (G.atom_name name name_at) = G.atom_name name nowhere
unplaced (G.atom_int n s) = G.atom_int n nowhere
unplaced (G.atom_float text s) = G.atom_float text nowhere
unplaced (G.atom_string text s) = G.atom_string text nowhere
unplaced (G.atom_bytes text s) = G.atom_bytes text nowhere
unplaced (G.atom_ellipsis s) = G.atom_ellipsis nowhere
unplaced (G.atom_round opening_at inside closing_at) = G.atom_round nowhere (unplaced inside) nowhere
unplaced (G.atom_square opening_at inside closing_at) = G.atom_square nowhere (unplaced inside) nowhere
unplaced (G.atom_curly opening_at inside closing_at) = G.atom_curly nowhere (unplaced inside) nowhere
unplaced (G.atom_list_comprehension opening_at element clauses closing_at) = G.atom_list_comprehension nowhere (unplaced element) (unplaced clauses) nowhere
unplaced (G.atom_dict_comprehension opening_at pair clauses closing_at) = G.atom_dict_comprehension nowhere (unplaced pair) (unplaced clauses) nowhere
unplaced (G.atom_f_string quote opening_at parts closing_at) = G.atom_f_string quote nowhere (unplaced parts) nowhere
unplaced (G.vars_plain d) = G.vars_plain (unplaced d)
unplaced (G.vars_comma listed comma_at) = G.vars_comma (unplaced listed) nowhere
unplaced (G.for_clause for_at vars in_at source) = G.for_clause nowhere (unplaced vars) nowhere (unplaced source)
unplaced (G.clauses_one d) = G.clauses_one (unplaced d)
unplaced (G.clauses_for clauses clause) = G.clauses_for (unplaced clauses) (unplaced clause)
unplaced (G.clauses_if clauses if_at test) = G.clauses_if (unplaced clauses) nowhere (unplaced test)
unplaced G.parts_none = G.parts_none
unplaced (G.parts_text parts text text_at) = G.parts_text (unplaced parts) text nowhere
unplaced (G.parts_replacement parts opening_at value conversion closing_at) =
    G.parts_replacement (unplaced parts) nowhere (unplaced value) (unplaced conversion) nowhere
unplaced G.conversion_default = G.conversion_default
unplaced (G.conversion_absent bang_at) = G.conversion_absent nowhere
unplaced (G.conversion_name bang_at name name_at) = G.conversion_name nowhere name nowhere
unplaced G.optional_list_none = G.optional_list_none
unplaced (G.optional_list_plain d) = G.optional_list_plain (unplaced d)
unplaced (G.optional_list_comma listed comma_at) = G.optional_list_comma (unplaced listed) nowhere
unplaced (G.comma_list_one is_element element) = G.comma_list_one is_element (unplaced element)
unplaced (G.comma_list_more is_element listed comma_at element) = G.comma_list_more is_element (unplaced listed) nowhere (unplaced element)

-- ---- a token

pub record Word (t : Terminal) (ls : Seq Lexeme) (ts : Seq Terminal) : Type 0 where
  pub span : Span
  pub rest : Seq Lexeme
  pub yields : ls ≡ lexeme t span ∷ rest
  pub left : terminals rest ≡ ts

word_at : (t : Terminal) (l : Lexeme) (ls : Seq Lexeme) (ts : Seq Terminal) → l.token ≡ t → terminals ls ≡ ts → Word t (l ∷ ls) ts
word_at t l ls ts is left = record { span = l.span; rest = ls; yields = ap (λ x. lexeme x l.span ∷ ls) is; left = left }

head_of : Terminal → Seq Terminal → Terminal
head_of t [] = t
head_of t (x ∷ xs) = x

tail_of : Seq Terminal → Seq Terminal
tail_of [] = []
tail_of (x ∷ xs) = xs

pub word_of : (t : Terminal) (ls : Seq Lexeme) {ts : Seq Terminal} → terminals ls ≡ t ∷ ts → Word t ls ts
unfolding head_of tail_of
word_of t [] h = absurd (cc)
word_of t (l ∷ ls) {ts = ts} h = word_at t l ls ts (ap (head_of t) h) (ap tail_of h)

-- ---- a derivation

-- the same derivation apart from spans, of these lexemes, and what is left
pub record Moved {n : Nonterminal} (d : Derivation n) (ls : Seq Lexeme) (ts : Seq Terminal) : Type 0 where
  pub derivation : Derivation n
  pub rest : Seq Lexeme
  pub yields : ls ≡ yield_of derivation rest
  pub left : terminals rest ≡ ts
  pub same : unplaced derivation ≡ unplaced d
  pub closed : IsClosed (right_side derivation)

pub record MovedSign (sign : CompSign) (ls : Seq Lexeme) (ts : Seq Terminal) : Type 0 where
  pub sign_there : CompSign
  pub rest : Seq Lexeme
  pub yields : ls ≡ side_yield (sign_side sign_there) rest
  pub left : terminals rest ≡ ts
  pub same : unplaced_sign sign_there ≡ unplaced_sign sign
  pub closed : IsClosed (sign_side sign_there)

pub moved_sign : (sign : CompSign) (ls : Seq Lexeme) {ts : Seq Terminal} → terminals ls ≡ side_tokens (sign_side sign) ts → MovedSign sign ls ts
moved_sign (G.comparison c s) ls h =
    let a = word_of (comparison_token c) ls h in
    record { sign_there = G.comparison c a.span; rest = a.rest; yields = a.yields; left = a.left; same = refl; closed = tt }
moved_sign (G.not_in s r) ls h =
    let a = word_of tokens.Not ls h in
    let b = word_of tokens.In a.rest a.left in
    record {
      sign_there = G.not_in a.span b.span;
      rest = b.rest;
      yields = a.yields ∙ ap (λ l. lexeme tokens.Not a.span ∷ l) b.yields;
      left = b.left;
      same = refl;
      closed = (tt, tt);
    }

-- this holds for any lexemes with its tokens
pub record Moves {n : Nonterminal} (d : Derivation n) : Type 0 where
  pub moves : IsClosed (right_side d) → (ls : Seq Lexeme) (ts : Seq Terminal) → terminals ls ≡ side_tokens (right_side d) ts → Moved d ls ts

-- what is built from a value, which keeps its name
pub given : {A B : Type 0} → A → (A → B) → B
given x f = f x
