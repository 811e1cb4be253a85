-- The height of the tree of a derivation, by what its tokens do.
use Rattle.std.proofs.Common.{◌≡◌, ℕ, ◌-◌, ◌<◌, List as Seq, Some, None, refl, arith}
use Rattle.std.specs.Bool.{⊤}
use Rattle.starlark_lexer.specs.Tokens.{Span, from_to}
use Rattle.starlark_lexer.specs.Tokens as tokens
use Rattle.starlark_tree.specs.Ast as t
use Rattle.starlark_tree.specs.Ast.{no_payload, Expression, expression_span, expressions_of, arguments_of, parameters_of, pairs_of}
use Rattle.starlark_spec.specs.Assignments.{assigned}
use Rattle.starlark_spec.specs.Grammar.{Nonterminal, ElementKind, ElementOf, PrecedenceLevel, OperandOf, Operator, CompSign, AssignSign, UnarySign}
use Rattle.starlark_spec.specs.Grammar.{Derivation, RightSide, right_side, sign_side, operator_token, unary_token, assign_token}
use Rattle.starlark_spec.specs.Grammar.RightSide.{word}
use Rattle.starlark_spec.specs.Grammar.OperandOf.{of_or, of_and, of_bit_or, of_xor, of_bit_and, of_shift, of_add, of_multiply}
use Rattle.starlark_spec.specs.Grammar.Operator.{or_sign, and_sign, pipe, caret, ampersand, less_less, greater_greater, plus, minus, star, slash}
use Rattle.starlark_spec.specs.Grammar.Operator.{slash_slash, percent}
use Rattle.starlark_spec.specs.Grammar.Comparison.{equal, not_equal, less, greater, less_or_equal, greater_or_equal, membership}
use Rattle.starlark_spec.specs.Grammar.CompSign.{comparison, not_in}
use Rattle.starlark_spec.specs.Grammar.UnarySign.{plus_sign, minus_sign, tilde_sign}
use Rattle.starlark_spec.specs.Grammar.AssignSign.{equal_sign, plus_equal, minus_equal, star_equal, slash_equal, slash_slash_equal, percent_equal}
use Rattle.starlark_spec.specs.Grammar.AssignSign.{ampersand_equal, pipe_equal, caret_equal, less_less_equal, greater_greater_equal}
use Rattle.starlark_spec.specs.Grammar.PrecedenceLevel.{or_precedence, and_precedence}
use Rattle.starlark_spec.specs.Grammar.ElementKind.{elements, arguments, entries, lambda_parameters, variables, symbols, def_parameters}
use Rattle.starlark_spec.specs.Grammar.ElementOf.{of_elements, of_arguments, of_entries, of_lambda_parameters, of_variables, of_symbols, of_def_parameters}
use Rattle.starlark_spec.specs.Grammar.Nonterminal.{Module, Stmt, Simple, Small, Test, Not, Comp, Unary, Primary, Atom, Sub, Bound, Arg, Entry, LambdaParam}
use Rattle.starlark_spec.specs.Grammar.Nonterminal.{FStringParts, Conversion, LoopVars, ForClause, Clauses, Smalls, TestList, Annotation, Note, Symbols, Sym}
use Rattle.starlark_spec.specs.Grammar.Nonterminal.{Suite, Block, Newlines, Rest, For, ReturnType, DefParam, LeftAssociative, OptionalList, CommaList}
use Rattle.starlark_spec.specs.Grammar.Derivation.{module_none, module_newline, module_stmt, stmt_simple, stmt_def, stmt_if, stmt_for, for_loop, rest_none}
use Rattle.starlark_spec.specs.Grammar.Derivation.{rest_elif, rest_else, suite_simple, suite_block, suite_open, newlines_none, newlines_more, block_first}
use Rattle.starlark_spec.specs.Grammar.Derivation.{block_newline, block_stmt, return_type_none, return_type_note, def_param_slash, def_param_star}
use Rattle.starlark_spec.specs.Grammar.Derivation.{def_param_args, def_param_kwargs, def_param_name, def_param_default, simple_line, simple_semicolon}
use Rattle.starlark_spec.specs.Grammar.Derivation.{smalls_one, smalls_more, small_return, small_return_value, small_break, small_continue, small_pass}
use Rattle.starlark_spec.specs.Grammar.Derivation.{small_load, small_test, small_assign, list_plain, list_comma, annotation_none, annotation_note}
use Rattle.starlark_spec.specs.Grammar.Derivation.{note_test, symbols_none, symbols_list, sym_same, sym_other, sym_alone, test_or, test_if, test_lambda}
use Rattle.starlark_spec.specs.Grammar.Derivation.{left_one, left_more, not_not, not_comp, comp_one, comp_two, unary_sign, unary_primary, primary_atom}
use Rattle.starlark_spec.specs.Grammar.Derivation.{primary_dot, primary_subscript, primary_call, sub_one, sub_two, sub_slice, sub_step, bound_none}
use Rattle.starlark_spec.specs.Grammar.Derivation.{bound_test, arg_test, arg_named, arg_star, arg_stars, entry, lambda_param_slash, lambda_param_star}
use Rattle.starlark_spec.specs.Grammar.Derivation.{lambda_param_args, lambda_param_kwargs, lambda_param_name, lambda_param_default, atom_name, atom_int}
use Rattle.starlark_spec.specs.Grammar.Derivation.{atom_float, atom_string, atom_bytes, atom_ellipsis, atom_round, atom_square, atom_curly}
use Rattle.starlark_spec.specs.Grammar.Derivation.{atom_list_comprehension, atom_dict_comprehension, atom_f_string, vars_plain, vars_comma, for_clause}
use Rattle.starlark_spec.specs.Grammar.Derivation.{clauses_one, clauses_for, clauses_if, parts_none, parts_text, parts_replacement, conversion_default}
use Rattle.starlark_spec.specs.Grammar.Derivation.{conversion_absent, conversion_name, optional_list_none, optional_list_plain, optional_list_comma}
use Rattle.starlark_spec.specs.Grammar.Derivation.{comma_list_one, comma_list_more}
use Rattle.starlark_spec.specs.Trees.{end_of_last, derivation_span, ElementTree, TreeOf, element_tree, operand_tree, operator_of}
use Rattle.starlark_spec.specs.Trees.{compared_by, grouped, block_span, tree, target_of, assign_operator, at}
use Rattle.starlark_spec.specs.Nested.{Each}
use Rattle.starlark_depth.specs.Depths.{effect}
use Rattle.starlark_depth.specs.Heights.{ExpressionWithin, MaybeWithin, MaybeTypeWithin, ArgumentWithin, ParameterWithin, ForWithin, ClauseWithin}
use Rattle.starlark_depth.specs.Heights.{StatementWithin, FormWithin}
use Rattle.starlark_depth.specs.declared.effect.Effect.TheVariants as effects
use Rattle.starlark_depth.specs.declared.levels.LevelKind.{LevelKind}
use Rattle.starlark_depth.specs.declared.levels.LevelKind.TheVariants.{Ordinary, Parameters, Variables}
use Rattle.starlark_depth.proofs.Inline.{Fits, any, not_variables, ordinary, Inline, Deep, Anything, empty, plain, deepens, seq, seq_deep, deep_seq}
use Rattle.starlark_depth.proofs.Inline.{deep_deep, flat}
use Rattle.starlark_depth.proofs.Inline.{map, map_deep, fit, node, leaf}
use Rattle.starlark_depth.proofs.Listing.{Listed, listed, map_listed, fit_listed, looser, same_listed, lists, comma, between, lambda_head, for_head}
use Rattle.starlark_depth.proofs.Listing.{same, same_deep, colon, membership_in, else_in}
use Rattle.starlark_depth.proofs.Lines.{Suites, Blocks, Rests, Empty, no_lines, more_lines, Starts, word_starts, first_starts, marked_starts, line, block}
use Rattle.starlark_depth.proofs.Statements.{same_suites, map_blocks, same_blocks, map_rests, same_rests, simple, headed, branching}
use Rattle.starlark_depth.proofs.Statements.{no_rest, elif_rest, else_rest, no_statements, next_line, one_after, after_lines}
use Rattle.starlark_depth.proofs.Parts.{SubscriptWithin, PairWithin, ComprehendedWithin, RestWithin, one_more, expressions_within, arguments_within}
use Rattle.starlark_depth.proofs.Parts.{parameters_within, pairs_within, clauses_within, block_or_one, assigned_within, if_within, target_within, taller}
use Rattle.starlark_depth.proofs.Parts.{tuple_or_one, tuple_or_one_deep, subscripted_node, signed_node}

-- ---- where each nonterminal may be, and what is low in its tree

abbrev pub operand_fits : PrecedenceLevel → Fits
operand_fits or_precedence = not_variables
operand_fits and_precedence = not_variables
operand_fits _ = any

abbrev pub element_fits : ElementKind → Fits
element_fits elements = not_variables
element_fits arguments = not_variables
element_fits entries = ordinary
element_fits lambda_parameters = not_variables
element_fits variables = any
element_fits symbols = any
element_fits def_parameters = ordinary

abbrev pub ItemWithin : (k : ElementKind) → ℕ → ElementTree k → Type 0
ItemWithin elements h x = ExpressionWithin h x
ItemWithin arguments h x = ArgumentWithin h x
ItemWithin entries h x = PairWithin h x
ItemWithin lambda_parameters h x = ParameterWithin h x
ItemWithin variables h x = ExpressionWithin h x
ItemWithin symbols h x = ⊤
ItemWithin def_parameters h x = ParameterWithin h x

abbrev pub Claim : (n : Nonterminal) → RightSide → TreeOf n → Type 0
Claim Module a v = Blocks a (λ h. Each (StatementWithin h) v)
Claim Stmt a v = Blocks a (λ h. StatementWithin h v)
Claim For a v = Blocks a (λ h. StatementWithin h v)
Claim Rest a v = Rests a (λ h. RestWithin h v)
Claim Suite a v = Suites a (λ h. StatementWithin h v)
Claim Newlines a v = Empty a
Claim Block a v = Blocks a (λ h. Each (StatementWithin h) v)
Claim ReturnType a v = Inline ordinary a (λ h. MaybeTypeWithin h v)
Claim DefParam a v = Inline ordinary a (λ h. ParameterWithin h v)
Claim Simple a v = Suites a (λ h. StatementWithin h v)
Claim Smalls a v = Listed 3 ordinary a (λ h. Each (StatementWithin h) v)
Claim Small a v = Listed 3 ordinary a (λ h. StatementWithin h v)
Claim TestList a v = Listed 2 not_variables a (λ h. ExpressionWithin h v)
Claim Annotation a v = Inline ordinary a (λ h. MaybeTypeWithin h v)
Claim Note a v = Inline not_variables a (λ h. ExpressionWithin h v)
Claim Symbols a v = Listed 1 ordinary a Anything
Claim Sym a v = Inline any a Anything
Claim Test a v = Inline not_variables a (λ h. ExpressionWithin h v)
Claim (LeftAssociative k) a v = Inline (operand_fits k) a (λ h. ExpressionWithin h v)
Claim Not a v = Inline not_variables a (λ h. ExpressionWithin h v)
Claim Comp a v = Inline not_variables a (λ h. ExpressionWithin h v)
Claim Unary a v = Inline any a (λ h. ExpressionWithin h v)
Claim Primary a v = Inline any a (λ h. ExpressionWithin h v)
Claim Sub a v = Listed 1 ordinary a (λ h. SubscriptWithin h v)
Claim Bound a v = Inline not_variables a (λ h. MaybeWithin h v)
Claim Arg a v = Inline not_variables a (λ h. ArgumentWithin h v)
Claim Entry a v = Inline ordinary a (λ h. PairWithin h v)
Claim LambdaParam a v = Inline not_variables a (λ h. ParameterWithin h v)
Claim Atom a v = Inline any a (λ h. ExpressionWithin h v)
Claim LoopVars a v = Listed 2 any a (λ h. ExpressionWithin h v)
Claim ForClause a v = Inline not_variables a (λ h. ForWithin h v)
Claim Clauses a v = Inline not_variables a (λ h. ComprehendedWithin h v)
Claim FStringParts a v = Listed 1 not_variables a (λ h. Each (ExpressionWithin h) v.values)
Claim Conversion a v = Inline any a Anything
Claim (OptionalList k) a v = Listed 1 (element_fits k) a (λ h. Each (ItemWithin k h) v)
Claim (CommaList k) a v = Listed 1 (element_fits k) a (λ h. Each (ItemWithin k h) v)

loosen : (k : LevelKind) → ordinary k → not_variables k
loosen Ordinary h = tt
loosen Parameters h = absurd h
loosen Variables h = absurd h

operand : {k : PrecedenceLevel} {n : Nonterminal} {a : RightSide} (u : OperandOf k n) (v : TreeOf n) → Claim n a v
    → Inline (operand_fits k) a (λ h. ExpressionWithin h (operand_tree u v))
operand of_or v c = c
operand of_and v c = c
operand of_bit_or v c = c
operand of_xor v c = c
operand of_bit_and v c = c
operand of_shift v c = c
operand of_add v c = c
operand of_multiply v c = c

element : {k : ElementKind} {n : Nonterminal} {a : RightSide} (u : ElementOf k n) (v : TreeOf n) → Claim n a v
    → Inline (element_fits k) a (λ h. ItemWithin k h (element_tree u v))
element of_elements v c = c
element of_arguments v c = c
element of_entries v c = c
element of_lambda_parameters v c = c
element of_variables v c = c
element of_symbols v c = c
element of_def_parameters v c = c

-- ---- operators

operator_deepens : {k : PrecedenceLevel} (o : Operator k) → effect (operator_token o) ≡ effects.Deepen
operator_deepens or_sign = refl
operator_deepens and_sign = refl
operator_deepens pipe = refl
operator_deepens caret = refl
operator_deepens ampersand = refl
operator_deepens less_less = refl
operator_deepens greater_greater = refl
operator_deepens plus = refl
operator_deepens minus = refl
operator_deepens star = refl
operator_deepens slash = refl
operator_deepens slash_slash = refl
operator_deepens percent = refl

unary_deepens : (o : UnarySign) → effect (unary_token o) ≡ effects.Deepen
unary_deepens plus_sign = refl
unary_deepens minus_sign = refl
unary_deepens tilde_sign = refl

assign_unchanged : (o : AssignSign) → effect (assign_token o) ≡ effects.Unchanged
assign_unchanged equal_sign = refl
assign_unchanged plus_equal = refl
assign_unchanged minus_equal = refl
assign_unchanged star_equal = refl
assign_unchanged slash_equal = refl
assign_unchanged slash_slash_equal = refl
assign_unchanged percent_equal = refl
assign_unchanged ampersand_equal = refl
assign_unchanged pipe_equal = refl
assign_unchanged caret_equal = refl
assign_unchanged less_less_equal = refl
assign_unchanged greater_greater_equal = refl

sign_deep : (o : CompSign) → Deep not_variables (sign_side o) Anything
sign_deep (comparison equal s) = deepens tokens.EqualEqual s refl
sign_deep (comparison not_equal s) = deepens tokens.BangEqual s refl
sign_deep (comparison less s) = deepens tokens.LessThan s refl
sign_deep (comparison greater s) = deepens tokens.GreaterThan s refl
sign_deep (comparison less_or_equal s) = deepens tokens.LessEqual s refl
sign_deep (comparison greater_or_equal s) = deepens tokens.GreaterEqual s refl
sign_deep (comparison membership s) = membership_in s
sign_deep (not_in s e) = map_deep (λ h g. tt) (deep_deep (deepens tokens.Not s refl) (membership_in e))

-- ---- the first token of a simple statement

abbrev IsFirst : Nonterminal → Type 0
IsFirst Simple = ⊤
IsFirst Smalls = ⊤
IsFirst Small = ⊤
IsFirst TestList = ⊤
IsFirst Test = ⊤
IsFirst (LeftAssociative k) = ⊤
IsFirst Not = ⊤
IsFirst Comp = ⊤
IsFirst Unary = ⊤
IsFirst Primary = ⊤
IsFirst Atom = ⊤
IsFirst (CommaList elements) = ⊤
IsFirst _ = ⊥

operand_first : {k : PrecedenceLevel} {n : Nonterminal} → OperandOf k n → IsFirst n
operand_first of_or = tt
operand_first of_and = tt
operand_first of_bit_or = tt
operand_first of_xor = tt
operand_first of_bit_and = tt
operand_first of_shift = tt
operand_first of_add = tt
operand_first of_multiply = tt

element_first : {k : ElementKind} {n : Nonterminal} → ElementOf k n → IsFirst (CommaList k) → IsFirst n
element_first of_elements h = tt
element_first of_arguments h = absurd h
element_first of_entries h = absurd h
element_first of_lambda_parameters h = absurd h
element_first of_variables h = absurd h
element_first of_symbols h = absurd h
element_first of_def_parameters h = absurd h

begins : {n : Nonterminal} (d : Derivation n) → IsFirst n → Starts (right_side d)
begins (simple_line d n) f = first_starts (word tokens.Newline n) (begins d tt)
begins (simple_semicolon d s n) f = first_starts _ (begins d tt)
begins (smalls_one d) f = begins d tt
begins (smalls_more d s x) f = first_starts _ (begins d tt)
begins (small_return r) f = word_starts tokens.Return r refl
begins (small_return_value r d) f = first_starts _ (word_starts tokens.Return r refl)
begins (small_break s) f = word_starts tokens.Break s refl
begins (small_continue s) f = word_starts tokens.Continue s refl
begins (small_pass s) f = word_starts tokens.Pass s refl
begins (small_load q o text i d c) f = first_starts _ (word_starts tokens.Load q refl)
begins (small_test d) f = begins d tt
begins (small_assign d n o s x) f = marked_starts _ (first_starts _ (begins d tt))
begins (list_plain d) f = begins d tt
begins (list_comma d c) f = marked_starts _ (first_starts _ (begins d tt))
begins (test_or d) f = begins d tt
begins (test_if d i c q x) f = first_starts _ (begins d tt)
begins (test_lambda q d c x) f = first_starts _ (word_starts tokens.Lambda q refl)
begins (left_one u d) f = begins d (operand_first u)
begins (left_more u d o s x) f = first_starts _ (begins d tt)
begins (not_not s d) f = first_starts _ (word_starts tokens.Not s refl)
begins (not_comp d) f = begins d tt
begins (comp_one d) f = begins d tt
begins (comp_two d o x) f = first_starts _ (begins d tt)
begins (unary_sign plus_sign s d) f = first_starts _ (word_starts tokens.Plus s refl)
begins (unary_sign minus_sign s d) f = first_starts _ (word_starts tokens.Minus s refl)
begins (unary_sign tilde_sign s d) f = first_starts _ (word_starts tokens.Tilde s refl)
begins (unary_primary d) f = begins d tt
begins (primary_atom d) f = begins d tt
begins (primary_dot d s text i) f = first_starts _ (begins d tt)
begins (primary_subscript d o x c) f = first_starts _ (begins d tt)
begins (primary_call d o x c) f = first_starts _ (begins d tt)
begins (atom_name text s) f = word_starts (tokens.Identifier text) s refl
begins (atom_int n s) f = word_starts (tokens.Int n) s refl
begins (atom_float text s) f = word_starts (tokens.Float text) s refl
begins (atom_string text s) f = word_starts (tokens.String text) s refl
begins (atom_bytes text s) f = word_starts (tokens.Bytes text) s refl
begins (atom_ellipsis s) f = word_starts tokens.Ellipsis s refl
begins (atom_round o d c) f = first_starts _ (word_starts tokens.OpeningRound o refl)
begins (atom_square o d c) f = first_starts _ (word_starts tokens.OpeningSquare o refl)
begins (atom_curly o d c) f = first_starts _ (word_starts tokens.OpeningCurly o refl)
begins (atom_list_comprehension o d x c) f = first_starts _ (word_starts tokens.OpeningSquare o refl)
begins (atom_dict_comprehension o d x c) f = first_starts _ (word_starts tokens.OpeningCurly o refl)
begins (atom_f_string q s d x) f = first_starts _ (word_starts (tokens.FStringStart q) s refl)
begins (comma_list_one u d) f = begins d (element_first u f)
begins (comma_list_more u d c x) f = first_starts _ (begins d f)
begins _ f = absurd f

-- ---- each production

grouped_low : (own : Span) (d : Derivation (OptionalList elements)) (v : Seq (Expression no_payload)) {a : RightSide} {F : Fits}
    → Deep F a (λ h. Each (ExpressionWithin h) v)
    → Inline F a (λ h. ExpressionWithin h (grouped own d v))
grouped_low own optional_list_none v c = node (t.Tuple (expressions_of v)) (map_deep (λ h g. expressions_within h v g) c)
grouped_low own (optional_list_plain d) v c = tuple_or_one_deep (derivation_span (optional_list_plain d)) v c
grouped_low own (optional_list_comma d s) v c =
    node (t.Tuple (expressions_of v)) (map_deep (λ h g. expressions_within h v g) c)

-- a statement of one line
form : {a : RightSide} (f : t.Form no_payload) → Listed 2 ordinary a (λ h. FormWithin h f) → Listed 3 ordinary a (λ h. (0 < h) × FormWithin (h - 1) f)
form f v = taller (omega arith) (omega arith) v

form_word : (w : tokens.Terminal) (s : Span) (f : t.Form no_payload) → effect w ≡ effects.Unchanged → ((h : ℕ) → FormWithin h f)
    → Listed 3 ordinary (word w s) (λ h. (0 < h) × FormWithin (h - 1) f)
form_word w s f is all = form f (map_listed (λ h g. all h) (looser (omega arith) (listed (plain w s is))))

pub claim : {n : Nonterminal} (d : Derivation n) → Claim n (right_side d) (tree d)
claim module_none = no_statements
claim (module_newline m s) = next_line s (claim m)
claim (module_stmt m d) = map_blocks (λ h g. one_more (StatementWithin h) (tree m) (tree d) g.0 g.1) (one_after (claim m) (claim d))
claim (stmt_simple d) = simple (begins d tt) (claim d)
claim (stmt_def d text i o ps c r k s) =
    map_blocks (λ h g. (g.0, (parameters_within (h - 1) (tree ps) g.1.1.1.0, g.1.1.1.1.0, g.2)))
    (same_blocks (λ z. refl) (headed (first_starts _ (word_starts tokens.Def d refl))
    (seq (flat (deepens tokens.Def d refl)) (seq (plain (tokens.Identifier text) i refl)
    (seq (flat (between tokens.OpeningRound o tokens.ClosingRound c refl refl (claim ps))) (seq (claim r) (colon k))))) (claim s)))
claim (stmt_if i d c s r) =
    map_blocks (λ h g. (g.0, if_within (h - 1) (tree d) (tree s) (tree r) g.1.1.0 g.2 g.3))
    (same_blocks (λ z. refl) (branching (first_starts _ (word_starts tokens.If i refl))
    (seq (flat (deepens tokens.If i refl)) (seq (fit loosen (claim d)) (colon c))) (claim s) (claim r)))
claim (stmt_for d) = claim d
claim (for_loop f d i x c s) =
    map_blocks (λ h g. (g.0, (target_within (h - 1) (tree d) g.1.0, g.1.1.0, g.2)))
    (same_blocks (λ z. refl) (headed (first_starts _ (first_starts _ (word_starts tokens.For f refl)))
    (seq (flat (for_head f i (claim d))) (seq (fit loosen (claim x)) (colon c))) (claim s)))
claim rest_none = no_rest
claim (rest_elif i d c s r) =
    map_rests (λ h g. (g.0, if_within (h - 1) (tree d) (tree s) (tree r) g.1.0 g.2 g.3))
    (same_rests (λ z. refl) (elif_rest i (seq (fit loosen (claim d)) (colon c)) (claim s) (claim r)))
claim (rest_else i c s) = else_rest i (colon c) (claim s)
claim (suite_simple d) = claim d
claim (suite_block n d i x q) = block n i (λ n R r u o more w. w.1) (λ h. block_or_one (block_span x) h (tree x)) (claim d) (claim x)
claim (suite_open n d i x) = block n i (λ n R r u o more w. w) (λ h. block_or_one (block_span x) h (tree x)) (claim d) (claim x)
claim newlines_none = no_lines
claim (newlines_more d s) = more_lines s (claim d)
claim (block_first d s) = map_blocks (λ h g. (g, tt)) (after_lines (claim d) (claim s))
claim (block_newline x s) = next_line s (claim x)
claim (block_stmt x s) = map_blocks (λ h g. one_more (StatementWithin h) (tree x) (tree s) g.0 g.1) (one_after (claim x) (claim s))
claim return_type_none = empty
claim (return_type_note s d) = map (λ h g. g.1) (seq (plain tokens.MinusGreater s refl) (fit loosen (claim d)))
claim (def_param_slash s) = flat (deepens tokens.Slash s refl)
claim (def_param_star s) = flat (deepens tokens.Star s refl)
claim (def_param_args s text i d) = map (λ h g. g.1.1) (seq (flat (deepens tokens.Star s refl)) (seq (plain (tokens.Identifier text) i refl) (claim d)))
claim (def_param_kwargs s text i d) = map (λ h g. g.1.1) (seq (plain tokens.StarStar s refl) (seq (plain (tokens.Identifier text) i refl) (claim d)))
claim (def_param_name text i d) = map (λ h g. (g.1, tt)) (seq (plain (tokens.Identifier text) i refl) (claim d))
claim (def_param_default text i d q v) =
    map (λ h g. (g.1.0, g.1.1.1))
    (seq (plain (tokens.Identifier text) i refl) (seq (claim d) (seq (plain tokens.Equal q refl) (fit loosen (claim v)))))
claim (simple_line d n) = line n (λ h. block_or_one (derivation_span (simple_line d n)) h (tree d)) (claim d)
claim (simple_semicolon d s n) =
    same_suites (λ z. refl) (line n (λ h. block_or_one (derivation_span (simple_semicolon d s n)) h (tree d)) (comma tokens.Semicolon s refl (claim d)))
claim (smalls_one d) = map_listed (λ h g. (g, tt)) (claim d)
claim (smalls_more d s x) =
    map_listed (λ h g. one_more (StatementWithin h) (tree d) (tree x) g.0 g.1)
    (same_listed (λ z. refl) (lists (comma tokens.Semicolon s refl (claim d)) (claim x)))
claim (small_return r) = form_word tokens.Return r (t.Return None) refl (λ h. tt)
claim (small_return_value r d) =
    form (t.Return (Some (tree d)))
    (map_listed (λ h g. g.1) (lists (looser (omega arith) (listed (plain tokens.Return r refl))) (fit_listed loosen (claim d))))
claim (small_break s) = form_word tokens.Break s t.Break refl (λ h. tt)
claim (small_continue s) = form_word tokens.Continue s t.Continue refl (λ h. tt)
claim (small_pass s) = form_word tokens.Pass s t.Pass refl (λ h. tt)
claim (small_load q o text i d c) =
    form (t.Load (at text i) (tree d) tt) (map_listed (λ h g. tt) (looser (omega arith) (listed
    (seq (plain tokens.Load q refl) (same (λ z. refl) (flat (between tokens.OpeningRound o tokens.ClosingRound c refl refl
    (lists (listed (plain (tokens.String text) i refl)) (claim d)))))))))
claim (small_test d) = form (t.Evaluate (tree d)) (looser (omega arith) (listed (fit loosen (claim d))))
claim (small_assign d n o s x) =
    same_listed (λ z. refl) (form (assigned (tree n) (assign_operator o) (tree x) (target_of (tree d)))
    (map_listed (λ h g. assigned_within h (tree n) (assign_operator o) (tree x) (target_of (tree d)) g.1.0 g.1.1.1 (target_within h (tree d) g.0))
    (lists (fit_listed loosen (claim d)) (lists (looser (omega arith) (listed (claim n)))
    (lists (looser (omega arith) (listed (plain (assign_token o) s (assign_unchanged o)))) (fit_listed loosen (claim x)))))))
claim (list_plain d) = tuple_or_one (derivation_span (list_plain d)) (tree d) (claim d)
claim (list_comma d c) =
    map_listed (λ h g. (g.0, expressions_within (h - 1) (tree d) g.1))
    (same_listed (λ z. refl) (taller (omega arith) (omega arith) (comma tokens.Comma c refl (claim d))))
claim annotation_none = empty
claim (annotation_note s d) = map (λ h g. g.1) (seq (colon s) (fit loosen (claim d)))
claim (note_test d) = same (λ z. refl) (claim d)
claim symbols_none = listed empty
claim (symbols_list c d) = map_listed (λ h g. tt) (same_listed (λ z. refl) (lists (comma tokens.Comma c refl (listed empty)) (fit_listed (λ k g. tt)
    (claim d))))
claim (sym_same text s) = plain (tokens.String text) s refl
claim (sym_other text i q their s) =
    map (λ h g. tt) (seq (plain (tokens.Identifier text) i refl) (seq (plain tokens.Equal q refl) (plain (tokens.String their) s refl)))
claim (sym_alone text i) = same (λ z. refl) (plain (tokens.Identifier text) i refl)
claim (test_or d) = claim d
claim (test_if d i c q f) =
    node (t.If (tree c) (tree d) (tree f)) (map_deep (λ h g. (g.1.1.0, g.0, g.1.1.1.1))
    (seq_deep (claim d) (deep_seq (deepens tokens.If i refl) (flat (seq_deep (claim c) (deep_seq (else_in q) (claim f)))))))
claim (test_lambda q d c x) =
    node (t.Lambda (parameters_of (tree d)) (tree x) tt) (map_deep (λ h g. (parameters_within h (tree d) g.0, g.1))
    (same_deep (λ z. refl) (deep_seq (lambda_head q c (claim d)) (claim x))))
claim (left_one u d) = operand u (tree d) (claim d)
claim (left_more u d o s x) =
    node (t.Op (tree d) (operator_of o) (operand_tree u (tree x))) (map_deep (λ h g. (g.0, g.1.1))
    (seq_deep (claim d) (deep_seq (deepens (operator_token o) s (operator_deepens o)) (operand u (tree x) (claim x)))))
claim (not_not s d) = node (t.Not (tree d)) (map_deep (λ h g. g.1) (deep_seq (deepens tokens.Not s refl) (claim d)))
claim (not_comp d) = claim d
claim (comp_one d) = fit (λ k g. tt) (claim d)
claim (comp_two d o x) =
    node (t.Op (tree d) (compared_by o) (tree x)) (map_deep (λ h g. (g.0, g.1.1))
    (seq_deep (fit (λ k g. tt) (claim d)) (deep_seq (sign_deep o) (fit (λ k g. tt) (claim x)))))
claim (unary_sign o s d) = signed_node o (from_to s.begin (end_of_last (right_side d) s.end)) (tree d) (map_deep (λ h g. g.1) (deep_seq (deepens
    (unary_token o) s (unary_deepens o)) (claim d)))
claim (unary_primary d) = claim d
claim (primary_atom d) = claim d
claim (primary_dot d s text i) =
    node (t.Dot (tree d) (at text i)) (map_deep (λ h g. g.0)
    (seq_deep (claim d) (deep_seq (deepens tokens.Dot s refl) (plain (tokens.Identifier text) i refl))))
claim (primary_subscript d o x c) =
    subscripted_node (from_to (expression_span (tree d)).begin c.end) (tree d) (tree x) (seq_deep (claim d)
    (between tokens.OpeningSquare o tokens.ClosingSquare c refl refl (claim x)))
claim (primary_call d o x c) =
    node (t.Call (tree d) (arguments_of (tree x))) (map_deep (λ h g. (g.0, arguments_within h (tree x) g.1))
    (seq_deep (claim d) (between tokens.OpeningRound o tokens.ClosingRound c refl refl (fit_listed loosen (claim x)))))
claim (sub_one d) = listed (fit loosen (claim d))
claim (sub_two d c x) = same_listed (λ z. refl) (lists (comma tokens.Comma c refl (listed (fit loosen (claim d)))) (listed (fit loosen (claim x))))
claim (sub_slice d c x) = map_listed (λ h g. (g.0, g.1.1, tt)) (listed (seq (fit loosen (claim d)) (seq (colon c) (fit loosen (claim x)))))
claim (sub_step d c x s f) =
    map_listed (λ h g. (g.0, g.1.1.0, g.1.1.1.1))
    (listed (seq (fit loosen (claim d)) (seq (colon c) (seq (fit loosen (claim x)) (seq (colon s) (fit loosen (claim f)))))))
claim bound_none = empty
claim (bound_test d) = claim d
claim (arg_test d) = claim d
claim (arg_named text s q d) = map (λ h g. g.1.1) (seq (plain (tokens.Identifier text) s refl) (seq (plain tokens.Equal q refl) (claim d)))
claim (arg_star s d) = map (λ h g. g.1) (seq (flat (deepens tokens.Star s refl)) (claim d))
claim (arg_stars s d) = map (λ h g. g.1) (seq (plain tokens.StarStar s refl) (claim d))
claim (entry d c x) = map (λ h g. (g.0, g.1.1)) (seq (fit loosen (claim d)) (seq (colon c) (fit loosen (claim x))))
claim (lambda_param_slash s) = flat (deepens tokens.Slash s refl)
claim (lambda_param_star s) = flat (deepens tokens.Star s refl)
claim (lambda_param_args s text i) = map (λ h g. tt) (seq (flat (deepens tokens.Star s refl)) (plain (tokens.Identifier text) i refl))
claim (lambda_param_kwargs s text i) = map (λ h g. tt) (seq (plain tokens.StarStar s refl) (plain (tokens.Identifier text) i refl))
claim (lambda_param_name text i) = map (λ h g. (tt, tt)) (plain (tokens.Identifier text) i refl)
claim (lambda_param_default text i q d) = map (λ h g. (tt, g.1.1)) (seq (plain (tokens.Identifier text) i refl) (seq (plain tokens.Equal q refl) (claim d)))
claim (atom_name text s) = leaf (t.Identifier (at text s) tt) (λ h. tt) (plain (tokens.Identifier text) s refl)
claim (atom_int n s) = leaf (t.Constant (t.Int s n)) (λ h. tt) (plain (tokens.Int n) s refl)
claim (atom_float text s) = leaf (t.Constant (t.Float (at text s))) (λ h. tt) (plain (tokens.Float text) s refl)
claim (atom_string text s) = leaf (t.Constant (t.String (at text s))) (λ h. tt) (plain (tokens.String text) s refl)
claim (atom_bytes text s) = leaf (t.Constant (t.Bytes (at text s))) (λ h. tt) (plain (tokens.Bytes text) s refl)
claim (atom_ellipsis s) = leaf (t.Constant t.Ellipsis) (λ h. tt) (plain tokens.Ellipsis s refl)
claim (atom_round o d c) =
    grouped_low (from_to o.begin c.end) d (tree d) (between tokens.OpeningRound o tokens.ClosingRound c refl refl (fit_listed loosen (claim d)))
claim (atom_square o d c) =
    node (t.List (expressions_of (tree d))) (map_deep (λ h g. expressions_within h (tree d) g)
    (between tokens.OpeningSquare o tokens.ClosingSquare c refl refl (fit_listed loosen (claim d))))
claim (atom_curly o d c) =
    node (t.Dict (pairs_of (tree d))) (map_deep (λ h g. pairs_within h (tree d) g)
    (between tokens.OpeningCurly o tokens.ClosingCurly c refl refl (claim d)))
claim (atom_list_comprehension o d x c) =
    node (t.ListComprehension (tree d) (tree x).0 (t.clauses_of (tree x).1)) (map_deep (λ h g. (g.0, g.1.0, clauses_within h (tree x).1 g.1.1))
    (same_deep (λ z. refl) (between tokens.OpeningSquare o tokens.ClosingSquare c refl refl (listed (fit loosen (seq (claim d) (claim x)))))))
claim (atom_dict_comprehension o d x c) =
    node (t.DictComprehension (tree d).0 (tree d).1 (tree x).0 (t.clauses_of (tree x).1))
    (map_deep (λ h g. (g.0.0, g.0.1, g.1.0, clauses_within h (tree x).1 g.1.1))
    (same_deep (λ z. refl) (between tokens.OpeningCurly o tokens.ClosingCurly c refl refl (listed (seq (claim d) (fit loosen (claim x)))))))
claim (atom_f_string q s d x) =
    node (t.FString s (at (tree d).text s) (expressions_of (tree d).values)) (map_deep (λ h g. expressions_within h (tree d).values g)
    (between (tokens.FStringStart q) s tokens.FStringEnd x refl refl (fit_listed loosen (claim d))))
claim (vars_plain d) = tuple_or_one (derivation_span (vars_plain d)) (tree d) (claim d)
claim (vars_comma d c) =
    map_listed (λ h g. (g.0, expressions_within (h - 1) (tree d) g.1))
    (same_listed (λ z. refl) (taller (omega arith) (omega arith) (comma tokens.Comma c refl (claim d))))
claim (for_clause f d i x) = map (λ h g. (target_within h (tree d) g.0, g.1)) (same (λ z. refl) (flat (deep_seq (for_head f i (claim d)) (claim x))))
claim (clauses_one d) = map (λ h g. (g, tt)) (claim d)
claim (clauses_for d x) = map (λ h g. (g.0.0, one_more (ClauseWithin h) (tree d).1 (t.for_clause (tree x)) g.0.1 g.1)) (seq (claim d) (claim x))
claim (clauses_if d i x) =
    map (λ h g. (g.0.0, one_more (ClauseWithin h) (tree d).1 (t.if_clause (tree x)) g.0.1 g.1.1))
    (seq (claim d) (seq (flat (deepens tokens.If i refl)) (claim x)))
claim parts_none = listed empty
claim (parts_text d text s) = map_listed (λ h g. g.0) (lists (claim d) (listed (plain (tokens.FStringText text) s refl)))
claim (parts_replacement d o x c y) =
    map_listed (λ h g. one_more (ExpressionWithin h) (tree d).values (tree x) g.0 g.1.1.0)
    (same_listed (λ z. refl) (comma tokens.FStringExprEnd y refl
    (lists (claim d) (listed (seq (plain tokens.FStringExprStart o refl) (seq (claim x) (fit (λ k g. tt) (claim c))))))))
claim conversion_default = empty
claim (conversion_absent s) = same (λ z. refl) (plain tokens.FStringBang s refl)
claim (conversion_name s text i) = map (λ h g. tt) (same (λ z. refl) (seq (plain tokens.FStringBang s refl) (plain (tokens.Identifier text) i refl)))
claim optional_list_none = listed empty
claim (optional_list_plain d) = claim d
claim (optional_list_comma d c) = comma tokens.Comma c refl (claim d)
claim (comma_list_one u d) = map_listed (λ h g. (g, tt)) (listed (element u (tree d) (claim d)))
claim (comma_list_more {k = k} u d c x) =
    map_listed (λ h g. one_more (ItemWithin k h) (tree d) (element_tree u (tree x)) g.0 g.1)
    (same_listed (λ z. refl) (lists (comma tokens.Comma c refl (claim d)) (listed (element u (tree x) (claim x)))))
