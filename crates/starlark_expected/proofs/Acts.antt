-- The words that are due in a state of the machine do at a token what the machine does.
use Rattle.std.proofs.Common.{Bool, false, [], ◌∷◌, refl, sym, is_some}
use Rattle.starlark_lexer.specs.Tokens.{Lexeme}
use Rattle.starlark_lexer.specs.declared.kind.Kind.{Kind}
use Rattle.starlark_lexer.specs.declared.kind.Kind.TheVariants as kinds
use Rattle.starlark_lexer.specs.Kinds.{is}
use Rattle.starlark_spec.specs.Grammar.PrecedenceLevel.{or_precedence, and_precedence, bit_or_precedence, xor_precedence, bit_and_precedence}
use Rattle.starlark_spec.specs.Grammar.PrecedenceLevel.{shift_precedence, add_precedence, multiply_precedence}
use Rattle.starlark_spec.specs.Grammar.ElementKind.{elements, arguments, entries, lambda_parameters, variables, symbols, def_parameters}
use Rattle.starlark_spec.specs.Grammar.OperandOf.{of_or, of_and, of_bit_or, of_xor, of_bit_and, of_shift, of_add, of_multiply}
use Rattle.starlark_spec.specs.Grammar.ElementOf.{of_elements, of_arguments, of_entries, of_lambda_parameters, of_variables, of_symbols, of_def_parameters}
use Rattle.starlark_spec.specs.Grammar.Derivation.{comma_list_one, comma_list_more}
use Rattle.starlark_spec.specs.Grammar.Nonterminal.{Module, Stmt, Simple, Small, Not, Comp, Primary, Atom, Sub, Bound, Arg, Entry}
use Rattle.starlark_spec.specs.Grammar.Nonterminal.{Test as TestN, Unary as UnaryN, Suite as SuiteN, Symbols as SymbolsN, Block, Newlines, Rest, For}
use Rattle.starlark_spec.specs.Grammar.Nonterminal.{LambdaParam, FStringParts, Conversion, LoopVars, ForClause, Clauses, Smalls, TestList, Annotation}
use Rattle.starlark_spec.specs.Grammar.Nonterminal.{Note, Sym, ReturnType, DefParam, LeftAssociative, OptionalList, CommaList}
use Rattle.starlark_spec.specs.Machine.States.{State}
use Rattle.starlark_spec.specs.Machine.States as M
use Rattle.starlark_spec.specs.Machine.Firsts.{starts_operand, starts_test, starts_small, comparison_at, compares, assign_at}
use Rattle.starlark_spec.specs.Machine.Moves.{move, alone, single, single_entry}
use Rattle.starlark_expected.specs.declared.word.Level.TheVariants.{Or, And, BitOr, Xor, BitAnd, Shift, Add, Multiply}
use Rattle.starlark_expected.specs.declared.word.Word.TheVariants.{Token, ModuleTail, LineEnd, TupleTail, Test, OperatorTail, ComparisonTail, SuffixTail}
use Rattle.starlark_expected.specs.declared.word.Word.TheVariants.{SubscriptTail, NamedTail, VariablesTail, ClausesTail}
use Rattle.starlark_expected.specs.Words.{atom_start, unary_start, not_start, test_start, bit_or_start, operands_start}
use Rattle.starlark_expected.specs.Words.{clause_start, small_start, simple_start, statement_start}
use Rattle.starlark_expected.proofs.Shown.{looked, due, chain, shown}
use Rattle.starlark_expected.proofs.Moves.{Acts, block_end_acts, by_follow, by_must, colon_same, due_if, fails_so, finishes_so, if_acts, keeps_so}
use Rattle.starlark_expected.proofs.Moves.{keeps_unnamed, takes_so, takes_unnamed}
use Rattle.starlark_expected.proofs.FirstTokens.{atom_acts, def_param_acts, lambda_param_acts, not_acts, small_acts, statement_acts, symbol_acts}
use Rattle.starlark_expected.proofs.FirstTokens.{test_acts, unary_acts}
use Rattle.starlark_expected.proofs.ReadMoves.{annotation_acts, argument_acts, comparison_acts, curly_acts, left_there, operates_at, small_list_acts}
use Rattle.starlark_expected.proofs.ReadMoves.{square_acts}
use Rattle.starlark_expected.proofs.ListMoves.{after_comma_acts, argument_due, block_place, block_tail_acts, done_list_acts, done_tuple_acts}
use Rattle.starlark_expected.proofs.ListMoves.{list_place, read_list_acts, tuple_comma_acts, tuple_place}

pub acts : (s : State Module) (k : Kind) (x : Lexeme) (v : Bool) → Acts (move s (looked k x v)) k (shown s k)
acts (M.read Module p) k x v = keeps_so refl
acts (M.read Stmt p) k x v = statement_acts p x k
acts (M.read For p) k x v = due_if (is k kinds.For) _ _ _ _ _ (takes_so (λ j. by_must (bit_or_start j) _ _ _ _)) fails_so
acts (M.read Rest p) k x v =
    if_acts (is k kinds.Elif) _ _ _ _ (takes_so (λ j. by_must (test_start j) _ _ _ _))
    (if_acts (is k kinds.Else) _ _ _ _ (takes_so (λ j. refl)) (keeps_so refl))
acts (M.read SuiteN p) k x v = if_acts (is k kinds.Newline) _ _ _ _ (takes_so (λ j. refl)) (keeps_so (sym (by_must (simple_start k) _ _ _ _)))
acts (M.read Newlines p) k x v = keeps_so refl
acts (M.read Block p) k x v = keeps_so refl
acts (M.read ReturnType p) k x v = if_acts (is k kinds.MinusGreater) _ _ _ _ (takes_so (λ j. by_must (test_start j) _ _ _ _)) (keeps_so refl)
acts (M.read DefParam p) k x v = def_param_acts p x k
acts (M.read Simple p) k x v = keeps_so (sym (by_follow (small_start k) (LineEnd ∷ []) _ _ _ _))
acts (M.read Smalls p) k x v = keeps_so refl
acts (M.read Small p) k x v = small_acts p x k
acts (M.read TestList p) k x v = keeps_so refl
acts (M.read Annotation p) k x v = if_acts (is k kinds.Colon) _ _ _ _ (takes_so (λ j. by_must (test_start j) _ _ _ _)) (keeps_so refl)
acts (M.read Note p) k x v = keeps_so refl
acts (M.read SymbolsN p) k x v = if_acts (is k kinds.Comma) _ _ _ _ (takes_so (λ j. refl)) (keeps_so refl)
acts (M.read Sym p) k x v = symbol_acts p x k
acts (M.read TestN p) k x v = test_acts p x k v
acts (M.read (LeftAssociative or_precedence) p) k x v = keeps_so (sym (by_follow (operands_start and_precedence k) (OperatorTail Or ∷ []) _ _ _ _))
acts (M.read (LeftAssociative and_precedence) p) k x v = keeps_so (sym (by_follow (not_start k) (OperatorTail And ∷ []) _ _ _ _))
acts (M.read (LeftAssociative bit_or_precedence) p) k x v = keeps_so (sym (by_follow (operands_start xor_precedence k) (OperatorTail BitOr ∷ []) _ _ _ _))
acts (M.read (LeftAssociative xor_precedence) p) k x v = keeps_so (sym (by_follow (operands_start bit_and_precedence k) (OperatorTail Xor ∷ []) _ _ _ _))
acts (M.read (LeftAssociative bit_and_precedence) p) k x v = keeps_so (sym (by_follow (operands_start shift_precedence k) (OperatorTail BitAnd ∷ []) _ _ _ _))
acts (M.read (LeftAssociative shift_precedence) p) k x v = keeps_so (sym (by_follow (operands_start add_precedence k) (OperatorTail Shift ∷ []) _ _ _ _))
acts (M.read (LeftAssociative add_precedence) p) k x v = keeps_so (sym (by_follow (operands_start multiply_precedence k) (OperatorTail Add ∷ []) _ _ _ _))
acts (M.read (LeftAssociative multiply_precedence) p) k x v = keeps_so (sym (by_follow (unary_start k) (OperatorTail Multiply ∷ []) _ _ _ _))
acts (M.read Not p) k x v = not_acts p x k v
acts (M.read Comp p) k x v = keeps_so (sym (by_follow (bit_or_start k) (ComparisonTail ∷ []) _ _ _ _))
acts (M.read UnaryN p) k x v = unary_acts p x k
acts (M.read Primary p) k x v = keeps_so (sym (by_follow (atom_start k) (SuffixTail ∷ []) _ _ _ _))
acts (M.read Atom p) k x v = atom_acts p x k
acts (M.read Sub p) k x v =
    if_acts (starts_test k) _ _ _ _ (keeps_so (sym (by_follow (test_start k) (SubscriptTail ∷ []) _ _ _ _)))
    (keeps_so (colon_same (is k kinds.Colon) _ _ _ _))
acts (M.read Bound p) k x v = if_acts (starts_test k) _ _ _ _ (keeps_so (sym (by_must (test_start k) _ _ _ _))) (keeps_so refl)
acts (M.read Arg p) k x v =
    due_if (is k kinds.Star) _ _ _ _ _ (takes_so (λ j. by_must (test_start j) _ _ _ _))
    (due_if (is k kinds.StarStar) _ _ _ _ _ (takes_so (λ j. by_must (test_start j) _ _ _ _))
    (keeps_so (sym (by_follow (test_start k) (NamedTail ∷ []) _ _ _ _))))
acts (M.read Entry p) k x v = keeps_so (sym (by_follow (test_start k) (Test ∷ Token kinds.Colon ∷ []) _ _ _ _))
acts (M.read LambdaParam p) k x v = lambda_param_acts p x k
acts (M.read FStringParts p) k x v = keeps_so refl
acts (M.read Conversion p) k x v = if_acts (is k kinds.FStringBang) _ _ _ _ (takes_so (λ j. refl)) (keeps_so refl)
acts (M.read LoopVars p) k x v = keeps_so refl
acts (M.read ForClause p) k x v = due_if (is k kinds.For) _ _ _ _ _ (takes_so (λ j. by_must (bit_or_start j) _ _ _ _)) fails_so
acts (M.read Clauses p) k x v = keeps_so refl
acts (M.read (OptionalList i) p) k x v = read_list_acts p (list_place p) k x v
acts (M.read (CommaList elements) p) k x v = keeps_so refl
acts (M.read (CommaList arguments) p) k x v = keeps_so refl
acts (M.read (CommaList entries) p) k x v = keeps_so refl
acts (M.read (CommaList lambda_parameters) p) k x v = keeps_so refl
acts (M.read (CommaList variables) p) k x v = keeps_so refl
acts (M.read (CommaList symbols) p) k x v = keeps_so refl
acts (M.read (CommaList def_parameters) p) k x v = keeps_so refl
acts (M.done d (M.top M.module_root)) k x v = finishes_so
acts (M.done d (M.module_stmt_at m p)) k x v = keeps_so refl
acts (M.done d (M.stmt_simple_at p)) k x v = keeps_so refl
acts (M.done ps (M.def_parameters_at d text i o p)) k x v = keeps_so refl
acts (M.done t (M.def_return_type_at d text i o ps c p)) k x v = keeps_so refl
acts (M.done s (M.def_suite_at d text i o ps c t k1 p)) k x v = keeps_so refl
acts (M.done d (M.if_test_at i p)) k x v = keeps_so refl
acts (M.done s (M.if_suite_at i d c p)) k x v = keeps_so refl
acts (M.done e (M.if_rest_at i d c s p)) k x v = keeps_so refl
acts (M.done d (M.stmt_for_at p)) k x v = keeps_so refl
acts (M.done d (M.for_vars_at f p)) k x v = keeps_so refl
acts (M.done e (M.for_source_at f d i p)) k x v = keeps_so refl
acts (M.done s (M.for_suite_at f d i e c p)) k x v = keeps_so refl
acts (M.done d (M.elif_test_at i p)) k x v = keeps_so refl
acts (M.done s (M.elif_suite_at i d c p)) k x v = keeps_so refl
acts (M.done e (M.elif_rest_at i d c s p)) k x v = keeps_so refl
acts (M.done s (M.else_suite_at i c p)) k x v = keeps_so refl
acts (M.done d (M.suite_simple_at p)) k x v = keeps_so refl
acts (M.done d (M.suite_newlines_at n p)) k x v = keeps_so refl
acts (M.done b (M.suite_block_at n d i p)) k x v = block_end_acts (is k kinds.Dedent) (is k kinds.End) _ _ _ _ (λ j. refl) refl
acts (M.done d (M.block_newlines_at p)) k x v = keeps_so (sym (by_must (statement_start k) _ _ _ _))
acts (M.done s (M.block_first_at d p)) k x v = keeps_so refl
acts (M.done s (M.block_stmt_at b p)) k x v = keeps_so refl
acts (M.done d (M.return_type_note_at a p)) k x v = keeps_so refl
acts (M.done d (M.args_annotation_at s text i p)) k x v = keeps_so refl
acts (M.done d (M.kwargs_annotation_at s text i p)) k x v = keeps_so refl
acts (M.done d (M.def_param_annotation_at text i p)) k x v =
    if_acts (is k kinds.Equal) _ _ _ _ (takes_so (λ j. by_must (test_start j) _ _ _ _)) (keeps_so refl)
acts (M.done v1 (M.def_param_default_at text i d e p)) k x v = keeps_so refl
acts (M.done d (M.simple_smalls_at p)) k x v = if_acts (is k kinds.Semicolon) _ _ _ _ (takes_so (λ j. refl)) (keeps_so refl)
acts (M.done d (M.smalls_one_at p)) k x v = keeps_so refl
acts (M.done e (M.smalls_more_at d s p)) k x v = keeps_so refl
acts (M.done d (M.return_value_at r p)) k x v = keeps_so refl
acts (M.done d (M.load_symbols_at o i text s p)) k x v = keeps_so refl
acts (M.done d (M.small_list_at p)) k x v = small_list_acts d p k (is k kinds.Colon) refl (assign_at k) refl
acts (M.done n (M.assign_annotation_at d p)) k x v = annotation_acts d n p x k (assign_at k) _
acts (M.done e (M.assign_value_at d n o s p)) k x v = keeps_so refl
acts (M.done d (M.list_elements_at p)) k x v = done_tuple_acts d p (tuple_place p) k x v
acts (M.done d (M.annotation_note_at c p)) k x v = keeps_so refl
acts (M.done d (M.note_test_at p)) k x v = keeps_so refl
acts (M.done d (M.symbols_list_at c p)) k x v = keeps_so refl
acts (M.done d (M.test_or_at p)) k x v = if_acts (is k kinds.If) _ _ _ _ (takes_so (λ j. by_must (operands_start or_precedence j) _ _ _ _)) (keeps_so refl)
acts (M.done c (M.test_if_at d i p)) k x v = keeps_so refl
acts (M.done f (M.test_else_at d i c e p)) k x v = keeps_unnamed (chain p) (due p) refl
acts (M.done d (M.lambda_parameters_at s p)) k x v = keeps_so refl
acts (M.done e (M.lambda_body_at s d c p)) k x v = keeps_unnamed (chain p) (due p) refl
acts (M.done d (M.left_first_at of_or p)) k x v = keeps_so refl
acts (M.done d (M.left_first_at of_and p)) k x v = keeps_so refl
acts (M.done d (M.left_first_at of_bit_or p)) k x v = keeps_so refl
acts (M.done d (M.left_first_at of_xor p)) k x v = keeps_so refl
acts (M.done d (M.left_first_at of_bit_and p)) k x v = keeps_so refl
acts (M.done d (M.left_first_at of_shift p)) k x v = keeps_so refl
acts (M.done d (M.left_first_at of_add p)) k x v = keeps_so refl
acts (M.done d (M.left_first_at of_multiply p)) k x v = keeps_so refl
acts (M.done e (M.left_right_at of_or d o s p)) k x v = keeps_unnamed (chain p) (OperatorTail Or ∷ due p) refl
acts (M.done e (M.left_right_at of_and d o s p)) k x v = keeps_unnamed (chain p) (OperatorTail And ∷ due p) refl
acts (M.done e (M.left_right_at of_bit_or d o s p)) k x v = keeps_unnamed (chain p) (OperatorTail BitOr ∷ due p) refl
acts (M.done e (M.left_right_at of_xor d o s p)) k x v = keeps_unnamed (chain p) (OperatorTail Xor ∷ due p) refl
acts (M.done e (M.left_right_at of_bit_and d o s p)) k x v = keeps_unnamed (chain p) (OperatorTail BitAnd ∷ due p) refl
acts (M.done e (M.left_right_at of_shift d o s p)) k x v = keeps_unnamed (chain p) (OperatorTail Shift ∷ due p) refl
acts (M.done e (M.left_right_at of_add d o s p)) k x v = keeps_unnamed (chain p) (OperatorTail Add ∷ due p) refl
acts (M.done e (M.left_right_at of_multiply d o s p)) k x v = keeps_unnamed (chain p) (OperatorTail Multiply ∷ due p) refl
acts (M.done d (M.not_not_at s p)) k x v = keeps_unnamed (chain p) (due p) refl
acts (M.done d (M.not_comp_at p)) k x v = keeps_so refl
acts (M.done d (M.comp_first_at p)) k x v = comparison_acts d p x k v (comparison_at k)
acts (M.done e (M.comp_right_at d o p)) k x v = if_acts (compares k) _ _ _ _ fails_so (keeps_unnamed (chain p) (due p) refl)
acts (M.done d (M.unary_sign_at o s p)) k x v = keeps_unnamed (chain p) (due p) refl
acts (M.done d (M.unary_primary_at p)) k x v = keeps_so refl
acts (M.done d (M.primary_atom_at p)) k x v = keeps_so refl
acts (M.done f (M.primary_subscript_at d o p)) k x v = keeps_so refl
acts (M.done d (M.sub_first_at p)) k x v =
    if_acts (is k kinds.Comma) _ _ _ _ (takes_so (λ j. by_must (test_start j) _ _ _ _))
    (if_acts (is k kinds.Colon) _ _ _ _ (takes_so (λ j. refl)) (keeps_so refl))
acts (M.done e (M.sub_two_at d c p)) k x v = keeps_so refl
acts (M.done e (M.sub_stop_at d c p)) k x v = if_acts (is k kinds.Colon) _ _ _ _ (takes_so (λ j. refl)) (keeps_so refl)
acts (M.done f (M.sub_step_at d c e s p)) k x v = keeps_so refl
acts (M.done d (M.bound_test_at p)) k x v = keeps_so refl
acts (M.done f (M.primary_call_at d o p)) k x v = keeps_so refl
acts (M.done d (M.arg_test_at p)) k x v =
    if_acts (is k kinds.Equal) _ _ _ _ (argument_acts d p x k (alone d)) (keeps_so (argument_due p false (is_some (alone d)) k))
acts (M.done d (M.arg_named_at text s e p)) k x v = keeps_so refl
acts (M.done d (M.arg_star_at s p)) k x v = keeps_so refl
acts (M.done d (M.arg_stars_at s p)) k x v = keeps_so refl
acts (M.done d (M.entry_key_at p)) k x v = keeps_so refl
acts (M.done e (M.entry_value_at d c p)) k x v = keeps_so refl
acts (M.done d (M.lambda_param_default_at text i e p)) k x v = keeps_so refl
acts (M.done d (M.atom_round_at o p)) k x v = keeps_so refl
acts (M.done d (M.atom_square_at o p)) k x v = square_acts o d p k (is k kinds.For) (single d)
acts (M.done d (M.atom_curly_at o p)) k x v = curly_acts o d p k (is k kinds.For) (single_entry d)
acts (M.done e (M.list_clauses_at o d p)) k x v = keeps_so refl
acts (M.done e (M.dict_clauses_at o d p)) k x v = keeps_so refl
acts (M.done (comma_list_one u d) (M.vars_elements_at p)) k x v = if_acts (is k kinds.Comma) _ _ _ _ (takes_so (λ j. refl)) (keeps_so refl)
acts (M.done (comma_list_more u d c e) (M.vars_elements_at p)) k x v = if_acts (is k kinds.Comma) _ _ _ _ (takes_so (λ j. refl)) (keeps_so refl)
acts (M.done d (M.clause_vars_at f p)) k x v = keeps_so refl
acts (M.done e (M.clause_source_at f d i p)) k x v = keeps_so refl
acts (M.done d (M.clauses_one_at p)) k x v = keeps_so refl
acts (M.done e (M.clauses_for_at d p)) k x v = keeps_so refl
acts (M.done e (M.clauses_if_at d i p)) k x v = keeps_so refl
acts (M.done d (M.parts_at q s p)) k x v = keeps_so refl
acts (M.done e (M.replacement_at d o p)) k x v = keeps_so refl
acts (M.done c (M.conversion_at d o e p)) k x v = keeps_so refl
acts (M.done d (M.comma_list_at p)) k x v = done_list_acts d p (list_place p) k x v
acts (M.done d (M.comma_list_one_at of_elements p)) k x v = keeps_so refl
acts (M.done d (M.comma_list_one_at of_arguments p)) k x v = keeps_so refl
acts (M.done d (M.comma_list_one_at of_entries p)) k x v = keeps_so refl
acts (M.done d (M.comma_list_one_at of_lambda_parameters p)) k x v = keeps_so refl
acts (M.done d (M.comma_list_one_at of_variables p)) k x v = keeps_so refl
acts (M.done d (M.comma_list_one_at of_symbols p)) k x v = keeps_so refl
acts (M.done d (M.comma_list_one_at of_def_parameters p)) k x v = keeps_so refl
acts (M.done e (M.comma_list_more_at of_elements d c p)) k x v = keeps_so refl
acts (M.done e (M.comma_list_more_at of_arguments d c p)) k x v = keeps_so refl
acts (M.done e (M.comma_list_more_at of_entries d c p)) k x v = keeps_so refl
acts (M.done e (M.comma_list_more_at of_lambda_parameters d c p)) k x v = keeps_so refl
acts (M.done e (M.comma_list_more_at of_variables d c p)) k x v = keeps_so refl
acts (M.done e (M.comma_list_more_at of_symbols d c p)) k x v = keeps_so refl
acts (M.done e (M.comma_list_more_at of_def_parameters d c p)) k x v = keeps_so refl
acts (M.module_tail m p) k x v =
    if_acts (is k kinds.End) _ _ _ _ (keeps_so refl)
    (if_acts (is k kinds.Newline) _ _ _ _ (takes_so (λ j. refl)) (keeps_so (sym (by_follow (statement_start k) (ModuleTail ∷ []) _ _ _ _))))
acts (M.left_tail {k = or_precedence} d p) k x v = left_there or_precedence d p x k (operates_at Or k)
acts (M.left_tail {k = and_precedence} d p) k x v = left_there and_precedence d p x k (operates_at And k)
acts (M.left_tail {k = bit_or_precedence} d p) k x v = left_there bit_or_precedence d p x k (operates_at BitOr k)
acts (M.left_tail {k = xor_precedence} d p) k x v = left_there xor_precedence d p x k (operates_at Xor k)
acts (M.left_tail {k = bit_and_precedence} d p) k x v = left_there bit_and_precedence d p x k (operates_at BitAnd k)
acts (M.left_tail {k = shift_precedence} d p) k x v = left_there shift_precedence d p x k (operates_at Shift k)
acts (M.left_tail {k = add_precedence} d p) k x v = left_there add_precedence d p x k (operates_at Add k)
acts (M.left_tail {k = multiply_precedence} d p) k x v = left_there multiply_precedence d p x k (operates_at Multiply k)
acts (M.primary_tail d p) k x v =
    if_acts (is k kinds.Dot) _ _ _ _ (takes_so (λ j. refl))
    (if_acts (is k kinds.OpeningSquare) _ _ _ _ (takes_so (λ j. refl)) (if_acts (is k kinds.OpeningRound) _ _ _ _ (takes_so (λ j. refl)) (keeps_so refl)))
acts (M.after_comma d c p) k x v = after_comma_acts d c p (list_place p) k x v
acts (M.after_vars_comma d c p) k x v =
    if_acts (starts_operand k) _ _ _ _ (keeps_so (sym (by_follow (bit_or_start k) (VariablesTail ∷ []) _ _ _ _)))
    (if_acts (is k kinds.Not) _ _ _ _ fails_so (keeps_so refl))
acts (M.after_star s p) k x v = if_acts (is k kinds.Identifier) _ _ _ _ (takes_so (λ j. refl)) (keeps_so refl)
acts (M.after_name text i p) k x v = if_acts (is k kinds.Equal) _ _ _ _ (takes_so (λ j. by_must (test_start j) _ _ _ _)) (keeps_so refl)
acts (M.else_due d i c p) k x v = due_if (is k kinds.Else) _ _ _ _ _ (takes_so (λ j. by_must (test_start j) _ _ _ _)) fails_so
acts (M.in_due d s p) k x v = due_if (is k kinds.In) _ _ _ _ _ (takes_so (λ j. by_must (bit_or_start j) _ _ _ _)) fails_so
acts (M.name_due d s p) k x v = due_if (is k kinds.Identifier) _ _ _ _ _ (takes_unnamed (chain p) (λ j. refl)) fails_so
acts (M.colon_due d p) k x v = due_if (is k kinds.Colon) _ _ _ _ _ (takes_so (λ j. refl)) fails_so
acts (M.subscript_due d o f p) k x v = due_if (is k kinds.ClosingSquare) _ _ _ _ _ (takes_unnamed (chain p) (λ j. refl)) fails_so
acts (M.call_due d o f p) k x v = due_if (is k kinds.ClosingRound) _ _ _ _ _ (takes_unnamed (chain p) (λ j. refl)) fails_so
acts (M.lambda_due s d p) k x v = due_if (is k kinds.Colon) _ _ _ _ _ (takes_so (λ j. by_must (test_start j) _ _ _ _)) fails_so
acts (M.value_due d p) k x v = due_if (is k kinds.Colon) _ _ _ _ _ (takes_so (λ j. by_must (test_start j) _ _ _ _)) fails_so
acts (M.kwargs_due s p) k x v = due_if (is k kinds.Identifier) _ _ _ _ _ (takes_so (λ j. refl)) fails_so
acts (M.newline_due d p) k x v = due_if (is k kinds.Newline) _ _ _ _ _ (takes_so (λ j. refl)) fails_so
acts (M.line_end_due d s p) k x v = due_if (is k kinds.Newline) _ _ _ _ _ (takes_so (λ j. refl)) fails_so
acts (M.load_round_due o p) k x v = due_if (is k kinds.OpeningRound) _ _ _ _ _ (takes_so (λ j. refl)) fails_so
acts (M.load_string_due o i p) k x v = due_if (is k kinds.String) _ _ _ _ _ (takes_so (λ j. refl)) fails_so
acts (M.load_due o i text s d p) k x v = due_if (is k kinds.ClosingRound) _ _ _ _ _ (takes_so (λ j. refl)) fails_so
acts (M.newlines_tail d p) k x v = if_acts (is k kinds.Newline) _ _ _ _ (takes_so (λ j. refl)) (keeps_so refl)
acts (M.block_tail d p) k x v = block_tail_acts d p (block_place p) k x
acts (M.def_name_due d p) k x v = due_if (is k kinds.Identifier) _ _ _ _ _ (takes_so (λ j. refl)) fails_so
acts (M.def_round_due d text i p) k x v = due_if (is k kinds.OpeningRound) _ _ _ _ _ (takes_so (λ j. refl)) fails_so
acts (M.def_close_due d text i o ps p) k x v = due_if (is k kinds.ClosingRound) _ _ _ _ _ (takes_so (λ j. refl)) fails_so
acts (M.def_colon_due d text i o ps c t p) k x v = due_if (is k kinds.Colon) _ _ _ _ _ (takes_so (λ j. refl)) fails_so
acts (M.if_colon_due i d p) k x v = due_if (is k kinds.Colon) _ _ _ _ _ (takes_so (λ j. refl)) fails_so
acts (M.elif_colon_due i d p) k x v = due_if (is k kinds.Colon) _ _ _ _ _ (takes_so (λ j. refl)) fails_so
acts (M.else_colon_due i p) k x v = due_if (is k kinds.Colon) _ _ _ _ _ (takes_so (λ j. refl)) fails_so
acts (M.for_in_due f d p) k x v = due_if (is k kinds.In) _ _ _ _ _ (takes_so (λ j. by_must (test_start j) _ _ _ _)) fails_so
acts (M.for_colon_due f d i e p) k x v = due_if (is k kinds.Colon) _ _ _ _ _ (takes_so (λ j. refl)) fails_so
acts (M.indent_due n d p) k x v = due_if (is k kinds.Indent) _ _ _ _ _ (takes_so (λ j. refl)) fails_so
acts (M.def_param_kwargs_due s p) k x v = due_if (is k kinds.Identifier) _ _ _ _ _ (takes_so (λ j. refl)) fails_so
acts (M.after_def_param_star s p) k x v = if_acts (is k kinds.Identifier) _ _ _ _ (takes_so (λ j. refl)) (keeps_so refl)
acts (M.their_due text i e p) k x v = due_if (is k kinds.String) _ _ _ _ _ (takes_so (λ j. refl)) fails_so
acts (M.after_list_comma d c p) k x v = tuple_comma_acts d c p (tuple_place p) k x v
acts (M.after_semicolon d s p) k x v = if_acts (starts_small k) _ _ _ _ (keeps_so (sym (by_follow (small_start k) (LineEnd ∷ []) _ _ _ _))) (keeps_so refl)
acts (M.after_return r p) k x v = if_acts (starts_test k) _ _ _ _ (keeps_so (sym (by_follow (test_start k) (TupleTail ∷ []) _ _ _ _))) (keeps_so refl)
acts (M.after_symbol text i p) k x v = if_acts (is k kinds.Equal) _ _ _ _ (takes_so (λ j. refl)) (keeps_so refl)
acts (M.round_due o d p) k x v = due_if (is k kinds.ClosingRound) _ _ _ _ _ (takes_unnamed (chain p) (λ j. refl)) fails_so
acts (M.square_due o d p) k x v = due_if (is k kinds.ClosingSquare) _ _ _ _ _ (takes_unnamed (chain p) (λ j. refl)) fails_so
acts (M.curly_due o d p) k x v = due_if (is k kinds.ClosingCurly) _ _ _ _ _ (takes_unnamed (chain p) (λ j. refl)) fails_so
acts (M.clause_in_due f d p) k x v = due_if (is k kinds.In) _ _ _ _ _ (takes_so (λ j. by_must (operands_start or_precedence j) _ _ _ _)) fails_so
acts (M.list_comprehension_due o d e p) k x v = due_if (is k kinds.ClosingSquare) _ _ _ _ _ (takes_unnamed (chain p) (λ j. refl)) fails_so
acts (M.dict_comprehension_due o d e p) k x v = due_if (is k kinds.ClosingCurly) _ _ _ _ _ (takes_unnamed (chain p) (λ j. refl)) fails_so
acts (M.clauses_tail d p) k x v =
    if_acts (is k kinds.For) _ _ _ _ (keeps_so (sym (by_follow (clause_start k) (ClausesTail ∷ []) _ _ _ _)))
    (if_acts (is k kinds.If) _ _ _ _ (takes_so (λ j. by_must (operands_start or_precedence j) _ _ _ _)) (keeps_so refl))
acts (M.parts_tail d p) k x v =
    if_acts (is k kinds.FStringText) _ _ _ _ (takes_so (λ j. refl))
    (if_acts (is k kinds.FStringExprStart) _ _ _ _ (takes_so (λ j. by_must (test_start j) _ _ _ _)) (keeps_so refl))
acts (M.after_bang s p) k x v = if_acts (is k kinds.Identifier) _ _ _ _ (takes_so (λ j. refl)) (keeps_so refl)
acts (M.conversion_named s text i p) k x v = keeps_so refl
acts (M.replacement_due d o e c p) k x v = due_if (is k kinds.FStringExprEnd) _ _ _ _ _ (takes_so (λ j. refl)) fails_so
acts (M.f_string_due q s d p) k x v = due_if (is k kinds.FStringEnd) _ _ _ _ _ (takes_unnamed (chain p) (λ j. refl)) fails_so
