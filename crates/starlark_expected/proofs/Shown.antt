-- What is due in each state of the machine.
use Rattle.std.proofs.Common.{Bool, true, false, if◌then◌else◌, List, [], ◌∷◌, Option}
use Rattle.std.proofs.Common.{Some, None, is_some}
use Rattle.starlark_lexer.specs.Tokens.{Lexeme}
use Rattle.starlark_lexer.specs.declared.kind.Kind.{Kind}
use Rattle.starlark_lexer.specs.declared.kind.Kind.TheVariants as kinds
use Rattle.starlark_lexer.specs.Kinds.{is}
use Rattle.starlark_tree.specs.Ast.{Word as AstWord}
use Rattle.starlark_spec.specs.Grammar.{Nonterminal, ElementKind, PrecedenceLevel}
use Rattle.starlark_spec.specs.Grammar.{Derivation}
use Rattle.starlark_spec.specs.Grammar as G
use Rattle.starlark_spec.specs.Grammar.Nonterminal.{Test as TestN, Unary as UnaryN, Suite as SuiteN, Symbols as SymbolsN}
use Rattle.starlark_spec.specs.Machine.States.{Place, State}
use Rattle.starlark_spec.specs.Machine.States as M
use Rattle.starlark_spec.specs.Machine.Moves.{alone, single_test, single}
use Rattle.starlark_spec.specs.Machine.Moves.{single_entry}
use Rattle.starlark_spec.specs.Machine.Sight.{Look}
use Rattle.starlark_expected.specs.declared.word.Level.{Level}
use Rattle.starlark_expected.specs.declared.word.Level.TheVariants.{Or, And, BitOr, Xor, BitAnd, Shift, Add, Multiply}
use Rattle.starlark_expected.specs.declared.word.Listed.{Listed}
use Rattle.starlark_expected.specs.declared.word.Listed.TheVariants.{Elements, Arguments, Entries, LambdaParameters, Symbols, DefParameters}
use Rattle.starlark_expected.specs.declared.word.Word.{Word}
use Rattle.starlark_expected.specs.declared.word.Word.TheVariants.{Token, ModuleTail, Statement, Suite, NewlinesTail, BlockTail, IfTail}
use Rattle.starlark_expected.specs.declared.word.Word.TheVariants.{ReturnTypeTail, TypeTail, DefaultTail, StarTail, LambdaStarTail, LineEnd}
use Rattle.starlark_expected.specs.declared.word.Word.TheVariants.{AfterSemicolon, ReturnTail, StatementTail, Assignment, AssignSign, TupleTail}
use Rattle.starlark_expected.specs.declared.word.Word.TheVariants.{AfterTupleComma, SymbolsTail, SymbolTail, Test, ChoiceTail, Operands}
use Rattle.starlark_expected.specs.declared.word.Word.TheVariants.{OperatorTail, ComparisonTail, Compared, SuffixTail}
use Rattle.starlark_expected.specs.declared.word.Word.TheVariants.{Subscript, SubscriptTail, SliceTail, BoundTail, ListTail, CommaTail}
use Rattle.starlark_expected.specs.declared.word.Word.TheVariants.{AfterComma, NamedTail, Square, SquareRest, Curly, CurlyRest, PartsTail}
use Rattle.starlark_expected.specs.declared.word.Word.TheVariants.{ConversionTail, ConversionNameTail, VariablesTail, AfterVariablesComma}
use Rattle.starlark_expected.specs.declared.word.Word.TheVariants.{ClausesTail}
use Rattle.starlark_expected.specs.Words.{Start, token_start, atom_start, primary_start, unary_start, comp_start, not_start, test_start}
use Rattle.starlark_expected.specs.Words.{bit_or_start, operands_start, argument_start, entry_start, lambda_param_start, symbol_start, def_param_start}
use Rattle.starlark_expected.specs.Words.{element_start, clause_start, small_start, simple_start, for_start, statement_start}
use Rattle.starlark_expected.specs.Words.{assign_start}
use Rattle.starlark_expected.specs.Words.{must, may, Outcome, Took, Refused}
use Rattle.starlark_expected.specs.Words.{after_reply, outcome}

-- what is seen of a token, or of an ending
abbrev pub looked : Kind → Lexeme → Bool → Look
looked k x no_memory = record { kind = k; first = x; no_memory = no_memory }

abbrev pub level_of : PrecedenceLevel → Level
level_of G.or_precedence = Or
level_of G.and_precedence = And
level_of G.bit_or_precedence = BitOr
level_of G.xor_precedence = Xor
level_of G.bit_and_precedence = BitAnd
level_of G.shift_precedence = Shift
level_of G.add_precedence = Add
level_of G.multiply_precedence = Multiply

-- variables are not in delimiters
abbrev pub list_of : ElementKind → Listed
list_of G.elements = Elements
list_of G.arguments = Arguments
list_of G.entries = Entries
list_of G.lambda_parameters = LambdaParameters
list_of G.variables = Elements
list_of G.symbols = Symbols
list_of G.def_parameters = DefParameters

-- ---- what is due

-- what is due after what is at a place is done; of a list, whether it has several elements
abbrev pub due_at : {n : Nonterminal} → Place G.Module n → Bool → List Word
due_at (M.top u) several = []
due_at (M.module_stmt_at m p) several = ModuleTail ∷ due_at p false
due_at (M.stmt_simple_at p) several = due_at p false
due_at (M.def_parameters_at d text i o p) several = Token kinds.ClosingRound ∷ ReturnTypeTail ∷ Token kinds.Colon ∷ Suite ∷ due_at p false
due_at (M.def_return_type_at d text i o ps c p) several = Token kinds.Colon ∷ Suite ∷ due_at p false
due_at (M.def_suite_at d text i o ps c t k p) several = due_at p false
due_at (M.if_test_at i p) several = Token kinds.Colon ∷ Suite ∷ IfTail ∷ due_at p false
due_at (M.if_suite_at i d c p) several = IfTail ∷ due_at p false
due_at (M.if_rest_at i d c s p) several = due_at p false
due_at (M.stmt_for_at p) several = due_at p false
due_at (M.for_vars_at f p) several = Token kinds.In ∷ Test ∷ Token kinds.Colon ∷ Suite ∷ due_at p false
due_at (M.for_source_at f d i p) several = Token kinds.Colon ∷ Suite ∷ due_at p false
due_at (M.for_suite_at f d i e c p) several = due_at p false
due_at (M.elif_test_at i p) several = Token kinds.Colon ∷ Suite ∷ IfTail ∷ due_at p false
due_at (M.elif_suite_at i d c p) several = IfTail ∷ due_at p false
due_at (M.elif_rest_at i d c s p) several = due_at p false
due_at (M.else_suite_at i c p) several = due_at p false
due_at (M.suite_simple_at p) several = due_at p false
due_at (M.suite_newlines_at n p) several = Token kinds.Indent ∷ NewlinesTail ∷ Statement ∷ BlockTail ∷ due_at p false
due_at (M.suite_block_at n d i p) several = due_at p false
due_at (M.block_newlines_at p) several = Statement ∷ BlockTail ∷ due_at p false
due_at (M.block_first_at d p) several = BlockTail ∷ due_at p false
due_at (M.block_stmt_at d p) several = BlockTail ∷ due_at p false
due_at (M.return_type_note_at a p) several = due_at p false
due_at (M.args_annotation_at s text i p) several = due_at p false
due_at (M.kwargs_annotation_at s text i p) several = due_at p false
due_at (M.def_param_annotation_at text i p) several = DefaultTail ∷ due_at p false
due_at (M.def_param_default_at text i d e p) several = due_at p false
due_at (M.simple_smalls_at p) several = LineEnd ∷ due_at p false
due_at (M.smalls_one_at p) several = due_at p false
due_at (M.smalls_more_at d s p) several = due_at p false
due_at (M.return_value_at r p) several = due_at p false
due_at (M.load_symbols_at o i text s p) several = Token kinds.ClosingRound ∷ due_at p false
due_at (M.small_list_at p) several = due_at p false
due_at (M.assign_annotation_at d p) several = AssignSign ∷ Test ∷ TupleTail ∷ due_at p false
due_at (M.assign_value_at d n o s p) several = due_at p false
due_at (M.list_elements_at (M.small_list_at p)) false = StatementTail ∷ due_at p false
due_at (M.list_elements_at (M.small_list_at p)) true = TupleTail ∷ Assignment ∷ due_at p false
due_at (M.list_elements_at p) several = TupleTail ∷ due_at p false
due_at (M.annotation_note_at c p) several = due_at p false
due_at (M.note_test_at p) several = due_at p false
due_at (M.symbols_list_at c p) several = due_at p false
due_at (M.test_or_at p) several = ChoiceTail ∷ due_at p false
due_at (M.test_if_at d i p) several = Token kinds.Else ∷ Test ∷ due_at p false
due_at (M.test_else_at d i c e p) several = due_at p false
due_at (M.lambda_parameters_at s p) several = Token kinds.Colon ∷ Test ∷ due_at p false
due_at (M.lambda_body_at s d c p) several = due_at p false
due_at (M.left_first_at {k} u p) several = OperatorTail (level_of k) ∷ due_at p false
due_at (M.left_right_at {k} u d o s p) several = OperatorTail (level_of k) ∷ due_at p false
due_at (M.not_not_at s p) several = due_at p false
due_at (M.not_comp_at p) several = due_at p false
due_at (M.comp_first_at p) several = ComparisonTail ∷ due_at p false
due_at (M.comp_right_at d o p) several = Compared ∷ due_at p false
due_at (M.unary_sign_at o s p) several = due_at p false
due_at (M.unary_primary_at p) several = due_at p false
due_at (M.primary_atom_at p) several = SuffixTail ∷ due_at p false
due_at (M.primary_subscript_at d o p) several = Token kinds.ClosingSquare ∷ SuffixTail ∷ due_at p false
due_at (M.sub_first_at p) several = SubscriptTail ∷ due_at p false
due_at (M.sub_two_at d c p) several = due_at p false
due_at (M.sub_stop_at d c p) several = SliceTail ∷ due_at p false
due_at (M.sub_step_at d c e s p) several = due_at p false
due_at (M.bound_test_at p) several = due_at p false
due_at (M.primary_call_at d o p) several = Token kinds.ClosingRound ∷ SuffixTail ∷ due_at p false
due_at (M.arg_test_at p) several = NamedTail ∷ due_at p false
due_at (M.arg_named_at text s e p) several = due_at p false
due_at (M.arg_star_at s p) several = due_at p false
due_at (M.arg_stars_at s p) several = due_at p false
due_at (M.entry_key_at p) several = Token kinds.Colon ∷ Test ∷ due_at p false
due_at (M.entry_value_at d c p) several = due_at p false
due_at (M.lambda_param_default_at text i e p) several = due_at p false
due_at (M.atom_round_at o p) several = Token kinds.ClosingRound ∷ due_at p false
due_at (M.atom_square_at o p) several = Token kinds.ClosingSquare ∷ due_at p false
due_at (M.atom_curly_at o p) several = Token kinds.ClosingCurly ∷ due_at p false
due_at (M.list_clauses_at o d p) several = Token kinds.ClosingSquare ∷ due_at p false
due_at (M.dict_clauses_at o d p) several = Token kinds.ClosingCurly ∷ due_at p false
due_at (M.vars_elements_at p) several = VariablesTail ∷ due_at p false
due_at (M.clause_vars_at f p) several = Token kinds.In ∷ Operands Or ∷ due_at p false
due_at (M.clause_source_at f d i p) several = due_at p false
due_at (M.clauses_one_at p) several = ClausesTail ∷ due_at p false
due_at (M.clauses_for_at d p) several = ClausesTail ∷ due_at p false
due_at (M.clauses_if_at d i p) several = ClausesTail ∷ due_at p false
due_at (M.parts_at q s p) several = Token kinds.FStringEnd ∷ due_at p false
due_at (M.replacement_at d o p) several = ConversionTail ∷ Token kinds.FStringExprEnd ∷ PartsTail ∷ due_at p false
due_at (M.conversion_at d o e p) several = Token kinds.FStringExprEnd ∷ PartsTail ∷ due_at p false
due_at (M.comma_list_at (M.atom_square_at o p)) false = SquareRest ∷ due_at p false
due_at (M.comma_list_at (M.atom_curly_at o p)) false = CurlyRest ∷ due_at p false
due_at (M.comma_list_at {k} p) several = CommaTail (list_of k) ∷ due_at p false
due_at (M.comma_list_one_at u p) several = due_at p false
due_at (M.comma_list_more_at u d c p) several = due_at p true

abbrev pub due : {n : Nonterminal} → Place G.Module n → List Word
due p = due_at p false

-- after several expressions without delimiters around them
abbrev pub due_tuple : Place G.Module G.TestList → List Word
due_tuple (M.small_list_at p) = Assignment ∷ due p
due_tuple p = due p

-- whether an argument begins at a place, and is a name if no more than that is read
abbrev pub chain : {n : Nonterminal} → Place G.Module n → Bool
chain (M.arg_test_at p) = true
chain (M.test_or_at p) = chain p
chain (M.left_first_at u p) = chain p
chain (M.not_comp_at p) = chain p
chain (M.comp_first_at p) = chain p
chain (M.unary_primary_at p) = chain p
chain (M.primary_atom_at p) = chain p
chain p = false

abbrev pub named_so : Bool → Option AstWord → Bool
named_so argument name = if argument then is_some name else false

-- what begins there, and then what is due
abbrev pub begun : Start → List Word → Bool → Kind → Outcome
begun o due argument k = after_reply (must argument o) k due Refused

abbrev pub is_argument : ElementKind → Bool
is_argument G.arguments = true
is_argument i = false

-- after the expressions of a statement: an assignment, or if it is one expression nothing
abbrev pub small_end_by : Option (Derivation TestN) → Start → Kind → List Word → Outcome
small_end_by (Some d) o k s = after_reply (may o) k s (outcome s false k)
small_end_by None o k s = begun o s false k

abbrev pub small_end : Option (Derivation TestN) → Kind → List Word → Outcome
small_end d k s = small_end_by d (assign_start k) k s

-- after what is in delimiters: the clauses of a comprehension if it is one element and `for` comes
abbrev pub square_end_if : Bool → Option (Derivation TestN) → Kind → List Word → Outcome
square_end_if for_comes (Some d) k s =
    if for_comes then begun (clause_start k) (ClausesTail ∷ Token kinds.ClosingSquare ∷ s) false k else begun (token_start kinds.ClosingSquare k) s false k
square_end_if for_comes None k s = begun (token_start kinds.ClosingSquare k) s false k

abbrev pub square_end : Option (Derivation TestN) → Kind → List Word → Outcome
square_end d k s = square_end_if (is k kinds.For) d k s

abbrev pub curly_end_if : Bool → Option (Derivation G.Entry) → Kind → List Word → Outcome
curly_end_if for_comes (Some d) k s =
    if for_comes then begun (clause_start k) (ClausesTail ∷ Token kinds.ClosingCurly ∷ s) false k else begun (token_start kinds.ClosingCurly k) s false k
curly_end_if for_comes None k s = begun (token_start kinds.ClosingCurly k) s false k

abbrev pub curly_end : Option (Derivation G.Entry) → Kind → List Word → Outcome
curly_end d k s = curly_end_if (is k kinds.For) d k s

abbrev pub block_end : Kind → List Word → Outcome
block_end k s = if is k kinds.Dedent then Took s false else (if is k kinds.End then outcome s false k else Refused)

abbrev pub list_shown : {i : ElementKind} → Place G.Module (G.OptionalList i) → Kind → Outcome
list_shown (M.atom_square_at o p) k = outcome (Square ∷ due p) false k
list_shown (M.atom_curly_at o p) k = outcome (Curly ∷ due p) false k
list_shown {i} p k = outcome (ListTail (list_of i) ∷ due p) false k

-- what is done when something is read
abbrev pub shown_read : (n : Nonterminal) → Place G.Module n → Kind → Outcome
shown_read G.Module p k = outcome (ModuleTail ∷ due p) false k
shown_read G.Stmt p k = begun (statement_start k) (due p) false k
shown_read G.For p k = begun (for_start k) (due p) false k
shown_read G.Rest p k = outcome (IfTail ∷ due p) false k
shown_read SuiteN p k = outcome (Suite ∷ due p) false k
shown_read G.Newlines p k = outcome (NewlinesTail ∷ due p) false k
shown_read G.Block p k = outcome (NewlinesTail ∷ Statement ∷ BlockTail ∷ due p) false k
shown_read G.ReturnType p k = outcome (ReturnTypeTail ∷ due p) false k
shown_read G.DefParam p k = begun (def_param_start k) (due p) false k
shown_read G.Simple p k = begun (simple_start k) (due p) false k
shown_read G.Smalls p k = begun (small_start k) (due p) false k
shown_read G.Small p k = begun (small_start k) (due p) false k
shown_read G.TestList p k = begun (test_start k) (due (M.list_elements_at p)) false k
shown_read G.Annotation p k = outcome (TypeTail ∷ due p) false k
shown_read G.Note p k = begun (test_start k) (due p) false k
shown_read SymbolsN p k = outcome (SymbolsTail ∷ due p) false k
shown_read G.Sym p k = begun (symbol_start k) (due p) false k
shown_read TestN p k = begun (test_start k) (due p) (chain p) k
shown_read (G.LeftAssociative i) p k = begun (operands_start i k) (due p) (chain p) k
shown_read G.Not p k = begun (not_start k) (due p) (chain p) k
shown_read G.Comp p k = begun (comp_start k) (due p) (chain p) k
shown_read UnaryN p k = begun (unary_start k) (due p) (chain p) k
shown_read G.Primary p k = begun (primary_start k) (due p) (chain p) k
shown_read G.Atom p k = begun (atom_start k) (due p) (chain p) k
shown_read G.Sub p k = outcome (Subscript ∷ due p) false k
shown_read G.Bound p k = outcome (BoundTail ∷ due p) false k
shown_read G.Arg p k = begun (argument_start k) (due p) true k
shown_read G.Entry p k = begun (entry_start k) (due p) false k
shown_read G.LambdaParam p k = begun (lambda_param_start k) (due p) false k
shown_read G.FStringParts p k = outcome (PartsTail ∷ due p) false k
shown_read G.Conversion p k = outcome (ConversionTail ∷ due p) false k
shown_read G.LoopVars p k = begun (bit_or_start k) (VariablesTail ∷ due p) false k
shown_read G.ForClause p k = begun (clause_start k) (due p) false k
shown_read G.Clauses p k = begun (clause_start k) (ClausesTail ∷ due p) false k
shown_read (G.OptionalList i) p k = list_shown p k
shown_read (G.CommaList i) p k = begun (element_start i k) (due p) (is_argument i) k

abbrev pub tuple_done : Derivation G.TestList → Place G.Module G.TestList → Kind → Outcome
tuple_done d (M.small_list_at p) k = small_end (single_test d) k (due p)
tuple_done d p k = outcome (due p) false k

abbrev pub elements_done : {i : ElementKind} → Derivation (G.CommaList i) → Place G.Module (G.CommaList i) → Kind → Outcome
elements_done (G.comma_list_one u d) p k = outcome (due_at p false) false k
elements_done (G.comma_list_more u d c e) p k = outcome (due_at p true) false k

abbrev pub list_done : {i : ElementKind} → Derivation (G.OptionalList i) → Place G.Module (G.OptionalList i) → Kind → Outcome
list_done d (M.atom_square_at o p) k = square_end (single d) k (due p)
list_done d (M.atom_curly_at o p) k = curly_end (single_entry d) k (due p)
list_done d p k = outcome (due p) false k

abbrev pub block_done : Place G.Module G.Block → Kind → Outcome
block_done (M.suite_block_at n d i p) k = block_end k (due p)
block_done p k = outcome (due p) false k

-- what is done when something is done
abbrev pub shown_done : (n : Nonterminal) → Derivation n → Place G.Module n → Kind → Outcome
shown_done G.TestList d p k = tuple_done d p k
shown_done (G.CommaList i) d p k = elements_done d p k
shown_done (G.OptionalList i) d p k = list_done d p k
shown_done G.Block d p k = block_done p k
shown_done TestN d p k = outcome (due p) (named_so (chain p) (alone d)) k
shown_done (G.LeftAssociative i) d p k = outcome (due p) (named_so (chain p) (alone d)) k
shown_done G.Not d p k = outcome (due p) (named_so (chain p) (alone d)) k
shown_done G.Comp d p k = outcome (due p) (named_so (chain p) (alone d)) k
shown_done UnaryN d p k = outcome (due p) (named_so (chain p) (alone d)) k
shown_done G.Primary d p k = outcome (due p) (named_so (chain p) (alone d)) k
shown_done G.Atom d p k = outcome (due p) (named_so (chain p) (alone d)) k
shown_done n d p k = outcome (due p) false k

-- what the words that are due in a state do at a kind
abbrev pub shown : State G.Module → Kind → Outcome
shown (M.read n p) k = shown_read n p k
shown (M.done {n} d p) k = shown_done n d p k
shown (M.module_tail m p) k = outcome (ModuleTail ∷ due p) false k
shown (M.newlines_tail d p) k = outcome (NewlinesTail ∷ due p) false k
shown (M.block_tail d p) k = outcome (BlockTail ∷ due p) false k
shown (M.parts_tail d p) k = outcome (PartsTail ∷ due p) false k
shown (M.clauses_tail d p) k = outcome (ClausesTail ∷ due p) false k
shown (M.left_tail {k = i} d p) k = outcome (OperatorTail (level_of i) ∷ due p) (named_so (chain p) (alone d)) k
shown (M.primary_tail d p) k = outcome (SuffixTail ∷ due p) (named_so (chain p) (alone d)) k
shown (M.after_comma {k = i} d c p) k = outcome (AfterComma (list_of i) ∷ due p) false k
shown (M.after_vars_comma d c p) k = outcome (AfterVariablesComma ∷ due p) false k
shown (M.after_list_comma d c p) k = outcome (AfterTupleComma ∷ due_tuple p) false k
shown (M.after_semicolon d s p) k = outcome (AfterSemicolon ∷ due p) false k
shown (M.after_return r p) k = outcome (ReturnTail ∷ due p) false k
shown (M.after_symbol text i p) k = outcome (SymbolTail ∷ due p) false k
shown (M.after_def_param_star s p) k = outcome (StarTail ∷ due p) false k
shown (M.after_star s p) k = outcome (LambdaStarTail ∷ due p) false k
shown (M.after_name text i p) k = outcome (DefaultTail ∷ due p) false k
shown (M.after_bang s p) k = outcome (ConversionNameTail ∷ due p) false k
shown (M.conversion_named s text i p) k = outcome (due p) false k
shown (M.newline_due d p) k = outcome (Token kinds.Newline ∷ due p) false k
shown (M.line_end_due d s p) k = outcome (Token kinds.Newline ∷ due p) false k
shown (M.load_round_due o p) k =
    outcome (Token kinds.OpeningRound ∷ Token kinds.String ∷ SymbolsTail ∷ Token kinds.ClosingRound ∷ due p) false k
shown (M.load_string_due o i p) k = outcome (Token kinds.String ∷ SymbolsTail ∷ Token kinds.ClosingRound ∷ due p) false k
shown (M.load_due o i text s d p) k = outcome (Token kinds.ClosingRound ∷ due p) false k
shown (M.their_due text i e p) k = outcome (Token kinds.String ∷ due p) false k
shown (M.def_name_due d p) k =
    outcome (Token kinds.Identifier ∷ Token kinds.OpeningRound ∷ ListTail DefParameters ∷ Token kinds.ClosingRound ∷ ReturnTypeTail
    ∷ Token kinds.Colon ∷ Suite ∷ due p) false k
shown (M.def_round_due d text i p) k =
    outcome (Token kinds.OpeningRound ∷ ListTail DefParameters ∷ Token kinds.ClosingRound ∷ ReturnTypeTail ∷ Token kinds.Colon ∷ Suite ∷ due p) false k
shown (M.def_close_due d text i o ps p) k = outcome (Token kinds.ClosingRound ∷ ReturnTypeTail ∷ Token kinds.Colon ∷ Suite ∷ due p) false k
shown (M.def_colon_due d text i o ps c t p) k = outcome (Token kinds.Colon ∷ Suite ∷ due p) false k
shown (M.if_colon_due i d p) k = outcome (Token kinds.Colon ∷ Suite ∷ IfTail ∷ due p) false k
shown (M.elif_colon_due i d p) k = outcome (Token kinds.Colon ∷ Suite ∷ IfTail ∷ due p) false k
shown (M.else_colon_due i p) k = outcome (Token kinds.Colon ∷ Suite ∷ due p) false k
shown (M.for_in_due f d p) k = outcome (Token kinds.In ∷ Test ∷ Token kinds.Colon ∷ Suite ∷ due p) false k
shown (M.for_colon_due f d i e p) k = outcome (Token kinds.Colon ∷ Suite ∷ due p) false k
shown (M.indent_due n d p) k = outcome (Token kinds.Indent ∷ NewlinesTail ∷ Statement ∷ BlockTail ∷ due p) false k
shown (M.def_param_kwargs_due s p) k = outcome (Token kinds.Identifier ∷ TypeTail ∷ due p) false k
shown (M.else_due d i c p) k = outcome (Token kinds.Else ∷ Test ∷ due p) false k
shown (M.in_due d s p) k = outcome (Token kinds.In ∷ Operands BitOr ∷ Compared ∷ due p) false k
shown (M.name_due d s p) k = outcome (Token kinds.Identifier ∷ SuffixTail ∷ due p) false k
shown (M.colon_due d p) k = outcome (Token kinds.Colon ∷ BoundTail ∷ SliceTail ∷ due p) false k
shown (M.subscript_due d o f p) k = outcome (Token kinds.ClosingSquare ∷ SuffixTail ∷ due p) false k
shown (M.call_due d o f p) k = outcome (Token kinds.ClosingRound ∷ SuffixTail ∷ due p) false k
shown (M.lambda_due s d p) k = outcome (Token kinds.Colon ∷ Test ∷ due p) false k
shown (M.value_due d p) k = outcome (Token kinds.Colon ∷ Test ∷ due p) false k
shown (M.kwargs_due s p) k = outcome (Token kinds.Identifier ∷ due p) false k
shown (M.round_due o d p) k = outcome (Token kinds.ClosingRound ∷ due p) false k
shown (M.square_due o d p) k = outcome (Token kinds.ClosingSquare ∷ due p) false k
shown (M.curly_due o d p) k = outcome (Token kinds.ClosingCurly ∷ due p) false k
shown (M.clause_in_due f d p) k = outcome (Token kinds.In ∷ Operands Or ∷ due p) false k
shown (M.list_comprehension_due o d e p) k = outcome (Token kinds.ClosingSquare ∷ due p) false k
shown (M.dict_comprehension_due o d e p) k = outcome (Token kinds.ClosingCurly ∷ due p) false k
shown (M.replacement_due d o e c p) k = outcome (Token kinds.FStringExprEnd ∷ PartsTail ∷ due p) false k
shown (M.f_string_due q s d p) k = outcome (Token kinds.FStringEnd ∷ due p) false k
