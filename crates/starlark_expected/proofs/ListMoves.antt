-- Where lists are, and the moves there.
use Rattle.std.proofs.Common.{◌≡◌, Bool, true, false, [], ◌∷◌, refl, sym}
use Rattle.starlark_lexer.specs.Tokens.{Span, Lexeme, Text}
use Rattle.starlark_lexer.specs.declared.kind.Kind.{Kind}
use Rattle.starlark_lexer.specs.declared.kind.Kind.TheVariants as kinds
use Rattle.starlark_lexer.specs.Kinds.{is}
use Rattle.starlark_spec.specs.Grammar.{ElementKind, AssignSign as Sign, Derivation}
use Rattle.starlark_spec.specs.Grammar.ElementKind.{elements, arguments, entries, lambda_parameters, symbols, def_parameters}
use Rattle.starlark_spec.specs.Grammar.ElementOf.{of_elements, of_arguments, of_entries}
use Rattle.starlark_spec.specs.Grammar.Derivation.{comma_list_one, comma_list_more}
use Rattle.starlark_spec.specs.Grammar.Nonterminal.{Module, Stmt, Small, Primary, Atom, Arg}
use Rattle.starlark_spec.specs.Grammar.Nonterminal.{Test as TestN, Suite as SuiteN, Symbols as SymbolsN, Block, Newlines, TestList, Annotation}
use Rattle.starlark_spec.specs.Grammar.Nonterminal.{OptionalList, CommaList}
use Rattle.starlark_spec.specs.Machine.States.{Place}
use Rattle.starlark_spec.specs.Machine.States as M
use Rattle.starlark_spec.specs.Machine.Firsts.{starts_test, starts_element}
use Rattle.starlark_spec.specs.Machine.Moves.{move, move_block, move_read}
use Rattle.starlark_expected.specs.declared.word.Listed.TheVariants.{Elements, Arguments, Entries, LambdaParameters, Symbols, DefParameters}
use Rattle.starlark_expected.specs.declared.word.Word.TheVariants.{Token, BlockTail, Assignment, TupleTail, AfterTupleComma, CommaTail}
use Rattle.starlark_expected.specs.declared.word.Word.TheVariants.{AfterComma, SquareRest, CurlyRest}
use Rattle.starlark_expected.specs.Words.{token_start, test_start, entry_start, element_start, assign_start, outcome}
use Rattle.starlark_expected.proofs.Shown.{looked, list_of, due_at, due, due_tuple, list_shown, elements_done}
use Rattle.starlark_expected.proofs.Moves.{Acts, by_must, curly_same, if_acts, keeps_so, list_or, part_or, square_same, takes_so}
use Rattle.starlark_expected.proofs.FirstTokens.{block_acts}
use Rattle.starlark_expected.proofs.ReadMoves.{closing_due}

-- the places of a list in delimiters, or of parameters
pub data ListPlace : (i : ElementKind) → Place Module (OptionalList i) → Type 0 where
  in_def : (d : Span) (text : Text) (i o : Span) (p : Place Module Stmt) → ListPlace def_parameters (M.def_parameters_at d text i o p)
  in_load : (c : Span) (p : Place Module SymbolsN) → ListPlace symbols (M.symbols_list_at c p)
  in_lambda : (s : Span) (p : Place Module TestN) → ListPlace lambda_parameters (M.lambda_parameters_at s p)
  in_call : (d : Derivation Primary) (o : Span) (p : Place Module Primary) → ListPlace arguments (M.primary_call_at d o p)
  in_round : (o : Span) (p : Place Module Atom) → ListPlace elements (M.atom_round_at o p)
  in_square : (o : Span) (p : Place Module Atom) → ListPlace elements (M.atom_square_at o p)
  in_curly : (o : Span) (p : Place Module Atom) → ListPlace entries (M.atom_curly_at o p)

pub list_place : {i : ElementKind} (p : Place Module (OptionalList i)) → ListPlace i p
list_place (M.def_parameters_at d text i o p) = in_def d text i o p
list_place (M.symbols_list_at c p) = in_load c p
list_place (M.lambda_parameters_at s p) = in_lambda s p
list_place (M.primary_call_at d o p) = in_call d o p
list_place (M.atom_round_at o p) = in_round o p
list_place (M.atom_square_at o p) = in_square o p
list_place (M.atom_curly_at o p) = in_curly o p
list_place (M.left_first_at u p) = elim u [ ]
list_place (M.left_right_at u d o s p) = elim u [ ]
list_place (M.comma_list_one_at u p) = elim u [ ]
list_place (M.comma_list_more_at u d c p) = elim u [ ]

-- the places of expressions without delimiters around them
pub data TuplePlace : Place Module TestList → Type 0 where
  in_small : (p : Place Module Small) → TuplePlace (M.small_list_at p)
  in_return : (r : Span) (p : Place Module Small) → TuplePlace (M.return_value_at r p)
  in_value : (d : Derivation TestList) (n : Derivation Annotation) (o : Sign) (s : Span) (p : Place Module Small) → TuplePlace (M.assign_value_at d n o s p)

pub tuple_place : (p : Place Module TestList) → TuplePlace p
tuple_place (M.small_list_at p) = in_small p
tuple_place (M.return_value_at r p) = in_return r p
tuple_place (M.assign_value_at d n o s p) = in_value d n o s p
tuple_place (M.left_first_at u p) = elim u [ ]
tuple_place (M.left_right_at u d o s p) = elim u [ ]
tuple_place (M.comma_list_one_at u p) = elim u [ ]
tuple_place (M.comma_list_more_at u d c p) = elim u [ ]

pub data BlockPlace : Place Module Block → Type 0 where
  in_suite : (n : Span) (d : Derivation Newlines) (i : Span) (p : Place Module SuiteN) → BlockPlace (M.suite_block_at n d i p)

pub block_place : (p : Place Module Block) → BlockPlace p
block_place (M.suite_block_at n d i p) = in_suite n d i p
block_place (M.left_first_at u p) = elim u [ ]
block_place (M.left_right_at u d o s p) = elim u [ ]
block_place (M.comma_list_one_at u p) = elim u [ ]
block_place (M.comma_list_more_at u d c p) = elim u [ ]

-- the arguments of a call
data ArgumentsPlace : Place Module (CommaList arguments) → Type 0 where
  of_call : (d : Derivation Primary) (o : Span) (p : Place Module Primary) → ArgumentsPlace (M.comma_list_at (M.primary_call_at d o p))

arguments_in : (p : Place Module (OptionalList arguments)) → ArgumentsPlace (M.comma_list_at p)
arguments_in (M.primary_call_at d o p) = of_call d o p
arguments_in (M.left_first_at u p) = elim u [ ]
arguments_in (M.left_right_at u d o s p) = elim u [ ]
arguments_in (M.comma_list_one_at u p) = elim u [ ]
arguments_in (M.comma_list_more_at u d c p) = elim u [ ]

arguments_place : (p : Place Module (CommaList arguments)) → ArgumentsPlace p
arguments_place (M.comma_list_at p) = arguments_in p
arguments_place (M.left_first_at u p) = elim u [ ]
arguments_place (M.left_right_at u d o s p) = elim u [ ]
arguments_place (M.comma_list_one_at u p) = elim u [ ]
arguments_place (M.comma_list_more_at u d c p) = elim u [ ]

arguments_due : (p : Place Module (CommaList arguments)) → ArgumentsPlace p → (several f g : Bool) (k : Kind)
    → outcome (due_at p several) f k ≡ outcome (due_at p several) g k
arguments_due _ (of_call d o p) several f g k = closing_due (is k kinds.Comma) _ k _ _ _ _ (token_start kinds.ClosingRound k)

pub argument_due : (p : Place Module Arg) (f g : Bool) (k : Kind) → outcome (due p) f k ≡ outcome (due p) g k
argument_due (M.comma_list_one_at of_arguments p) f g k = arguments_due p (arguments_place p) false f g k
argument_due (M.comma_list_more_at of_arguments l c p) f g k = arguments_due p (arguments_place p) true f g k
argument_due (M.left_first_at u p) f g k = elim u [ ]
argument_due (M.left_right_at u d o s p) f g k = elim u [ ]

pub read_list_acts : {i : ElementKind} (p : Place Module (OptionalList i)) → ListPlace i p → (k : Kind) (x : Lexeme) (v : Bool)
    → Acts (move_read (OptionalList i) p (looked k x v)) k (list_shown p k)
read_list_acts _ (in_square o p) k x v =
    part_or (starts_test k) _ _ k (test_start k) (token_start kinds.ClosingSquare k) (SquareRest ∷ []) (due p) (outcome (due p) false k) refl refl
read_list_acts _ (in_curly o p) k x v =
    part_or (starts_test k) _ _ k (entry_start k) (token_start kinds.ClosingCurly k) (CurlyRest ∷ []) (due p) (outcome (due p) false k) refl refl
read_list_acts _ (in_def a text i o p) k x v =
    list_or (starts_element def_parameters k) false _ _ k (element_start def_parameters k) (CommaTail DefParameters ∷ [])
    (due (M.def_parameters_at a text i o p)) _ refl refl
read_list_acts _ (in_load a p) k x v =
    list_or (starts_element symbols k) false _ _ k (element_start symbols k) (CommaTail Symbols ∷ []) (due (M.symbols_list_at a p)) _ refl refl
read_list_acts _ (in_lambda a p) k x v =
    list_or (starts_element lambda_parameters k) false _ _ k (element_start lambda_parameters k) (CommaTail LambdaParameters ∷ [])
    (due (M.lambda_parameters_at a p)) _ refl refl
read_list_acts _ (in_call a o p) k x v =
    list_or (starts_element arguments k) true _ _ k (element_start arguments k) (CommaTail Arguments ∷ []) (due (M.primary_call_at a o p)) _ refl refl
read_list_acts _ (in_round o p) k x v =
    list_or (starts_element elements k) false _ _ k (element_start elements k) (CommaTail Elements ∷ []) (due (M.atom_round_at o p)) _ refl refl

pub after_comma_acts : {i : ElementKind} (d : Derivation (CommaList i)) (c : Span) (p : Place Module (OptionalList i)) → ListPlace i p
    → (k : Kind) (x : Lexeme) (v : Bool) → Acts (move (M.after_comma d c p) (looked k x v)) k (outcome (AfterComma (list_of i) ∷ due p) false k)
after_comma_acts d c _ (in_square o p) k x v =
    list_or (starts_test k) false _ _ k (test_start k) (CommaTail Elements ∷ []) (Token kinds.ClosingSquare ∷ due p) _ refl
    (sym (by_must (token_start kinds.ClosingSquare k) (due p) false k _))
after_comma_acts d c _ (in_curly o p) k x v =
    list_or (starts_test k) false _ _ k (entry_start k) (CommaTail Entries ∷ []) (Token kinds.ClosingCurly ∷ due p) _ refl
    (sym (by_must (token_start kinds.ClosingCurly k) (due p) false k _))
after_comma_acts d c _ (in_def a text i o p) k x v =
    list_or (starts_element def_parameters k) false _ _ k (element_start def_parameters k) (CommaTail DefParameters ∷ [])
    (due (M.def_parameters_at a text i o p)) _ refl refl
after_comma_acts d c _ (in_load a p) k x v =
    list_or (starts_element symbols k) false _ _ k (element_start symbols k) (CommaTail Symbols ∷ []) (due (M.symbols_list_at a p)) _ refl refl
after_comma_acts d c _ (in_lambda a p) k x v =
    list_or (starts_element lambda_parameters k) false _ _ k (element_start lambda_parameters k) (CommaTail LambdaParameters ∷ [])
    (due (M.lambda_parameters_at a p)) _ refl refl
after_comma_acts d c _ (in_call a o p) k x v =
    list_or (starts_element arguments k) true _ _ k (element_start arguments k) (CommaTail Arguments ∷ []) (due (M.primary_call_at a o p)) _ refl refl
after_comma_acts d c _ (in_round o p) k x v =
    list_or (starts_element elements k) false _ _ k (element_start elements k) (CommaTail Elements ∷ []) (due (M.atom_round_at o p)) _ refl refl

pub done_list_acts : {i : ElementKind} (d : Derivation (CommaList i)) (p : Place Module (OptionalList i)) → ListPlace i p → (k : Kind) (x : Lexeme) (v : Bool)
    → Acts (move (M.done d (M.comma_list_at p)) (looked k x v)) k (elements_done d (M.comma_list_at p) k)
done_list_acts (comma_list_one of_elements d) _ (in_square o p) k x v =
    if_acts (is k kinds.Comma) _ _ _ _ (takes_so (λ j. refl)) (keeps_so (square_same (is k kinds.For) (due p) k _))
done_list_acts (comma_list_more u d c e) _ (in_square o p) k x v =
    if_acts (is k kinds.Comma) _ _ _ _ (takes_so (λ j. refl)) (keeps_so (sym (by_must (token_start kinds.ClosingSquare k) _ _ _ _)))
done_list_acts (comma_list_one of_entries d) _ (in_curly o p) k x v =
    if_acts (is k kinds.Comma) _ _ _ _ (takes_so (λ j. refl)) (keeps_so (curly_same (is k kinds.For) (due p) k _))
done_list_acts (comma_list_more u d c e) _ (in_curly o p) k x v =
    if_acts (is k kinds.Comma) _ _ _ _ (takes_so (λ j. refl)) (keeps_so (sym (by_must (token_start kinds.ClosingCurly k) _ _ _ _)))
done_list_acts (comma_list_one u d) _ (in_def a text i o p) k x v = if_acts (is k kinds.Comma) _ _ _ _ (takes_so (λ j. refl)) (keeps_so refl)
done_list_acts (comma_list_more u d c e) _ (in_def a text i o p) k x v = if_acts (is k kinds.Comma) _ _ _ _ (takes_so (λ j. refl)) (keeps_so refl)
done_list_acts (comma_list_one u d) _ (in_load a p) k x v = if_acts (is k kinds.Comma) _ _ _ _ (takes_so (λ j. refl)) (keeps_so refl)
done_list_acts (comma_list_more u d c e) _ (in_load a p) k x v = if_acts (is k kinds.Comma) _ _ _ _ (takes_so (λ j. refl)) (keeps_so refl)
done_list_acts (comma_list_one u d) _ (in_lambda a p) k x v = if_acts (is k kinds.Comma) _ _ _ _ (takes_so (λ j. refl)) (keeps_so refl)
done_list_acts (comma_list_more u d c e) _ (in_lambda a p) k x v = if_acts (is k kinds.Comma) _ _ _ _ (takes_so (λ j. refl)) (keeps_so refl)
done_list_acts (comma_list_one u d) _ (in_call a o p) k x v = if_acts (is k kinds.Comma) _ _ _ _ (takes_so (λ j. refl)) (keeps_so refl)
done_list_acts (comma_list_more u d c e) _ (in_call a o p) k x v = if_acts (is k kinds.Comma) _ _ _ _ (takes_so (λ j. refl)) (keeps_so refl)
done_list_acts (comma_list_one u d) _ (in_round o p) k x v = if_acts (is k kinds.Comma) _ _ _ _ (takes_so (λ j. refl)) (keeps_so refl)
done_list_acts (comma_list_more u d c e) _ (in_round o p) k x v = if_acts (is k kinds.Comma) _ _ _ _ (takes_so (λ j. refl)) (keeps_so refl)

pub done_tuple_acts : (d : Derivation (CommaList elements)) (p : Place Module TestList) → TuplePlace p → (k : Kind) (x : Lexeme) (v : Bool)
    → Acts (move (M.done d (M.list_elements_at p)) (looked k x v)) k (elements_done d (M.list_elements_at p) k)
done_tuple_acts (comma_list_one of_elements d) _ (in_small p) k x v = if_acts (is k kinds.Comma) _ _ _ _ (takes_so (λ j. refl)) (keeps_so refl)
done_tuple_acts (comma_list_more of_elements d c e) _ (in_small p) k x v =
    if_acts (is k kinds.Comma) _ _ _ _ (takes_so (λ j. refl)) (keeps_so (sym (by_must (assign_start k) _ _ _ _)))
done_tuple_acts (comma_list_one of_elements d) _ (in_return r p) k x v = if_acts (is k kinds.Comma) _ _ _ _ (takes_so (λ j. refl)) (keeps_so refl)
done_tuple_acts (comma_list_more of_elements d c e) _ (in_return r p) k x v = if_acts (is k kinds.Comma) _ _ _ _ (takes_so (λ j. refl)) (keeps_so refl)
done_tuple_acts (comma_list_one of_elements d) _ (in_value l n o s p) k x v = if_acts (is k kinds.Comma) _ _ _ _ (takes_so (λ j. refl)) (keeps_so refl)
done_tuple_acts (comma_list_more of_elements d c e) _ (in_value l n o s p) k x v = if_acts (is k kinds.Comma) _ _ _ _ (takes_so (λ j. refl)) (keeps_so refl)

pub tuple_comma_acts : (d : Derivation (CommaList elements)) (c : Span) (p : Place Module TestList) → TuplePlace p → (k : Kind) (x : Lexeme) (v : Bool)
    → Acts (move (M.after_list_comma d c p) (looked k x v)) k (outcome (AfterTupleComma ∷ due_tuple p) false k)
tuple_comma_acts e c _ (in_small p) k x v =
    list_or (starts_test k) false _ _ k (test_start k) (TupleTail ∷ []) (Assignment ∷ due p) _ refl (sym (by_must (assign_start k) (due p) false k _))
tuple_comma_acts d c _ (in_return r p) k x v = list_or (starts_test k) false _ _ k (test_start k) (TupleTail ∷ []) (due p) (outcome (due p) false k) refl refl
tuple_comma_acts d c _ (in_value l n o s p) k x v =
    list_or (starts_test k) false _ _ k (test_start k) (TupleTail ∷ []) (due p) (outcome (due p) false k) refl refl

pub block_tail_acts : (d : Derivation Block) (p : Place Module Block) → BlockPlace p → (k : Kind) (x : Lexeme)
    → Acts (move_block d p x k) k (outcome (BlockTail ∷ due p) false k)
block_tail_acts d _ (in_suite n a i p) k x = block_acts d n a i p x k
