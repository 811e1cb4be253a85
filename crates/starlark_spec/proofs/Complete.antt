-- The machine reads each derivation.
use Rattle.std.proofs.Common.{ℕ, ◌≡◌, Bool, true, false, List, ◌∷◌, refl, ap, ◌≤◌, lit≤, None, arith}
use Rattle.std.specs.Bool.{⊤}
use Rattle.starlark_lexer.specs.Tokens.{Text, Span, Lexeme, lexeme}
use Rattle.starlark_lexer.specs.Tokens as tokens
use Rattle.starlark_lexer.specs.declared.kind.Kind.{Kind}
use Rattle.starlark_lexer.specs.declared.kind.Kind.TheVariants as kinds
use Rattle.starlark_spec.specs.Items.{Ending}
use Rattle.starlark_spec.specs.Grammar.{Nonterminal, ElementKind, ElementOf, PrecedenceLevel, OperandOf, Operator, CompSign, UnarySign, AssignSign}
use Rattle.starlark_spec.specs.Grammar.{Derivation, assign_token, right_side, yield_of, side_yield, operator_token, unary_token, sign_side}
use Rattle.starlark_spec.specs.Grammar as G
use Rattle.starlark_lexer.specs.Kinds.{is, kind_of}
use Rattle.starlark_spec.specs.Machine.States.{Place, State}
use Rattle.starlark_spec.specs.Machine.States.State.{read, done, module_tail, newlines_tail, block_tail, parts_tail, clauses_tail, left_tail, primary_tail}
use Rattle.starlark_spec.specs.Machine.States.State.{after_comma}
use Rattle.starlark_spec.specs.Machine.States.Place.{top, stmt_simple_at, block_stmt_at, simple_smalls_at, small_list_at, assign_annotation_at}
use Rattle.starlark_spec.specs.Machine.States.Place.{assign_value_at, list_elements_at, left_first_at, left_right_at, comp_first_at, comp_right_at}
use Rattle.starlark_spec.specs.Machine.States.Place.{unary_sign_at, unary_primary_at, arg_test_at, atom_square_at, atom_curly_at, vars_elements_at}
use Rattle.starlark_spec.specs.Machine.States.Place.{comma_list_at, comma_list_one_at, comma_list_more_at}
use Rattle.starlark_spec.specs.Machine.BindingPower.{binding_power}
use Rattle.starlark_spec.specs.Machine.Sight.{look}
use Rattle.starlark_spec.specs.Machine.Firsts.{starts_test, starts_or, starts_operand, starts_argument, starts_param, starts_symbol, starts_small}
use Rattle.starlark_spec.specs.Machine.Firsts.{starts_element, assign_at, operator_at, comparison_at, compares, unary_at}
use Rattle.starlark_spec.specs.Machine.Moves.{Keep, move, move_stmt, move_block, move_small, move_unary, after_left}
use Rattle.starlark_lexer.proofs.KindTests.{is_true, is_false, differs}
use Rattle.starlark_spec.specs.Machine.Steps.{Config, Reaches, here, more, config}
use Rattle.starlark_spec.proofs.Constructors.{not_true}
use Rattle.starlark_spec.proofs.Blocks.{obeys, follows}
use Rattle.starlark_spec.proofs.Runs.{trans, leaves}

-- a nonterminal may begin with this kind
abbrev starts_atom : Kind → Bool
starts_atom kinds.Identifier = true
starts_atom kinds.Int = true
starts_atom kinds.Float = true
starts_atom kinds.String = true
starts_atom kinds.Bytes = true
starts_atom kinds.Ellipsis = true
starts_atom kinds.FStringStart = true
starts_atom kinds.OpeningRound = true
starts_atom kinds.OpeningSquare = true
starts_atom kinds.OpeningCurly = true
starts_atom _ = false

abbrev pub starts_stmt : Kind → Bool
starts_stmt kinds.Def = true
starts_stmt kinds.If = true
starts_stmt kinds.For = true
starts_stmt k = starts_small k

abbrev pub starts_suite : Kind → Bool
starts_suite kinds.Newline = true
starts_suite k = starts_small k

abbrev pub starts_block : Kind → Bool
starts_block kinds.Newline = true
starts_block k = starts_stmt k

abbrev pub starts_sub : Kind → Bool
starts_sub kinds.Colon = true
starts_sub k = starts_test k

abbrev pub starts : Nonterminal → Kind → Bool
starts G.Module k = true
starts G.Stmt k = starts_stmt k
starts G.Simple k = starts_small k
starts G.Suite k = starts_suite k
starts G.Block k = starts_block k
starts G.Newlines k = true
starts G.Rest k = true
starts G.For k = is k kinds.For
starts G.ReturnType k = true
starts G.DefParam k = starts_param k
starts G.Smalls k = starts_small k
starts G.Small k = starts_small k
starts G.Annotation k = true
starts G.Symbols k = true
starts G.Sym k = starts_symbol k
starts G.Sub k = starts_sub k
starts G.Bound k = true
starts G.Arg k = starts_argument k
starts G.LambdaParam k = starts_param k
starts G.FStringParts k = true
starts G.Conversion k = true
starts G.LoopVars k = starts_operand k
starts G.ForClause k = is k kinds.For
starts G.Clauses k = is k kinds.For
starts (G.OptionalList i) k = true
starts (G.CommaList i) k = starts_element i k
starts G.Not k = starts_or k
starts G.Comp k = starts_operand k
starts G.Unary k = starts_operand k
starts G.Primary k = starts_atom k
starts G.Atom k = starts_atom k
starts (G.LeftAssociative G.or_precedence) k = starts_or k
starts (G.LeftAssociative G.and_precedence) k = starts_or k
starts (G.LeftAssociative G.bit_or_precedence) k = starts_operand k
starts (G.LeftAssociative G.xor_precedence) k = starts_operand k
starts (G.LeftAssociative G.bit_and_precedence) k = starts_operand k
starts (G.LeftAssociative G.shift_precedence) k = starts_operand k
starts (G.LeftAssociative G.add_precedence) k = starts_operand k
starts (G.LeftAssociative G.multiply_precedence) k = starts_operand k
starts _ k = starts_test k

pub atom_operand : (k : Kind) → starts_atom k ≡ true → starts_operand k ≡ true
atom_operand kinds.Plus h = refl
atom_operand kinds.Minus h = refl
atom_operand kinds.Tilde h = refl
atom_operand k h = h

pub operand_or : (k : Kind) → starts_operand k ≡ true → starts_or k ≡ true
operand_or kinds.Not h = refl
operand_or k h = h

pub or_test : (k : Kind) → starts_or k ≡ true → starts_test k ≡ true
or_test kinds.Lambda h = refl
or_test k h = h

pub test_small : (k : Kind) → starts_test k ≡ true → starts_small k ≡ true
test_small kinds.Return h = refl
test_small kinds.Break h = refl
test_small kinds.Continue h = refl
test_small kinds.Pass h = refl
test_small kinds.Load h = refl
test_small k h = h

pub small_stmt : (k : Kind) → starts_small k ≡ true → starts_stmt k ≡ true
small_stmt kinds.Def h = refl
small_stmt kinds.If h = refl
small_stmt kinds.For h = refl
small_stmt k h = h

pub for_stmt : (k : Kind) → is k kinds.For ≡ true → starts_stmt k ≡ true
for_stmt k h = ap starts_stmt (is_true k kinds.For h)

pub small_suite : (k : Kind) → starts_small k ≡ true → starts_suite k ≡ true
small_suite kinds.Newline h = refl
small_suite k h = h

pub stmt_block : (k : Kind) → starts_stmt k ≡ true → starts_block k ≡ true
stmt_block kinds.Newline h = refl
stmt_block k h = h

-- no statement begins with `elif` or `else`
pub not_else : (k : Kind) → starts_stmt k ≡ true → (is k kinds.Elif ≡ false) × (is k kinds.Else ≡ false)
not_else k h = (differs starts_stmt k kinds.Elif h refl, differs starts_stmt k kinds.Else h refl)

-- a statement that begins like a small one is read as a line
pub stmt_is_simple : {b : Nonterminal} (p : Place b G.Stmt) (x : Lexeme) (k : Kind) → starts_small k ≡ true
    → move_stmt p x k ≡ Keep (read G.Simple (stmt_simple_at p))
stmt_is_simple p x kinds.Def h = not_true h
stmt_is_simple p x kinds.If h = not_true h
stmt_is_simple p x kinds.For h = not_true h
stmt_is_simple p x k h = refl

-- in a block a statement may come after another
pub block_goes_on : {b : Nonterminal} (d : Derivation G.Block) (p : Place b G.Block) (x : Lexeme) (k : Kind) → starts_stmt k ≡ true
    → move_block d p x k ≡ Keep (read G.Stmt (block_stmt_at d p))
block_goes_on d p x kinds.Newline h = not_true h
block_goes_on d p x kinds.Dedent h = not_true h
block_goes_on d p x kinds.End h = not_true h
block_goes_on d p x k h = refl

-- a small statement that begins like an expression is read as a list
pub small_is_list : {b : Nonterminal} (p : Place b G.Small) (x : Lexeme) (k : Kind) → starts_test k ≡ true
    → move_small p x k ≡ Keep (read G.TestList (small_list_at p))
small_is_list p x kinds.Return h = not_true h
small_is_list p x kinds.Break h = not_true h
small_is_list p x kinds.Continue h = not_true h
small_is_list p x kinds.Pass h = not_true h
small_is_list p x kinds.Load h = not_true h
small_is_list p x k h = refl

pub test_sub : (k : Kind) → starts_test k ≡ true → starts_sub k ≡ true
test_sub kinds.Colon h = refl
test_sub k h = h

pub test_argument : (k : Kind) → starts_test k ≡ true → starts_argument k ≡ true
test_argument kinds.Star h = refl
test_argument kinds.StarStar h = refl
test_argument k h = h

-- an atom does not begin with a unary operator
pub atom_unsigned : (k : Kind) → starts_atom k ≡ true → unary_at k ≡ None
atom_unsigned kinds.Plus h = not_true h
atom_unsigned kinds.Minus h = not_true h
atom_unsigned kinds.Tilde h = not_true h
atom_unsigned k h = refl

-- up to which binding power a token may continue a level's operands, or follow a nonterminal
abbrev pub level_own : PrecedenceLevel → ℕ
level_own G.or_precedence = 2
level_own G.and_precedence = 3
level_own G.bit_or_precedence = 5
level_own G.xor_precedence = 6
level_own G.bit_and_precedence = 7
level_own G.shift_precedence = 8
level_own G.add_precedence = 9
level_own G.multiply_precedence = 10

abbrev own : Nonterminal → ℕ
own (G.LeftAssociative k) = level_own k
own G.Not = 3
own G.Comp = 3
own G.Unary = 10
own G.Primary = 11
own G.Atom = 11
own _ = 0

-- up to which binding power a token follows a level's operands and does not continue them
abbrev pub below : PrecedenceLevel → ℕ
below G.or_precedence = 1
below G.and_precedence = 2
below G.bit_or_precedence = 4
below G.xor_precedence = 5
below G.bit_and_precedence = 6
below G.shift_precedence = 7
below G.add_precedence = 8
below G.multiply_precedence = 9

-- what may follow an element of a list
abbrev IsAfter : ElementKind → Kind → Type 0
IsAfter G.elements k = binding_power k ≤ 0
IsAfter G.arguments k = (binding_power k ≤ 0) × (is k kinds.Equal ≡ false)
IsAfter G.entries k = binding_power k ≤ 0
IsAfter G.lambda_parameters k = (binding_power k ≤ 0) × (is k kinds.Equal ≡ false) × (is k kinds.Identifier ≡ false)
IsAfter G.variables k = binding_power k ≤ 4
IsAfter G.symbols k = is k kinds.Equal ≡ false
IsAfter G.def_parameters k = (binding_power k ≤ 0) × (is k kinds.Equal ≡ false) × (is k kinds.Colon ≡ false) × (is k kinds.Identifier ≡ false)

-- what may follow loop variables
abbrev pub EndsVars : Derivation G.LoopVars → Kind → Type 0
EndsVars (G.vars_plain d) k = (binding_power k ≤ 4) × (is k kinds.Comma ≡ false)
EndsVars (G.vars_comma d c) k = (starts_operand k ≡ false) × (is k kinds.Not ≡ false)

abbrev pub EndsConversion : Derivation G.Conversion → Kind → Type 0
EndsConversion G.conversion_default k = is k kinds.FStringBang ≡ false
EndsConversion (G.conversion_absent s) k = is k kinds.Identifier ≡ false
EndsConversion (G.conversion_name s text i) k = ⊤

-- what may follow a list of expressions without delimiters
abbrev pub EndsList : Derivation G.TestList → Kind → Type 0
EndsList (G.list_plain d) k = (binding_power k ≤ 0) × (is k kinds.Comma ≡ false)
EndsList (G.list_comma d c) k = starts_test k ≡ false

abbrev pub EndsAnnotation : Derivation G.Annotation → Kind → Type 0
EndsAnnotation G.annotation_none k = is k kinds.Colon ≡ false
EndsAnnotation (G.annotation_note c d) k = binding_power k ≤ 0

abbrev pub EndsSymbols : Derivation G.Symbols → Kind → Type 0
EndsSymbols G.symbols_none k = is k kinds.Comma ≡ false
EndsSymbols (G.symbols_list c d) k = (is k kinds.Equal ≡ false) × (is k kinds.Comma ≡ false) × (starts_symbol k ≡ false)

abbrev pub EndsSym : Derivation G.Sym → Kind → Type 0
EndsSym (G.sym_same text s) k = ⊤
EndsSym (G.sym_other text i e their s) k = ⊤
EndsSym (G.sym_alone text i) k = is k kinds.Equal ≡ false

-- what may follow a small statement
abbrev pub EndsSmall : Derivation G.Small → Kind → Type 0
EndsSmall (G.small_return r) k = starts_test k ≡ false
EndsSmall (G.small_return_value r d) k = EndsList d k
EndsSmall (G.small_break s) k = ⊤
EndsSmall (G.small_continue s) k = ⊤
EndsSmall (G.small_pass s) k = ⊤
EndsSmall (G.small_load l o text i d e) k = ⊤
EndsSmall (G.small_test d) k = (binding_power k ≤ 0) × (is k kinds.Comma ≡ false) × (is k kinds.Colon ≡ false) × (assign_at k ≡ None)
EndsSmall (G.small_assign d n o s e) k = EndsList e k

abbrev pub EndsSmalls : Derivation G.Smalls → Kind → Type 0
EndsSmalls (G.smalls_one d) k = EndsSmall d k
EndsSmalls (G.smalls_more d s e) k = EndsSmall e k

abbrev pub EndsReturn : Derivation G.ReturnType → Kind → Type 0
EndsReturn G.return_type_none k = is k kinds.MinusGreater ≡ false
EndsReturn (G.return_type_note a d) k = binding_power k ≤ 0

-- a derivation with statements may come before these tokens: no `elif` or `else` continues an `if`, and a block without its Dedent is at the end
abbrev pub Closes : {n : Nonterminal} → Derivation n → Ending → List Lexeme → Type 0
Closes (G.module_newline m s) z r = Closes m z (lexeme tokens.Newline s ∷ r)
Closes (G.module_stmt m d) z r = Closes m z (yield_of d r) × Closes d z r
Closes (G.stmt_def d text i o ps c t k s) z r = Closes s z r
Closes (G.stmt_if i d c s e) z r = Closes s z (yield_of e r) × Closes e z r
Closes (G.stmt_for d) z r = Closes d z r
Closes (G.for_loop f d i e c s) z r = Closes s z r
Closes G.rest_none z r = (is (look z r).kind kinds.Elif ≡ false) × (is (look z r).kind kinds.Else ≡ false)
Closes (G.rest_elif i d c s e) z r = Closes s z (yield_of e r) × Closes e z r
Closes (G.rest_else i c s) z r = Closes s z r
Closes (G.suite_block n d i b e) z r = Closes b z (lexeme tokens.Dedent e ∷ r)
Closes (G.suite_open n d i b) z r = Closes b z r × ((look z r).kind ≡ kinds.End)
Closes (G.block_first d s) z r = Closes s z r
Closes (G.block_newline b s) z r = Closes b z (lexeme tokens.Newline s ∷ r)
Closes (G.block_stmt b s) z r = Closes b z (yield_of s r) × Closes s z r
Closes d z r = ⊤

-- what may follow a derivation
abbrev pub Ends : Ending → (n : Nonterminal) → Derivation n → List Lexeme → Type 0
Ends z G.Module d r = Closes d z r
Ends z G.Stmt d r = Closes d z r
Ends z G.Suite d r = Closes d z r
Ends z G.Block d r = Closes d z r
Ends z G.Rest d r = Closes d z r
Ends z G.For d r = Closes d z r
Ends z G.Newlines d r = ⊤
Ends z G.ReturnType d r = EndsReturn d (look z r).kind
Ends z G.DefParam d r = IsAfter G.def_parameters (look z r).kind
Ends z G.Simple d r = ⊤
Ends z G.Smalls d r = EndsSmalls d (look z r).kind
Ends z G.Small d r = EndsSmall d (look z r).kind
Ends z G.TestList d r = EndsList d (look z r).kind
Ends z G.Annotation d r = EndsAnnotation d (look z r).kind
Ends z G.Note d r = binding_power (look z r).kind ≤ 0
Ends z G.Symbols d r = EndsSymbols d (look z r).kind
Ends z G.Sym d r = EndsSym d (look z r).kind
Ends z G.Sub d r = (binding_power (look z r).kind ≤ 0) × (is (look z r).kind kinds.Comma ≡ false) × (is (look z r).kind kinds.Colon ≡ false)
    × (starts_test (look z r).kind ≡ false)
Ends z G.Bound d r = (binding_power (look z r).kind ≤ 0) × (starts_test (look z r).kind ≡ false)
Ends z G.Arg d r = IsAfter G.arguments (look z r).kind
Ends z G.LambdaParam d r = IsAfter G.lambda_parameters (look z r).kind
Ends z G.FStringParts d r = ⊤
Ends z G.Conversion d r = EndsConversion d (look z r).kind
Ends z G.LoopVars d r = EndsVars d (look z r).kind
Ends z G.ForClause d r = binding_power (look z r).kind ≤ 1
Ends z G.Clauses d r = binding_power (look z r).kind ≤ 1
Ends z (G.OptionalList i) d r = IsAfter i (look z r).kind × (is (look z r).kind kinds.Comma ≡ false) × (starts_element i (look z r).kind ≡ false)
Ends z (G.CommaList i) d r = IsAfter i (look z r).kind
Ends z n d r = binding_power (look z r).kind ≤ own n

is_not : (k t : Kind) → (binding_power k ≡ binding_power t → ⊥) → is k t ≡ false
is_not k t h = is_false k t (λ e. h (ap binding_power e))

operator_none : (k : PrecedenceLevel) (l : Kind) → binding_power l ≤ below k → operator_at k l ≡ None
operator_none G.or_precedence l h = rw (is_not l kinds.Or (omega arith)) refl
operator_none G.and_precedence l h = rw (is_not l kinds.And (omega arith)) refl
operator_none G.bit_or_precedence l h = rw (is_not l kinds.Pipe (omega arith)) refl
operator_none G.xor_precedence l h = rw (is_not l kinds.Caret (omega arith)) refl
operator_none G.bit_and_precedence l h = rw (is_not l kinds.Ampersand (omega arith)) refl
operator_none G.shift_precedence l h = rw (is_not l kinds.LessLess (omega arith), is_not l kinds.GreaterGreater (omega arith)) refl
operator_none G.add_precedence l h = rw (is_not l kinds.Plus (omega arith), is_not l kinds.Minus (omega arith)) refl
operator_none G.multiply_precedence l h =
    rw (is_not l kinds.Star (omega arith), is_not l kinds.Slash (omega arith), is_not l kinds.SlashSlash (omega arith), is_not l kinds.Percent (omega arith))
    refl

pub operator_powers : {k : PrecedenceLevel} (o : Operator k) → binding_power (kind_of (operator_token o)) ≤ level_own k
operator_powers G.or_sign = lit≤ tt
operator_powers G.and_sign = lit≤ tt
operator_powers G.pipe = lit≤ tt
operator_powers G.caret = lit≤ tt
operator_powers G.ampersand = lit≤ tt
operator_powers G.less_less = lit≤ tt
operator_powers G.greater_greater = lit≤ tt
operator_powers G.plus = lit≤ tt
operator_powers G.minus = lit≤ tt
operator_powers G.star = lit≤ tt
operator_powers G.slash = lit≤ tt
operator_powers G.slash_slash = lit≤ tt
operator_powers G.percent = lit≤ tt

ends_under : (z : Ending) {k : PrecedenceLevel} {n : Nonterminal} (u : OperandOf k n) (d : Derivation n) (r : List Lexeme)
    → binding_power (look z r).kind ≤ level_own k → Ends z n d r
ends_under z G.of_or d r h = omega arith
ends_under z G.of_and d r h = h
ends_under z G.of_bit_or d r h = omega arith
ends_under z G.of_xor d r h = omega arith
ends_under z G.of_bit_and d r h = omega arith
ends_under z G.of_shift d r h = omega arith
ends_under z G.of_add d r h = omega arith
ends_under z G.of_multiply d r h = h

ends_symbol : (d : Derivation G.Sym) (l : Kind) → is l kinds.Equal ≡ false → EndsSym d l
ends_symbol (G.sym_same text s) l h = tt
ends_symbol (G.sym_other text i e their s) l h = tt
ends_symbol (G.sym_alone text i) l h = h

ends_of : (z : Ending) {i : ElementKind} {n : Nonterminal} (u : ElementOf i n) (d : Derivation n) (r : List Lexeme) → IsAfter i (look z r).kind → Ends z n d r
ends_of z G.of_elements d r h = h
ends_of z G.of_arguments d r h = h
ends_of z G.of_entries d r h = h
ends_of z G.of_lambda_parameters d r h = h
ends_of z G.of_variables d r h = omega arith
ends_of z G.of_symbols d r h = ends_symbol d (look z r).kind h
ends_of z G.of_def_parameters d r h = h

-- a comma may follow an item
pub comma_after : (i : ElementKind) → IsAfter i kinds.Comma
comma_after G.elements = lit≤ tt
comma_after G.arguments = (lit≤ tt, refl)
comma_after G.entries = lit≤ tt
comma_after G.lambda_parameters = (lit≤ tt, refl, refl)
comma_after G.variables = lit≤ tt
comma_after G.symbols = refl
comma_after G.def_parameters = (lit≤ tt, refl, refl, refl)

-- what ends a line or a small statement on it may follow a list
pub list_ended : (d : Derivation G.TestList) (k : Kind) → binding_power k ≤ 0 → is k kinds.Comma ≡ false → starts_test k ≡ false → EndsList d k
list_ended (G.list_plain d) k a b e = (a, b)
list_ended (G.list_comma d c) k a b e = e

pub semicolon_after : (d : Derivation G.Small) → EndsSmall d kinds.Semicolon
semicolon_after (G.small_return r) = refl
semicolon_after (G.small_return_value r d) = list_ended d kinds.Semicolon (lit≤ tt) refl refl
semicolon_after (G.small_break s) = tt
semicolon_after (G.small_continue s) = tt
semicolon_after (G.small_pass s) = tt
semicolon_after (G.small_load l o text i d e) = tt
semicolon_after (G.small_test d) = (lit≤ tt, refl, refl, refl)
semicolon_after (G.small_assign d n o s e) = list_ended e kinds.Semicolon (lit≤ tt) refl refl

newline_after : (d : Derivation G.Small) → EndsSmall d kinds.Newline
newline_after (G.small_return r) = refl
newline_after (G.small_return_value r d) = list_ended d kinds.Newline (lit≤ tt) refl refl
newline_after (G.small_break s) = tt
newline_after (G.small_continue s) = tt
newline_after (G.small_pass s) = tt
newline_after (G.small_load l o text i d e) = tt
newline_after (G.small_test d) = (lit≤ tt, refl, refl, refl)
newline_after (G.small_assign d n o s e) = list_ended e kinds.Newline (lit≤ tt) refl refl

pub semicolon_after_all : (d : Derivation G.Smalls) → EndsSmalls d kinds.Semicolon
semicolon_after_all (G.smalls_one d) = semicolon_after d
semicolon_after_all (G.smalls_more d s e) = semicolon_after e

newline_after_all : (d : Derivation G.Smalls) → EndsSmalls d kinds.Newline
newline_after_all (G.smalls_one d) = newline_after d
newline_after_all (G.smalls_more d s e) = newline_after e

-- the operator of an assignment, and `:`, may follow a list
pub colon_after : (d : Derivation G.TestList) → EndsList d kinds.Colon
colon_after d = list_ended d kinds.Colon (lit≤ tt) refl refl

pub sign_after : (d : Derivation G.TestList) (o : AssignSign) → EndsList d (kind_of (assign_token o))
sign_after d G.equal_sign = list_ended d kinds.Equal (lit≤ tt) refl refl
sign_after d G.plus_equal = list_ended d kinds.PlusEqual (lit≤ tt) refl refl
sign_after d G.minus_equal = list_ended d kinds.MinusEqual (lit≤ tt) refl refl
sign_after d G.star_equal = list_ended d kinds.StarEqual (lit≤ tt) refl refl
sign_after d G.slash_equal = list_ended d kinds.SlashEqual (lit≤ tt) refl refl
sign_after d G.slash_slash_equal = list_ended d kinds.SlashSlashEqual (lit≤ tt) refl refl
sign_after d G.percent_equal = list_ended d kinds.PercentEqual (lit≤ tt) refl refl
sign_after d G.ampersand_equal = list_ended d kinds.AmpersandEqual (lit≤ tt) refl refl
sign_after d G.pipe_equal = list_ended d kinds.PipeEqual (lit≤ tt) refl refl
sign_after d G.caret_equal = list_ended d kinds.CaretEqual (lit≤ tt) refl refl
sign_after d G.less_less_equal = list_ended d kinds.LessLessEqual (lit≤ tt) refl refl
sign_after d G.greater_greater_equal = list_ended d kinds.GreaterGreaterEqual (lit≤ tt) refl refl

sign_power_nothing : (o : AssignSign) → binding_power (kind_of (assign_token o)) ≤ 0
sign_power_nothing G.equal_sign = lit≤ tt
sign_power_nothing G.plus_equal = lit≤ tt
sign_power_nothing G.minus_equal = lit≤ tt
sign_power_nothing G.star_equal = lit≤ tt
sign_power_nothing G.slash_equal = lit≤ tt
sign_power_nothing G.slash_slash_equal = lit≤ tt
sign_power_nothing G.percent_equal = lit≤ tt
sign_power_nothing G.ampersand_equal = lit≤ tt
sign_power_nothing G.pipe_equal = lit≤ tt
sign_power_nothing G.caret_equal = lit≤ tt
sign_power_nothing G.less_less_equal = lit≤ tt
sign_power_nothing G.greater_greater_equal = lit≤ tt

sign_no_colon : (o : AssignSign) → is (kind_of (assign_token o)) kinds.Colon ≡ false
sign_no_colon G.equal_sign = refl
sign_no_colon G.plus_equal = refl
sign_no_colon G.minus_equal = refl
sign_no_colon G.star_equal = refl
sign_no_colon G.slash_equal = refl
sign_no_colon G.slash_slash_equal = refl
sign_no_colon G.percent_equal = refl
sign_no_colon G.ampersand_equal = refl
sign_no_colon G.pipe_equal = refl
sign_no_colon G.caret_equal = refl
sign_no_colon G.less_less_equal = refl
sign_no_colon G.greater_greater_equal = refl

pub annotation_after : (n : Derivation G.Annotation) (o : AssignSign) → EndsAnnotation n (kind_of (assign_token o))
annotation_after G.annotation_none o = sign_no_colon o
annotation_after (G.annotation_note c d) o = sign_power_nothing o

pub annotation_over : (n : Derivation G.Annotation) (k : Kind) → binding_power k ≤ 0 → is k kinds.Colon ≡ false → EndsAnnotation n k
annotation_over G.annotation_none k a b = b
annotation_over (G.annotation_note c d) k a b = a

pub colon_after_return : (d : Derivation G.ReturnType) → EndsReturn d kinds.Colon
colon_after_return G.return_type_none = refl
colon_after_return (G.return_type_note a d) = lit≤ tt

-- `)` may follow the symbols of a load
symbols_ended : (d : Derivation G.Symbols) → EndsSymbols d kinds.ClosingRound
symbols_ended G.symbols_none = refl
symbols_ended (G.symbols_list c d) = (refl, refl, refl)

-- `in` may follow loop variables
pub in_after : (d : Derivation G.LoopVars) → EndsVars d kinds.In
in_after (G.vars_plain d) = (lit≤ tt, refl)
in_after (G.vars_comma d c) = (refl, refl)

-- what may follow the end of the loop variables, when it ends an f-string's replacement field
pub closer_after : (d : Derivation G.Conversion) → EndsConversion d kinds.FStringExprEnd
closer_after G.conversion_default = refl
closer_after (G.conversion_absent s) = refl
closer_after (G.conversion_name s t i) = tt

-- what binds less tightly than a comparison is not one
no_comparison : (l : Kind) → binding_power l ≤ 3 → comparison_at l ≡ None
no_comparison kinds.EqualEqual h = absurd (omega arith)
no_comparison kinds.BangEqual h = absurd (omega arith)
no_comparison kinds.LessThan h = absurd (omega arith)
no_comparison kinds.GreaterThan h = absurd (omega arith)
no_comparison kinds.LessEqual h = absurd (omega arith)
no_comparison kinds.GreaterEqual h = absurd (omega arith)
no_comparison kinds.In h = absurd (omega arith)
no_comparison l h = refl

compares_not : (l : Kind) → binding_power l ≤ 3 → compares l ≡ false
compares_not kinds.EqualEqual h = absurd (omega arith)
compares_not kinds.BangEqual h = absurd (omega arith)
compares_not kinds.LessThan h = absurd (omega arith)
compares_not kinds.GreaterThan h = absurd (omega arith)
compares_not kinds.LessEqual h = absurd (omega arith)
compares_not kinds.GreaterEqual h = absurd (omega arith)
compares_not kinds.In h = absurd (omega arith)
compares_not kinds.Not h = absurd (omega arith)
compares_not l h = refl

-- an expression that is a name
abbrev name_alone : Text → Span → Derivation G.Test
name_alone text s =
    G.test_or (G.left_one G.of_or (G.left_one G.of_and (G.not_comp (G.comp_one (G.left_one G.of_bit_or (G.left_one G.of_xor (G.left_one G.of_bit_and
    (G.left_one G.of_shift (G.left_one G.of_add (G.left_one G.of_multiply (G.unary_primary (G.primary_atom (G.atom_name text s)))))))))))))

module _ (z : Ending) where
  -- newlines begin with this kind, or what is after them does
  pub newlines_first : (d : Derivation G.Newlines) (q : List Lexeme) → starts_block (look z q).kind ≡ true → starts_block (look z (yield_of d q)).kind ≡ true
  newlines_first G.newlines_none q h = h
  newlines_first (G.newlines_more d s) q h = newlines_first d (lexeme tokens.Newline s ∷ q) refl

  -- each derivation begins with this kind
  pub first : {n : Nonterminal} (d : Derivation n) (r : List Lexeme) → starts n (look z (yield_of d r)).kind ≡ true
  first G.module_none r = refl
  first (G.module_newline m s) r = refl
  first (G.module_stmt m d) r = refl
  first (G.stmt_simple d) r = small_stmt (look z (yield_of d r)).kind (first d r)
  first (G.stmt_def d text i o ps c t k s) r = refl
  first (G.stmt_if i d c s e) r = refl
  first (G.stmt_for d) r = for_stmt (look z (yield_of d r)).kind (first d r)
  first (G.for_loop f d i e c s) r = refl
  first G.rest_none r = refl
  first (G.rest_elif i d c s e) r = refl
  first (G.rest_else i c s) r = refl
  first (G.suite_simple d) r = small_suite (look z (yield_of d r)).kind (first d r)
  first (G.suite_block n d i b e) r = refl
  first (G.suite_open n d i b) r = refl
  first G.newlines_none r = refl
  first (G.newlines_more d s) r = refl
  first (G.block_first d s) r = newlines_first d (yield_of s r) (stmt_block (look z (yield_of s r)).kind (first s r))
  first (G.block_newline b s) r = first b _
  first (G.block_stmt b s) r = first b _
  first G.return_type_none r = refl
  first (G.return_type_note a d) r = refl
  first (G.def_param_slash s) r = refl
  first (G.def_param_star s) r = refl
  first (G.def_param_args s text i d) r = refl
  first (G.def_param_kwargs s text i d) r = refl
  first (G.def_param_name text i d) r = refl
  first (G.def_param_default text i d e v) r = refl
  first (G.simple_line d n) r = first d _
  first (G.simple_semicolon d s n) r = first d _
  first (G.smalls_one d) r = first d r
  first (G.smalls_more d s e) r = first d _
  first (G.small_return s) r = refl
  first (G.small_return_value s d) r = refl
  first (G.small_break s) r = refl
  first (G.small_continue s) r = refl
  first (G.small_pass s) r = refl
  first (G.small_load l o text i d e) r = refl
  first (G.small_test d) r = test_small (look z (yield_of d r)).kind (first d r)
  first (G.small_assign d n o s e) r = let q : List Lexeme = yield_of n (lexeme (assign_token o) s ∷ yield_of e r) in
      test_small (look z (yield_of d q)).kind (first d q)
  first (G.list_plain d) r = first d r
  first (G.list_comma d c) r = first d _
  first G.annotation_none r = refl
  first (G.annotation_note c d) r = refl
  first (G.note_test d) r = first d r
  first G.symbols_none r = refl
  first (G.symbols_list c d) r = refl
  first (G.sym_same text s) r = refl
  first (G.sym_other text i e their s) r = refl
  first (G.sym_alone text i) r = refl
  first (G.test_or d) r = or_test (look z (yield_of d r)).kind (first d r)
  first (G.test_if d i c e f) r = or_test (look z (yield_of d (lexeme tokens.If i ∷ yield_of c (lexeme tokens.Else e ∷ yield_of f r)))).kind (first d _)
  first (G.test_lambda l d c e) r = refl
  first (G.left_one G.of_or d) r = first d r
  first (G.left_one G.of_and d) r = first d r
  first (G.left_one G.of_bit_or d) r = first d r
  first (G.left_one G.of_xor d) r = first d r
  first (G.left_one G.of_bit_and d) r = first d r
  first (G.left_one G.of_shift d) r = first d r
  first (G.left_one G.of_add d) r = first d r
  first (G.left_one G.of_multiply d) r = first d r
  first (G.left_more u d o s e) r = first d _
  first (G.not_not s d) r = refl
  first (G.not_comp d) r = operand_or (look z (yield_of d r)).kind (first d r)
  first (G.comp_one d) r = first d r
  first (G.comp_two d o e) r = first d _
  first (G.unary_sign G.plus_sign s d) r = refl
  first (G.unary_sign G.minus_sign s d) r = refl
  first (G.unary_sign G.tilde_sign s d) r = refl
  first (G.unary_primary d) r = atom_operand (look z (yield_of d r)).kind (first d r)
  first (G.primary_atom d) r = first d r
  first (G.primary_dot d s t i) r = first d _
  first (G.primary_subscript d o f c) r = first d _
  first (G.sub_one d) r = test_sub (look z (yield_of d r)).kind (first d r)
  first (G.sub_two d c e) r = test_sub (look z (yield_of d (lexeme tokens.Comma c ∷ yield_of e r))).kind (first d _)
  first (G.sub_slice G.bound_none c e) r = refl
  first (G.sub_slice (G.bound_test d) c e) r = test_sub (look z (yield_of d (lexeme tokens.Colon c ∷ yield_of e r))).kind (first d _)
  first (G.sub_step G.bound_none c e s f) r = refl
  first (G.sub_step (G.bound_test d) c e s f) r = test_sub
      (look z (yield_of d (lexeme tokens.Colon c ∷ yield_of e (lexeme tokens.Colon s ∷ yield_of f r)))).kind
      (first d _)
  first G.bound_none r = refl
  first (G.bound_test d) r = refl
  first (G.primary_call d o f c) r = first d _
  first (G.arg_test d) r = test_argument (look z (yield_of d r)).kind (first d r)
  first (G.arg_named t s e d) r = refl
  first (G.arg_star s d) r = refl
  first (G.arg_stars s d) r = refl
  first (G.entry d c e) r = first d _
  first (G.lambda_param_slash s) r = refl
  first (G.lambda_param_star s) r = refl
  first (G.lambda_param_args s t i) r = refl
  first (G.lambda_param_kwargs s t i) r = refl
  first (G.lambda_param_name t i) r = refl
  first (G.lambda_param_default t i e d) r = refl
  first (G.atom_name t s) r = refl
  first (G.atom_int n s) r = refl
  first (G.atom_float t s) r = refl
  first (G.atom_string t s) r = refl
  first (G.atom_bytes t s) r = refl
  first (G.atom_ellipsis s) r = refl
  first (G.atom_round o d c) r = refl
  first (G.atom_square o d c) r = refl
  first (G.atom_curly o d c) r = refl
  first (G.atom_list_comprehension o d e c) r = refl
  first (G.atom_dict_comprehension o d e c) r = refl
  first (G.vars_plain d) r = first d r
  first (G.vars_comma d c) r = first d _
  first (G.for_clause f d i e) r = refl
  first (G.clauses_one d) r = first d r
  first (G.clauses_for d e) r = first d _
  first (G.clauses_if d i e) r = first d _
  first (G.atom_f_string q s d e) r = refl
  first G.parts_none r = refl
  first (G.parts_text d t s) r = refl
  first (G.parts_replacement d o e c x) r = refl
  first G.conversion_default r = refl
  first (G.conversion_absent s) r = refl
  first (G.conversion_name s t i) r = refl
  first G.optional_list_none r = refl
  first (G.optional_list_plain d) r = refl
  first (G.optional_list_comma d c) r = refl
  first (G.comma_list_one G.of_elements d) r = first d r
  first (G.comma_list_one G.of_arguments d) r = first d r
  first (G.comma_list_one G.of_entries d) r = first d r
  first (G.comma_list_one G.of_lambda_parameters d) r = first d r
  first (G.comma_list_one G.of_variables d) r = first d r
  first (G.comma_list_one G.of_symbols d) r = first d r
  first (G.comma_list_one G.of_def_parameters d) r = first d r
  first (G.comma_list_more u d c e) r = first d _

  abbrev pub Completes : {b : Nonterminal} (n : Nonterminal) → Place b n → Derivation n → List Lexeme → Type 0
  Completes G.Newlines p d r = Reaches z (config (read G.Newlines p) (yield_of d r)) (config (newlines_tail d p) r)
  Completes G.Block p d r = Reaches z (config (read G.Block p) (yield_of d r)) (config (block_tail d p) r)
  Completes G.Clauses p d r = Reaches z (config (read G.Clauses p) (yield_of d r)) (config (clauses_tail d p) r)
  Completes G.Module p d r = Reaches z (config (read G.Module p) (yield_of d r)) (config (module_tail d p) r)
  Completes G.FStringParts p d r = Reaches z (config (read G.FStringParts p) (yield_of d r)) (config (parts_tail d p) r)
  Completes (G.LeftAssociative k) p d r = Reaches z (config (read (G.LeftAssociative k) p) (yield_of d r)) (config (left_tail d p) r)
  Completes G.Primary p d r = Reaches z (config (read G.Primary p) (yield_of d r)) (config (primary_tail d p) r)
  Completes n p d r = Reaches z (config (read n p) (yield_of d r)) (config (done d p) r)

  -- one step that keeps the first token
  kept : {b : Nonterminal} {s t : State b} (r : List Lexeme) → move s (look z r) ≡ Keep t → Reaches z (config s r) (config t r)
  kept r m = leaves r m here

  -- if no operator of the level follows, its operands are done
  pub settle : {b : Nonterminal} (k : PrecedenceLevel) (p : Place b (G.LeftAssociative k)) (d : Derivation (G.LeftAssociative k)) (r : List Lexeme)
      → binding_power (look z r).kind ≤ below k → Completes (G.LeftAssociative k) p d r
      → Reaches z (config (read (G.LeftAssociative k) p) (yield_of d r)) (config (done d p) r)
  settle k p d r h q = trans q (kept r (ap (after_left d p (look z r).first.span) (operator_none k (look z r).kind h)))

  settle_primary : {b : Nonterminal} (p : Place b G.Primary) (d : Derivation G.Primary) (r : List Lexeme) → binding_power (look z r).kind ≤ 10
      → Completes G.Primary p d r
      → Reaches z (config (read G.Primary p) (yield_of d r)) (config (done d p) r)
  settle_primary p d r h q = trans q (kept r (rw (
    is_not (look z r).kind kinds.Dot (omega arith),
    is_not (look z r).kind kinds.OpeningSquare (omega arith),
    is_not (look z r).kind kinds.OpeningRound (omega arith),
  ) refl))

  settle_under : {b : Nonterminal} {k : PrecedenceLevel} {n : Nonterminal} (u : OperandOf k n) (p : Place b n) (d : Derivation n) (r : List Lexeme)
      → binding_power (look z r).kind ≤ level_own k → Completes n p d r
      → Reaches z (config (read n p) (yield_of d r)) (config (done d p) r)
  settle_under G.of_or p d r h q = settle G.and_precedence p d r h q
  settle_under G.of_and p d r h q = q
  settle_under G.of_bit_or p d r h q = settle G.xor_precedence p d r h q
  settle_under G.of_xor p d r h q = settle G.bit_and_precedence p d r h q
  settle_under G.of_bit_and p d r h q = settle G.shift_precedence p d r h q
  settle_under G.of_shift p d r h q = settle G.add_precedence p d r h q
  settle_under G.of_add p d r h q = settle G.multiply_precedence p d r h q
  settle_under G.of_multiply p d r h q = q

  -- the machine goes to the first operand of a level
  reads_first : {b : Nonterminal} {k : PrecedenceLevel} {n : Nonterminal} (u : OperandOf k n) (p : Place b (G.LeftAssociative k)) (r : List Lexeme)
      → Reaches z (config (read (G.LeftAssociative k) p) r) (config (read n (left_first_at u p)) r)
  reads_first G.of_or p r = more here
  reads_first G.of_and p r = more here
  reads_first G.of_bit_or p r = more here
  reads_first G.of_xor p r = more here
  reads_first G.of_bit_and p r = more here
  reads_first G.of_shift p r = more here
  reads_first G.of_add p r = more here
  reads_first G.of_multiply p r = more here

  -- and past an operator to the next
  pub reads_right : {b : Nonterminal} {k : PrecedenceLevel} {n : Nonterminal} (u : OperandOf k n) (d : Derivation (G.LeftAssociative k)) (o : Operator k)
      (s : Span) (p : Place b (G.LeftAssociative k)) (r : List Lexeme)
      → Reaches z (config (left_tail d p) (lexeme (operator_token o) s ∷ r)) (config (read n (left_right_at u d o s p)) r)
  reads_right G.of_or d G.or_sign s p r = more here
  reads_right G.of_and d G.and_sign s p r = more here
  reads_right G.of_bit_or d G.pipe s p r = more here
  reads_right G.of_xor d G.caret s p r = more here
  reads_right G.of_bit_and d G.ampersand s p r = more here
  reads_right G.of_shift d G.less_less s p r = more here
  reads_right G.of_shift d G.greater_greater s p r = more here
  reads_right G.of_add d G.plus s p r = more here
  reads_right G.of_add d G.minus s p r = more here
  reads_right G.of_multiply d G.star s p r = more here
  reads_right G.of_multiply d G.slash s p r = more here
  reads_right G.of_multiply d G.slash_slash s p r = more here
  reads_right G.of_multiply d G.percent s p r = more here

  -- an element of a list is what it is
  settle_element : {b : Nonterminal} {i : ElementKind} {n : Nonterminal} (u : ElementOf i n) (p : Place b n) (d : Derivation n) (r : List Lexeme)
      → IsAfter i (look z r).kind → Completes n p d r → Reaches z (config (read n p) (yield_of d r)) (config (done d p) r)
  settle_element G.of_elements p d r h q = q
  settle_element G.of_arguments p d r h q = q
  settle_element G.of_entries p d r h q = q
  settle_element G.of_lambda_parameters p d r h q = q
  settle_element G.of_variables p d r h q = settle G.bit_or_precedence p d r h q
  settle_element G.of_symbols p d r h q = q
  settle_element G.of_def_parameters p d r h q = q

  -- the machine goes to the first item of a list, and past a comma to the next
  pub reads_list_element : {b : Nonterminal} {i : ElementKind} {n : Nonterminal} (u : ElementOf i n) (p : Place b (G.CommaList i)) (r : List Lexeme)
      → Reaches z (config (read (G.CommaList i) p) r) (config (read n (comma_list_one_at u p)) r)
  reads_list_element G.of_elements p r = more here
  reads_list_element G.of_arguments p r = more here
  reads_list_element G.of_entries p r = more here
  reads_list_element G.of_lambda_parameters p r = more here
  reads_list_element G.of_variables p r = more here
  reads_list_element G.of_symbols p r = more here
  reads_list_element G.of_def_parameters p r = more here

  reads_next : {b : Nonterminal} {i : ElementKind} {n : Nonterminal} (u : ElementOf i n) (d : Derivation (G.CommaList i)) (c : Span)
      (p : Place b (G.OptionalList i)) (e : Derivation n) (r : List Lexeme)
      → Reaches z (config (after_comma d c p) (yield_of e r)) (config (read n (comma_list_more_at u d c (comma_list_at p))) (yield_of e r))
  reads_next G.of_elements d c p e r = more (rw (first e r) here)
  reads_next G.of_arguments d c p e r = more (rw (first e r) here)
  reads_next G.of_entries d c p e r = more (rw (first e r) here)
  reads_next G.of_lambda_parameters d c p e r = more (rw (first e r) here)
  reads_next G.of_variables d c p e r = more (rw (first e r) here)
  reads_next G.of_symbols d c p e r = more (rw (first e r) here)
  reads_next G.of_def_parameters d c p e r = more (rw (first e r) here)

  -- the binding power of the operator of a comparison, and how it is read
  pub sign_powers : (o : CompSign) (r : List Lexeme) → binding_power (look z (side_yield (sign_side o) r)).kind ≤ 4
  sign_powers (G.comparison G.equal s) r = lit≤ tt
  sign_powers (G.comparison G.not_equal s) r = lit≤ tt
  sign_powers (G.comparison G.less s) r = lit≤ tt
  sign_powers (G.comparison G.greater s) r = lit≤ tt
  sign_powers (G.comparison G.less_or_equal s) r = lit≤ tt
  sign_powers (G.comparison G.greater_or_equal s) r = lit≤ tt
  sign_powers (G.comparison G.membership s) r = lit≤ tt
  sign_powers (G.not_in s i) r = lit≤ tt

  pub reads_sign : {b : Nonterminal} (d : Derivation (G.LeftAssociative G.bit_or_precedence)) (o : CompSign) (p : Place b G.Comp) (r : List Lexeme)
      → Reaches z (config (done d (comp_first_at p)) (side_yield (sign_side o) r))
      (config (read (G.LeftAssociative G.bit_or_precedence) (comp_right_at d o p)) r)
  reads_sign d (G.comparison G.equal s) p r = more here
  reads_sign d (G.comparison G.not_equal s) p r = more here
  reads_sign d (G.comparison G.less s) p r = more here
  reads_sign d (G.comparison G.greater s) p r = more here
  reads_sign d (G.comparison G.less_or_equal s) p r = more here
  reads_sign d (G.comparison G.greater_or_equal s) p r = more here
  reads_sign d (G.comparison G.membership s) p r = more here
  reads_sign d (G.not_in s i) p r = more (more here)

  pub reads_unary : {b : Nonterminal} (o : UnarySign) (s : Span) (p : Place b G.Unary) (r : List Lexeme)
      → Reaches z (config (read G.Unary p) (lexeme (unary_token o) s ∷ r)) (config (read G.Unary (unary_sign_at o s p)) r)
  reads_unary G.plus_sign s p r = more here
  reads_unary G.minus_sign s p r = more here
  reads_unary G.tilde_sign s p r = more here

  -- one element of a list, or one entry, followed by `for`
  pub reads_element : {b : Nonterminal} (d : Derivation G.Test) (p : Place b (G.OptionalList G.elements)) (r : List Lexeme) → (look z r).kind ≡ kinds.For
      → Completes G.Test (comma_list_one_at G.of_elements (comma_list_at p)) d r
      → Reaches z (config (read (G.OptionalList G.elements) p) (yield_of d r)) (config (done (G.optional_list_plain (G.comma_list_one G.of_elements d)) p) r)
  reads_element d p r f q =
      let a : Config _ = config (done (G.comma_list_one G.of_elements d) (comma_list_at p)) r in
      let last : Reaches z a (config (done (G.optional_list_plain (G.comma_list_one G.of_elements d)) p) r) = more {a = a} (rw f here) in
      more (rw (first d r) (more (trans q (more {a = config (done d (comma_list_one_at G.of_elements (comma_list_at p))) r} last))))

  pub reads_entry : {b : Nonterminal} (d : Derivation G.Entry) (p : Place b (G.OptionalList G.entries)) (r : List Lexeme) → (look z r).kind ≡ kinds.For
      → Completes G.Entry (comma_list_one_at G.of_entries (comma_list_at p)) d r
      → Reaches z (config (read (G.OptionalList G.entries) p) (yield_of d r)) (config (done (G.optional_list_plain (G.comma_list_one G.of_entries d)) p) r)
  reads_entry d p r f q =
      let a : Config _ = config (done (G.comma_list_one G.of_entries d) (comma_list_at p)) r in
      let last : Reaches z a (config (done (G.optional_list_plain (G.comma_list_one G.of_entries d)) p) r) = more {a = a} (rw f here) in
      more (rw (first d r) (more (trans q (more {a = config (done d (comma_list_one_at G.of_entries (comma_list_at p))) r} last))))

  -- what follows the expression of an f-string does not continue it
  conversion_powers : (c : Derivation G.Conversion) (s : Span) (r : List Lexeme) → binding_power (look z (yield_of c (lexeme tokens.FStringExprEnd s ∷ r))).kind
      ≤ 0
  conversion_powers G.conversion_default s r = lit≤ tt
  conversion_powers (G.conversion_absent b) s r = lit≤ tt
  conversion_powers (G.conversion_name b t i) s r = lit≤ tt

  -- a name followed by `=`
  pub reads_name : {b : Nonterminal} (text : Text) (s e : Span) (p : Place b G.Test) (r : List Lexeme)
      → Reaches z (config (read G.Test p) (lexeme (tokens.Identifier text) s ∷ lexeme tokens.Equal e ∷ r))
      (config (done (name_alone text s) p) (lexeme tokens.Equal e ∷ r))
  reads_name text s e p r =
      more (more (more (more (more (more (more (more (more
      (more (more (more (more (more (more (more (more (more
      (more (more (more (more (more (more (more (more (more (more (more (more (more (more (more (more (more (more (here))))))))))))))))))))))))))))))))))))

  -- an annotation, or the operator of an assignment, makes the list a target
  pub reads_annotation : {b : Nonterminal} (d : Derivation G.TestList) (n : Derivation G.Annotation) (o : AssignSign) (s : Span) (p : Place b G.Small)
      (r : List Lexeme)
      → Reaches z (config (done d (small_list_at p)) (yield_of n (lexeme (assign_token o) s ∷ r)))
      (config (read G.Annotation (assign_annotation_at d p)) (yield_of n (lexeme (assign_token o) s ∷ r)))
  reads_annotation d (G.annotation_note c n) o s p r = more here
  reads_annotation d G.annotation_none G.equal_sign s p r = more here
  reads_annotation d G.annotation_none G.plus_equal s p r = more here
  reads_annotation d G.annotation_none G.minus_equal s p r = more here
  reads_annotation d G.annotation_none G.star_equal s p r = more here
  reads_annotation d G.annotation_none G.slash_equal s p r = more here
  reads_annotation d G.annotation_none G.slash_slash_equal s p r = more here
  reads_annotation d G.annotation_none G.percent_equal s p r = more here
  reads_annotation d G.annotation_none G.ampersand_equal s p r = more here
  reads_annotation d G.annotation_none G.pipe_equal s p r = more here
  reads_annotation d G.annotation_none G.caret_equal s p r = more here
  reads_annotation d G.annotation_none G.less_less_equal s p r = more here
  reads_annotation d G.annotation_none G.greater_greater_equal s p r = more here

  pub reads_assign : {b : Nonterminal} (d : Derivation G.TestList) (n : Derivation G.Annotation) (o : AssignSign) (s : Span) (p : Place b G.Small)
      (r : List Lexeme)
      → Reaches z (config (done n (assign_annotation_at d p)) (lexeme (assign_token o) s ∷ r)) (config (read G.TestList (assign_value_at d n o s p)) r)
  reads_assign d n G.equal_sign s p r = more here
  reads_assign d n G.plus_equal s p r = more here
  reads_assign d n G.minus_equal s p r = more here
  reads_assign d n G.star_equal s p r = more here
  reads_assign d n G.slash_equal s p r = more here
  reads_assign d n G.slash_slash_equal s p r = more here
  reads_assign d n G.percent_equal s p r = more here
  reads_assign d n G.ampersand_equal s p r = more here
  reads_assign d n G.pipe_equal s p r = more here
  reads_assign d n G.caret_equal s p r = more here
  reads_assign d n G.less_less_equal s p r = more here
  reads_assign d n G.greater_greater_equal s p r = more here

  -- what comes after a list in a small statement may follow the list
  pub list_before : (d : Derivation G.TestList) (n : Derivation G.Annotation) (o : AssignSign) (s : Span) (r : List Lexeme)
      → EndsList d (look z (yield_of n (lexeme (assign_token o) s ∷ r))).kind
  list_before d G.annotation_none o s r = sign_after d o
  list_before d (G.annotation_note c n) o s r = colon_after d

  -- a list of one expression that is not an assignment
  reads_single : {b : Nonterminal} (d : Derivation G.Test) (p : Place b G.Small) (r : List Lexeme)
      → Completes G.Test (comma_list_one_at G.of_elements (list_elements_at (small_list_at p))) d r
      → is (look z r).kind kinds.Comma ≡ false → is (look z r).kind kinds.Colon ≡ false → assign_at (look z r).kind ≡ None
      → Reaches z (config (read G.TestList (small_list_at p)) (yield_of d r)) (config (done (G.small_test d) p) r)
  reads_single d p r q f g h =
      let l : Derivation G.TestList = G.list_plain (G.comma_list_one G.of_elements d) in
      let a : Config _ = config (done (G.comma_list_one G.of_elements d) (list_elements_at (small_list_at p))) r in
      let c : Config _ = config (done l (small_list_at p)) r in
      let list : Reaches z a c = more {a = a} (rw f here) in
      let small : Reaches z c (config (done (G.small_test d) p) r) = more {a = c} (rw (g, h) here) in
      more (more (trans q (more {a = config (done d (comma_list_one_at G.of_elements (list_elements_at (small_list_at p)))) r} (trans list small))))

  pub complete : {b n : Nonterminal} (d : Derivation n) (p : Place b n) (r : List Lexeme) → Ends z n d r → Completes n p d r
  complete G.module_none p r h = more here
  complete (G.module_newline m s) p r h = trans (complete m p _ h) (more here)
  complete (G.module_stmt m d) p r h =
      trans (complete m p _ h.0)
      (more (rw (
        differs starts_stmt (look z (yield_of d r)).kind kinds.End (first d r) refl,
        differs starts_stmt (look z (yield_of d r)).kind kinds.Newline (first d r) refl,
      )
      (trans (complete d _ r h.1) (more here))))
  complete (G.stmt_simple d) p r h = leaves (yield_of d r) (stmt_is_simple p (look z (yield_of d r)).first (look z (yield_of d r)).kind (first d r))
      (trans (complete d _ r tt) (more here))
  complete (G.stmt_def d text i o ps c t k s) p r h =
      more (more (more (trans (complete ps _ _ ((lit≤ tt, refl, refl, refl), refl, refl))
      (more (more (trans (complete t _ _ (colon_after_return t)) (more (more (trans (complete s _ r h) (more here))))))))))
  complete (G.stmt_if i d c s e) p r h = more (trans (complete d _ _ (lit≤ tt))
      (more (more (trans (complete s _ _ h.0) (more (trans (complete e _ r h.1) (more here)))))))
  complete (G.stmt_for d) p r h =
      leaves (yield_of d r) (ap (move_stmt p (look z (yield_of d r)).first) (is_true (look z (yield_of d r)).kind kinds.For (first d r)))
      (trans (complete d _ r h) (more here))
  complete (G.for_loop f d i e c s) p r h =
      more (trans (complete d _ _ (in_after d)) (more (more (trans (complete e _ _ (lit≤ tt)) (more (more (trans (complete s _ r h) (more here))))))))
  complete G.rest_none p r h = more (rw (h.0, h.1) here)
  complete (G.rest_elif i d c s e) p r h = more (trans (complete d _ _ (lit≤ tt))
      (more (more (trans (complete s _ _ h.0) (more (trans (complete e _ r h.1) (more here)))))))
  complete (G.rest_else i c s) p r h = more (more (trans (complete s _ r h) (more here)))
  complete (G.suite_simple d) p r h = more (rw (differs starts_small (look z (yield_of d r)).kind kinds.Newline (first d r) refl)
      (trans (complete d _ r tt) (more here)))
  complete (G.suite_block n d i b e) p r h = more (trans (complete d _ _ tt) (more (more (more (trans (complete b _ _ h) (more (more here)))))))
  complete (G.suite_open n d i b) p r h =
      more (trans (complete d _ _ tt) (more (more (more (trans (complete b _ r h.0)
      (leaves r (ap (move_block b _ (look z r).first) h.1) (kept r (rw h.1 refl))))))))
  complete G.newlines_none p r h = more here
  complete (G.newlines_more d s) p r h = trans (complete d p _ tt) (more here)
  complete (G.block_first d s) p r h =
      more (trans (complete d _ (yield_of s r) tt) (more (rw (differs starts_stmt (look z (yield_of s r)).kind kinds.Newline (first s r) refl)
      (more (trans (complete s _ r h) (more here))))))
  complete (G.block_newline b s) p r h = trans (complete b p _ h) (more here)
  complete (G.block_stmt b s) p r h =
      trans (complete b p _ h.0) (leaves (yield_of s r) (block_goes_on b p (look z (yield_of s r)).first (look z (yield_of s r)).kind (first s r))
      (trans (complete s _ r h.1) (more here)))
  complete G.return_type_none p r h = more (rw h here)
  complete (G.return_type_note a d) p r h = more (trans (complete d _ r h) (more here))
  complete (G.def_param_slash s) p r h = more here
  complete (G.def_param_star s) p r h = more (more (rw h.3 here))
  complete (G.def_param_args s text i d) p r h = more (more (trans (complete d _ r (annotation_over d _ h.0 h.2)) (more here)))
  complete (G.def_param_kwargs s text i d) p r h = more (more (trans (complete d _ r (annotation_over d _ h.0 h.2)) (more here)))
  complete (G.def_param_name text i d) p r h = more (trans (complete d _ r (annotation_over d _ h.0 h.2)) (more (rw h.1 here)))
  complete (G.def_param_default text i d e v) p r h = more (trans (complete d _ _ (annotation_over d _ (lit≤ tt) refl))
      (more (trans (complete v _ r h.0) (more here))))
  complete (G.simple_line d s) p r h = more (trans (complete d _ _ (newline_after_all d)) (more (more here)))
  complete (G.simple_semicolon d s n) p r h = more (trans (complete d _ _ (semicolon_after_all d)) (more (more (more here))))
  complete (G.smalls_one d) p r h = more (trans (complete d _ r h) (more here))
  complete (G.smalls_more d s e) (simple_smalls_at p) r h =
      trans (complete d _ _ (semicolon_after_all d)) (more (more (rw (first e r) (trans (complete e _ r h) (more here)))))
  complete (G.smalls_more d s e) (left_first_at u q) r h = elim u [ ]
  complete (G.smalls_more d s e) (left_right_at u f o i q) r h = elim u [ ]
  complete (G.smalls_more d s e) (comma_list_one_at u q) r h = elim u [ ]
  complete (G.smalls_more d s e) (comma_list_more_at u f i q) r h = elim u [ ]
  complete (G.smalls_more d s e) (top u) r h = elim u [ ]
  complete (G.small_return s) p r h = more (more (rw h here))
  complete (G.small_return_value s d) p r h = more (more (rw (first d r) (trans (complete d _ r h) (more here))))
  complete (G.small_break s) p r h = more here
  complete (G.small_continue s) p r h = more here
  complete (G.small_pass s) p r h = more here
  complete (G.small_load l o text i d e) p r h = more (more (more (trans (complete d _ _ (symbols_ended d)) (more (more here)))))
  complete (G.small_test d) p r h =
      leaves (yield_of d r) (small_is_list p (look z (yield_of d r)).first (look z (yield_of d r)).kind (first d r))
      (reads_single d p r (complete d _ r h.0) h.1 h.2 h.3)
  complete (G.small_assign d n o s e) p r h =
      let q : List Lexeme = yield_of n (lexeme (assign_token o) s ∷ yield_of e r) in
      leaves (yield_of d q) (small_is_list p (look z (yield_of d q)).first (look z (yield_of d q)).kind (first d q))
      (trans (complete d _ q (list_before d n o s (yield_of e r)))
      (trans (reads_annotation d n o s p (yield_of e r)) (trans (complete n _ _ (annotation_after n o)) (trans (reads_assign d n o s p (yield_of e r))
      (trans (complete e _ r h) (more here))))))
  complete (G.list_plain d) p r h = more (trans (complete d _ r h.0) (more (rw h.1 here)))
  complete (G.list_comma d c) p r h = more (trans (complete d _ _ (lit≤ tt)) (more (more (rw h here))))
  complete G.annotation_none p r h = more (rw h here)
  complete (G.annotation_note c d) p r h = more (trans (complete d _ r h) (more here))
  complete (G.note_test d) p r h = more (trans (complete d _ r h) (more here))
  complete G.symbols_none p r h = more (rw h here)
  complete (G.symbols_list c d) p r h = more (trans (complete d _ r h) (more here))
  complete (G.sym_same text s) p r h = more here
  complete (G.sym_other text i e their s) p r h = more (more (more here))
  complete (G.sym_alone text i) p r h = more (more (rw h here))
  complete (G.test_or d) p r h =
      more (rw (differs starts_or (look z (yield_of d r)).kind kinds.Lambda (first d r) refl)
      (trans (settle G.or_precedence _ d r (omega arith) (complete d _ r (omega arith))) (kept r (rw (is_not (look z r).kind kinds.If (omega arith)) refl))))
  complete (G.test_if d i c e f) p r h =
      let q : List Lexeme = lexeme tokens.If i ∷ yield_of c (lexeme tokens.Else e ∷ yield_of f r) in
      more (rw (differs starts_or (look z (yield_of d q)).kind kinds.Lambda (first d q) refl)
      (trans (settle G.or_precedence _ d q (lit≤ tt) (complete d _ q (lit≤ tt)))
      (more (trans (settle G.or_precedence _ c _ (lit≤ tt) (complete c _ _ (lit≤ tt)))
      (more (more (trans (complete f _ r h) (more here))))))))
  complete (G.test_lambda l d c e) p r h = more (trans (complete d _ _ ((lit≤ tt, refl, refl), refl, refl))
      (more (more (trans (complete e _ r h) (more here)))))
  complete (G.left_one u d) p r h = trans (reads_first u p _) (trans (settle_under u _ d r h (complete d _ r (ends_under z u _ _ h))) (more here))
  complete (G.left_more u d o s e) p r h =
      trans (complete d p _ (operator_powers o)) (trans (reads_right u d o s p _) (trans (settle_under u _ e r h (complete e _ r (ends_under z u _ _ h)))
      (more here)))
  complete (G.not_not s d) p r h = more (trans (complete d _ r h) (more here))
  complete (G.not_comp d) p r h = more (rw (differs starts_operand (look z (yield_of d r)).kind kinds.Not (first d r) refl)
      (trans (complete d _ r h) (more here)))
  complete (G.comp_one d) p r h =
      more (trans (settle G.bit_or_precedence _ d r (omega arith) (complete d _ r (omega arith)))
      (kept r (rw (no_comparison (look z r).kind h, is_not (look z r).kind kinds.Not (omega arith)) refl)))
  complete (G.comp_two d o e) p r h =
      let q : List Lexeme = side_yield (sign_side o) (yield_of e r) in
      more (trans (settle G.bit_or_precedence _ d q (sign_powers o (yield_of e r)) (complete d _ q (omega (arith, sign_powers o (yield_of e r)))))
      (trans (reads_sign d o p (yield_of e r))
      (trans (settle G.bit_or_precedence _ e r (omega arith) (complete e _ r (omega arith))) (kept r (rw (compares_not (look z r).kind h) refl)))))
  complete (G.unary_sign o s d) p r h = trans (reads_unary o s p _) (trans (complete d _ r h) (more here))
  complete (G.unary_primary d) p r h =
      leaves (yield_of d r) (ap (move_unary p (look z (yield_of d r)).first.span) (atom_unsigned (look z (yield_of d r)).kind (first d r)))
      (trans (settle_primary (unary_primary_at p) d r h (complete d _ r (omega arith))) (more here))
  complete (G.primary_atom d) p r h = more (trans (complete d _ r h) (more here))
  complete (G.primary_dot d s t i) p r h = trans (complete d p _ (lit≤ tt)) (more (more here))
  complete (G.primary_subscript d o f c) p r h =
      trans (complete d p _ (lit≤ tt)) (more (trans (complete f _ _ (lit≤ tt, refl, refl, refl)) (more (more here))))
  complete (G.sub_one d) p r h = more (rw (first d r) (trans (complete d _ r h.0) (more (rw (h.1, h.2) here))))
  complete (G.sub_two d c e) p r h =
      more (rw (first d (lexeme tokens.Comma c ∷ yield_of e r)) (trans (complete d _ _ (lit≤ tt)) (more (trans (complete e _ r h.0) (more here)))))
  complete (G.sub_slice G.bound_none c e) p r h = more (more (trans (complete e _ r (h.0, h.3)) (more (rw h.2 here))))
  complete (G.sub_slice (G.bound_test d) c e) p r h =
      more (rw (first d (lexeme tokens.Colon c ∷ yield_of e r))
      (trans (complete d _ _ (lit≤ tt)) (more (trans (complete e _ r (h.0, h.3)) (more (rw h.2 here))))))
  complete (G.sub_step G.bound_none c e s f) p r h = more (more (trans (complete e _ _ (lit≤ tt, refl)) (more (trans (complete f _ r (h.0, h.3)) (more here)))))
  complete (G.sub_step (G.bound_test d) c e s f) p r h =
      more (rw (first d (lexeme tokens.Colon c ∷ yield_of e (lexeme tokens.Colon s ∷ yield_of f r)))
      (trans (complete d _ _ (lit≤ tt)) (more (trans (complete e _ _ (lit≤ tt, refl)) (more (trans (complete f _ r (h.0, h.3)) (more here)))))))
  complete G.bound_none p r h = more (rw h.1 here)
  complete (G.bound_test d) p r h = more (rw (first d r) (trans (complete d _ r h.0) (more here)))
  complete (G.primary_call d o f c) p r h =
      trans (complete d p _ (lit≤ tt)) (more (trans (complete f _ _ ((lit≤ tt, refl), refl, refl)) (more (more here))))
  complete (G.arg_test d) p r h =
      more (rw (
        differs starts_test (look z (yield_of d r)).kind kinds.Star (first d r) refl,
        differs starts_test (look z (yield_of d r)).kind kinds.StarStar (first d r) refl,
      )
      (trans (complete d _ r h.0) (more (rw h.1 here))))
  complete (G.arg_named t s e d) p r h = more (trans (reads_name t s e (arg_test_at p) (yield_of d r)) (more (trans (complete d _ r h.0) (more here))))
  complete (G.arg_star s d) p r h = more (trans (complete d _ r h.0) (more here))
  complete (G.arg_stars s d) p r h = more (trans (complete d _ r h.0) (more here))
  complete (G.entry d c e) p r h = more (trans (complete d _ _ (lit≤ tt)) (more (more (trans (complete e _ r h) (more here)))))
  complete (G.lambda_param_slash s) p r h = more here
  complete (G.lambda_param_star s) p r h = more (more (rw h.2 here))
  complete (G.lambda_param_args s t i) p r h = more (more here)
  complete (G.lambda_param_kwargs s t i) p r h = more (more here)
  complete (G.lambda_param_name t i) p r h = more (more (rw h.1 here))
  complete (G.lambda_param_default t i e d) p r h = more (more (trans (complete d _ r h.0) (more here)))
  complete (G.atom_name t s) p r h = more here
  complete (G.atom_int n s) p r h = more here
  complete (G.atom_float t s) p r h = more here
  complete (G.atom_string t s) p r h = more here
  complete (G.atom_bytes t s) p r h = more here
  complete (G.atom_ellipsis s) p r h = more here
  complete (G.atom_round o d c) p r h = more (trans (complete d _ _ (lit≤ tt, refl, refl)) (more (more here)))
  complete (G.atom_square o d c) p r h = more (trans (complete d _ _ (lit≤ tt, refl, refl)) (more (more here)))
  complete (G.atom_curly o d c) p r h = more (trans (complete d _ _ (lit≤ tt, refl, refl)) (more (more here)))
  complete (G.atom_f_string q s d e) p r h = more (trans (complete d _ _ tt) (more (more (more here))))
  complete G.parts_none p r h = more here
  complete (G.parts_text d t s) p r h = trans (complete d p _ tt) (more here)
  complete (G.parts_replacement d o e c x) p r h =
      trans (complete d p _ tt) (more (trans (complete e _ _ (conversion_powers c x r)) (more (trans (complete c _ _ (closer_after c)) (more (more here))))))
  complete (G.atom_list_comprehension o d e c) p r h =
      let q : List Lexeme = yield_of e (lexeme tokens.ClosingSquare c ∷ r) in
      let f : (look z q).kind ≡ kinds.For = is_true (look z q).kind kinds.For (first e _) in
      more (trans (reads_element d (atom_square_at o p) q f (complete d _ q (rw f (lit≤ tt))))
      (more (rw f (trans (complete e _ _ (lit≤ tt)) (more (more (more here)))))))
  complete (G.atom_dict_comprehension o d e c) p r h =
      let q : List Lexeme = yield_of e (lexeme tokens.ClosingCurly c ∷ r) in
      let f : (look z q).kind ≡ kinds.For = is_true (look z q).kind kinds.For (first e _) in
      more (trans (reads_entry d (atom_curly_at o p) q f (complete d _ q (rw f (lit≤ tt))))
      (more (rw f (trans (complete e _ _ (lit≤ tt)) (more (more (more here)))))))
  complete (G.vars_plain d) p r h = more (trans (complete d _ r h.0) (more (rw h.1 here)))
  complete (G.vars_comma d c) p r h = more (trans (complete d _ _ (lit≤ tt)) (more (more (rw (h.0, h.1) here))))
  complete (G.for_clause f d i e) p r h =
      more (trans (complete d _ _ (in_after d)) (more (more (trans (settle G.or_precedence _ e r h (complete e _ r (omega arith))) (more here)))))
  complete (G.clauses_one d) p r h = more (trans (complete d _ r h) (more here))
  complete (G.clauses_for d e) p r h =
      let f : (look z (yield_of e r)).kind ≡ kinds.For = is_true (look z (yield_of e r)).kind kinds.For (first e r) in
      trans (complete d p _ (rw f (lit≤ tt))) (more (rw f (trans (complete e _ r h) (more here))))
  complete (G.clauses_if d i e) p r h = trans (complete d p _ (lit≤ tt))
      (more (trans (settle G.or_precedence _ e r h (complete e _ r (omega arith))) (more here)))
  complete G.conversion_default p r h = more (rw h here)
  complete (G.conversion_absent s) p r h = more (more (rw h here))
  complete (G.conversion_name s t i) p r h = more (more (more here))
  complete G.optional_list_none p r h = more (rw h.2 here)
  complete (G.optional_list_plain d) p r h = more (rw (first d r) (trans (complete d _ r h.0) (more (rw h.1 here))))
  complete (G.optional_list_comma {k} d c) p r h =
      more (rw (first d (lexeme tokens.Comma c ∷ r)) (trans (complete d _ _ (comma_after k)) (more (more (rw h.2 here)))))
  complete (G.comma_list_one u d) p r h = trans (reads_list_element u p _) (trans (settle_element u _ d r h (complete d _ r (ends_of z u _ _ h))) (more here))
  complete (G.comma_list_more {k} u d c e) (comma_list_at p) r h =
      trans (complete d _ _ (comma_after k)) (more (trans (reads_next u d c p e r) (trans (settle_element u _ e r h (complete e _ r (ends_of z u _ _ h)))
      (more here))))
  complete (G.comma_list_more G.of_variables d c e) (vars_elements_at p) r h =
      trans (complete d _ _ (lit≤ tt)) (more (more (rw (first e r) (trans (settle_element G.of_variables _ e r h (complete e _ r (omega arith))) (more here)))))
  complete (G.comma_list_more G.of_elements d c e) (list_elements_at p) r h =
      trans (complete d _ _ (lit≤ tt)) (more (more (rw (first e r) (trans (complete e _ r h) (more here)))))
  complete (G.comma_list_more v d c e) (left_first_at u q) r h = elim u [ ]
  complete (G.comma_list_more v d c e) (left_right_at u f o s q) r h = elim u [ ]
  complete (G.comma_list_more v d c e) (comma_list_one_at u q) r h = elim u [ ]
  complete (G.comma_list_more v d c e) (comma_list_more_at u f s q) r h = elim u [ ]
  complete (G.comma_list_more v d c e) (top u) r h = elim u [ ]

  -- what may follow a derivation with statements
  abbrev pub Before : Nonterminal → Kind → Type 0
  Before G.Suite k = ⊤
  Before G.For k = ⊤
  Before n k = (is k kinds.Elif ≡ false) × (is k kinds.Else ≡ false)

  -- a derivation may occur if its blocks without Dedent are at the end, if it has any
  pub closing : (E : List Lexeme → Type 0) → ((r : List Lexeme) → E r → (look z r).kind ≡ kinds.End) → {n : Nonterminal} (d : Derivation n) (r : List Lexeme)
      (T : Type 0) → obeys E (right_side d) r T → Before n (look z r).kind → Closes d z r
  closing E t G.module_none r T f g = tt
  closing E t (G.module_newline m s) r T f g = closing E t m _ _ f (refl, refl)
  closing E t (G.module_stmt m d) r T f g = (
    closing E t m _ _ f (not_else (look z (yield_of d r)).kind (first d r)),
    closing E t d r _ (follows E (right_side m) _ _ f) g,
  )
  closing E t (G.stmt_simple d) r T f g = tt
  closing E t (G.stmt_def d text i o ps c u k s) r T f g = closing E t s r _ (follows E (right_side u) _ _ (follows E (right_side ps) _ _ f)) tt
  closing E t (G.stmt_if i d c s e) r T f g = (
    closing E t s _ _ (follows E (right_side d) _ _ f) tt,
    closing E t e r _ (follows E (right_side s) _ _ (follows E (right_side d) _ _ f)) g,
  )
  closing E t (G.stmt_for d) r T f g = closing E t d r _ f tt
  closing E t (G.for_loop v d i e c s) r T f g = closing E t s r _ (follows E (right_side e) _ _ (follows E (right_side d) _ _ f)) tt
  closing E t G.rest_none r T f g = g
  closing E t (G.rest_elif i d c s e) r T f g = (
    closing E t s _ _ (follows E (right_side d) _ _ f) tt,
    closing E t e r _ (follows E (right_side s) _ _ (follows E (right_side d) _ _ f)) g,
  )
  closing E t (G.rest_else i c s) r T f g = closing E t s r _ f tt
  closing E t (G.suite_simple d) r T f g = tt
  closing E t (G.suite_block n d i b e) r T f g = closing E t b _ _ (follows E (right_side d) _ _ f) (refl, refl)
  closing E t (G.suite_open n d i b) r T f g =
      let q = t r (follows E (right_side b) _ _ (follows E (right_side d) _ _ f)).0 in
      (closing E t b r _ (follows E (right_side d) _ _ f) (rw q (refl, refl)), q)
  closing E t (G.block_first d s) r T f g = closing E t s r _ (follows E (right_side d) _ _ f) g
  closing E t (G.block_newline b s) r T f g = closing E t b _ _ f (refl, refl)
  closing E t (G.block_stmt b s) r T f g = (
    closing E t b _ _ f (not_else (look z (yield_of s r)).kind (first s r)),
    closing E t s r _ (follows E (right_side b) _ _ f) g,
  )
  closing E t d r T f g = tt
