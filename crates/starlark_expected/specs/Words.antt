-- What each word does at a kind of token.
use Rattle.std.specs.Prelude.{◌≡◌, List, [], ◌∷◌, ◌++◌, reverse, Bool, true, false, if◌then◌else◌, Option, Some, None, is_some, Result, Ok, Err}
use Rattle.starlark_lexer.specs.declared.kind.Kind.{Kind}
use Rattle.starlark_lexer.specs.declared.kind.Kind.TheVariants as kinds
use Rattle.starlark_lexer.specs.Kinds.{is}
use Rattle.starlark_spec.specs.Grammar.{ElementKind, PrecedenceLevel}
use Rattle.starlark_spec.specs.Grammar.PrecedenceLevel.{or_precedence, and_precedence, bit_or_precedence, xor_precedence, bit_and_precedence}
use Rattle.starlark_spec.specs.Grammar.PrecedenceLevel.{shift_precedence, add_precedence, multiply_precedence}
use Rattle.starlark_spec.specs.Grammar.ElementKind.{elements, arguments, entries, lambda_parameters, variables, symbols, def_parameters}
use Rattle.starlark_spec.specs.Machine.Firsts.{starts_operand, starts_test, starts_small, starts_element, comparison_at, compares}
use Rattle.starlark_spec.specs.Machine.Firsts.{assign_at}
use Rattle.starlark_expected.specs.declared.word.Level.{Level}
use Rattle.starlark_expected.specs.declared.word.Level.TheVariants.{Or, And, BitOr, Xor, BitAnd, Shift, Add, Multiply}
use Rattle.starlark_expected.specs.declared.word.Listed.{Listed}
use Rattle.starlark_expected.specs.declared.word.Listed.TheVariants.{Elements, Arguments, Entries, LambdaParameters, Symbols, DefParameters}
use Rattle.starlark_expected.specs.declared.word.Word.{Word}
use Rattle.starlark_expected.specs.declared.word.Word.TheVariants.{Token, ModuleTail, Statement, Suite, NewlinesTail, BlockTail, IfTail}
use Rattle.starlark_expected.specs.declared.word.Word.TheVariants.{ReturnTypeTail, TypeTail, DefaultTail, StarTail, LambdaStarTail, LineEnd}
use Rattle.starlark_expected.specs.declared.word.Word.TheVariants.{AfterSemicolon, ReturnTail, StatementTail, Assignment, AssignSign, TupleTail}
use Rattle.starlark_expected.specs.declared.word.Word.TheVariants.{AfterTupleComma, SymbolsTail, SymbolTail, Test, ChoiceTail, Operands}
use Rattle.starlark_expected.specs.declared.word.Word.TheVariants.{OperatorTail, NotTest, ComparisonTail, Compared, Unary, SuffixTail}
use Rattle.starlark_expected.specs.declared.word.Word.TheVariants.{Subscript, SubscriptTail, SliceTail, BoundTail, ListTail, CommaTail}
use Rattle.starlark_expected.specs.declared.word.Word.TheVariants.{AfterComma, NamedTail, Square, SquareRest, Curly, CurlyRest, PartsTail}
use Rattle.starlark_expected.specs.declared.word.Word.TheVariants.{ConversionTail, ConversionNameTail, VariablesTail, AfterVariablesComma}
use Rattle.starlark_expected.specs.declared.word.Word.TheVariants.{ClausesTail}
use Rattle.starlark_expected.specs.declared.reply.Step.{Step}
use Rattle.starlark_expected.specs.declared.reply.Step.TheVariants as steps

-- the level of the grammar
abbrev pub level : Level → PrecedenceLevel
level Or = or_precedence
level And = and_precedence
level BitOr = bit_or_precedence
level Xor = xor_precedence
level BitAnd = bit_and_precedence
level Shift = shift_precedence
level Add = add_precedence
level Multiply = multiply_precedence

-- whether a kind is an operator of a level
abbrev pub operates : Level → Kind → Bool
operates Or kinds.Or = true
operates And kinds.And = true
operates BitOr kinds.Pipe = true
operates Xor kinds.Caret = true
operates BitAnd kinds.Ampersand = true
operates Shift kinds.LessLess = true
operates Shift kinds.GreaterGreater = true
operates Add kinds.Plus = true
operates Add kinds.Minus = true
operates Multiply kinds.Star = true
operates Multiply kinds.Slash = true
operates Multiply kinds.SlashSlash = true
operates Multiply kinds.Percent = true
operates l k = false

-- the list of the grammar
abbrev pub elements_of : Listed → ElementKind
elements_of Elements = elements
elements_of Arguments = arguments
elements_of Entries = entries
elements_of LambdaParameters = lambda_parameters
elements_of Symbols = symbols
elements_of DefParameters = def_parameters

-- What is due in place of a part that begins with a token, once the token is consumed: the last first. None if it does not begin with it.
abbrev pub Start : Type 0
Start = Option (List Word)

-- the same with other words due after it
abbrev pub follow : List Word → Start → Start
follow after None = None
follow after (Some words) = Some (after ++ words)

-- The code has pushed them, or reports that the part does not begin with it.
abbrev pub Begins : Start → Bool → List Word → List Word → Type 0
Begins (Some words) begins old new = (begins ≡ true) × (new ≡ old ++ words)
Begins None begins old new = begins ≡ false

-- one token of a kind
abbrev pub token_start : Kind → Kind → Start
token_start t k = if is k t then Some [] else None

-- ---- expressions

abbrev pub atom_start : Kind → Start
atom_start kinds.Identifier = Some []
atom_start kinds.Int = Some []
atom_start kinds.Float = Some []
atom_start kinds.String = Some []
atom_start kinds.Bytes = Some []
atom_start kinds.Ellipsis = Some []
atom_start kinds.OpeningRound = Some (Token kinds.ClosingRound ∷ ListTail Elements ∷ [])
atom_start kinds.OpeningSquare = Some (Square ∷ [])
atom_start kinds.OpeningCurly = Some (Curly ∷ [])
atom_start kinds.FStringStart = Some (Token kinds.FStringEnd ∷ PartsTail ∷ [])
atom_start _ = None

abbrev pub primary_start : Kind → Start
primary_start k = follow (SuffixTail ∷ []) (atom_start k)

abbrev pub unary_start : Kind → Start
unary_start kinds.Plus = Some (Unary ∷ [])
unary_start kinds.Minus = Some (Unary ∷ [])
unary_start kinds.Tilde = Some (Unary ∷ [])
unary_start k = primary_start k

abbrev pub multiply_start : Kind → Start
multiply_start k = follow (OperatorTail Multiply ∷ []) (unary_start k)

abbrev pub add_start : Kind → Start
add_start k = follow (OperatorTail Add ∷ []) (multiply_start k)

abbrev pub shift_start : Kind → Start
shift_start k = follow (OperatorTail Shift ∷ []) (add_start k)

abbrev pub bit_and_start : Kind → Start
bit_and_start k = follow (OperatorTail BitAnd ∷ []) (shift_start k)

abbrev pub xor_start : Kind → Start
xor_start k = follow (OperatorTail Xor ∷ []) (bit_and_start k)

abbrev pub bit_or_start : Kind → Start
bit_or_start k = follow (OperatorTail BitOr ∷ []) (xor_start k)

abbrev pub comp_start : Kind → Start
comp_start k = follow (ComparisonTail ∷ []) (bit_or_start k)

abbrev pub not_start : Kind → Start
not_start k = if is k kinds.Not then Some (NotTest ∷ []) else comp_start k

abbrev pub and_start : Kind → Start
and_start k = follow (OperatorTail And ∷ []) (not_start k)

abbrev pub or_start : Kind → Start
or_start k = follow (OperatorTail Or ∷ []) (and_start k)

abbrev pub test_start : Kind → Start
test_start k = if is k kinds.Lambda then Some (Test ∷ Token kinds.Colon ∷ ListTail LambdaParameters ∷ []) else follow (ChoiceTail ∷ []) (or_start k)

-- operands of a level with its operators between them
abbrev pub operands_start : PrecedenceLevel → Kind → Start
operands_start or_precedence k = or_start k
operands_start and_precedence k = and_start k
operands_start bit_or_precedence k = bit_or_start k
operands_start xor_precedence k = xor_start k
operands_start bit_and_precedence k = bit_and_start k
operands_start shift_precedence k = shift_start k
operands_start add_precedence k = add_start k
operands_start multiply_precedence k = multiply_start k

-- whether a level binds more loosely than `not`
abbrev pub loose : Level → Bool
loose Or = true
loose And = true
loose l = false

-- what may come after an operand of a level: the tails of the level and of the tighter ones, up to those that bind as tightly as `not`
abbrev pub operator_tails : Level → List Word
operator_tails Or = OperatorTail Or ∷ OperatorTail And ∷ []
operator_tails And = OperatorTail And ∷ []
operator_tails BitOr =
    OperatorTail BitOr ∷ OperatorTail Xor ∷ OperatorTail BitAnd ∷ OperatorTail Shift ∷ OperatorTail Add ∷ OperatorTail Multiply ∷ []
operator_tails Xor = OperatorTail Xor ∷ OperatorTail BitAnd ∷ OperatorTail Shift ∷ OperatorTail Add ∷ OperatorTail Multiply ∷ []
operator_tails BitAnd = OperatorTail BitAnd ∷ OperatorTail Shift ∷ OperatorTail Add ∷ OperatorTail Multiply ∷ []
operator_tails Shift = OperatorTail Shift ∷ OperatorTail Add ∷ OperatorTail Multiply ∷ []
operator_tails Add = OperatorTail Add ∷ OperatorTail Multiply ∷ []
operator_tails Multiply = OperatorTail Multiply ∷ []

-- what is due after an operator of a level
abbrev pub operand_word : PrecedenceLevel → Word
operand_word or_precedence = Operands And
operand_word and_precedence = NotTest
operand_word bit_or_precedence = Operands Xor
operand_word xor_precedence = Operands BitAnd
operand_word bit_and_precedence = Operands Shift
operand_word shift_precedence = Operands Add
operand_word add_precedence = Operands Multiply
operand_word multiply_precedence = Unary

-- ---- elements of lists

abbrev pub argument_start : Kind → Start
argument_start k =
    if is k kinds.Star then Some (Test ∷ [])
    else (if is k kinds.StarStar then Some (Test ∷ []) else follow (NamedTail ∷ []) (test_start k))

abbrev pub entry_start : Kind → Start
entry_start k = follow (Test ∷ Token kinds.Colon ∷ []) (test_start k)

abbrev pub lambda_param_start : Kind → Start
lambda_param_start kinds.Slash = Some []
lambda_param_start kinds.Star = Some (LambdaStarTail ∷ [])
lambda_param_start kinds.StarStar = Some (Token kinds.Identifier ∷ [])
lambda_param_start kinds.Identifier = Some (DefaultTail ∷ [])
lambda_param_start _ = None

abbrev pub symbol_start : Kind → Start
symbol_start kinds.String = Some []
symbol_start kinds.Identifier = Some (SymbolTail ∷ [])
symbol_start _ = None

abbrev pub def_param_start : Kind → Start
def_param_start kinds.Slash = Some []
def_param_start kinds.Star = Some (StarTail ∷ [])
def_param_start kinds.StarStar = Some (TypeTail ∷ Token kinds.Identifier ∷ [])
def_param_start kinds.Identifier = Some (DefaultTail ∷ TypeTail ∷ [])
def_param_start _ = None

abbrev pub element_start : ElementKind → Kind → Start
element_start elements k = test_start k
element_start arguments k = argument_start k
element_start entries k = entry_start k
element_start lambda_parameters k = lambda_param_start k
element_start variables k = bit_or_start k
element_start symbols k = symbol_start k
element_start def_parameters k = def_param_start k

-- the variables of a loop, `in`, and what it iterates over
abbrev pub clause_start : Kind → Start
clause_start k =
    if is k kinds.For then Some (Operands Or ∷ Token kinds.In ∷ VariablesTail ∷ Operands BitOr ∷ []) else None

-- ---- statements

abbrev pub small_start : Kind → Start
small_start kinds.Return = Some (ReturnTail ∷ [])
small_start kinds.Break = Some []
small_start kinds.Continue = Some []
small_start kinds.Pass = Some []
small_start kinds.Load = Some (Token kinds.ClosingRound ∷ SymbolsTail ∷ Token kinds.String ∷ Token kinds.OpeningRound ∷ [])
small_start k = follow (StatementTail ∷ []) (test_start k)

abbrev pub simple_start : Kind → Start
simple_start k = follow (LineEnd ∷ []) (small_start k)

abbrev pub for_start : Kind → Start
for_start k =
    if is k kinds.For then Some (Suite ∷ Token kinds.Colon ∷ Test ∷ Token kinds.In ∷ VariablesTail ∷ Operands BitOr ∷ []) else None

abbrev pub statement_start : Kind → Start
statement_start kinds.Def =
    Some (Suite ∷ Token kinds.Colon ∷ ReturnTypeTail ∷ Token kinds.ClosingRound ∷ ListTail DefParameters ∷ Token kinds.OpeningRound
    ∷ Token kinds.Identifier ∷ [])
statement_start kinds.If = Some (IfTail ∷ Suite ∷ Token kinds.Colon ∷ Test ∷ [])
statement_start kinds.For = Some (Suite ∷ Token kinds.Colon ∷ Test ∷ Token kinds.In ∷ VariablesTail ∷ Operands BitOr ∷ [])
statement_start k = simple_start k

-- an assignment, if a colon or its operator comes
abbrev pub assign_by : (colon sign : Bool) → Start
assign_by colon sign =
    if colon then Some (TupleTail ∷ Test ∷ AssignSign ∷ Test ∷ []) else (if sign then Some (TupleTail ∷ Test ∷ []) else None)

abbrev pub assign_start : Kind → Start
assign_start k = assign_by (is k kinds.Colon) (is_some (assign_at k))

-- ---- words

-- What a word does at a kind: it consumes the token, and these words are due in its place, the last first; or it is skipped, or the token is refused.
-- If it consumes the token, `argument` says that an argument begins there.
pub data Reply : Type 0 where
  Takes : (words : List Word) (argument : Bool) → Reply
  Passes : Reply
  Refuses : Reply

abbrev pub takes : List Word → Reply
takes words = Takes words false

-- a required part
abbrev pub must : Bool → Start → Reply
must argument (Some words) = Takes words argument
must argument None = Refuses

-- an optional part
abbrev pub may : Start → Reply
may (Some words) = Takes words false
may None = Passes

abbrev pub is_arguments : Listed → Bool
is_arguments Arguments = true
is_arguments l = false

abbrev pub list_reply : Listed → Kind → Reply
list_reply l k =
    if starts_element (elements_of l) k then must (is_arguments l) (follow (CommaTail l ∷ []) (element_start (elements_of l) k)) else Passes

abbrev pub block_reply : Kind → Reply
block_reply kinds.Newline = takes (BlockTail ∷ [])
block_reply kinds.Dedent = takes []
block_reply kinds.End = Passes
block_reply k = must false (follow (BlockTail ∷ []) (statement_start k))

abbrev pub square_reply : Kind → Reply
square_reply k = must false (token_start kinds.ClosingSquare k)

abbrev pub curly_reply : Kind → Reply
curly_reply k = must false (token_start kinds.ClosingCurly k)

-- `named` says that an argument began with the last token, a name
abbrev pub reply : Word → (named : Bool) → Kind → Reply
reply (Token t) named k = must false (token_start t k)
reply ModuleTail named k =
    if is k kinds.End then Passes
    else (if is k kinds.Newline then takes (ModuleTail ∷ []) else must false (follow (ModuleTail ∷ []) (statement_start k)))
reply Statement named k = must false (statement_start k)
reply Suite named k =
    if is k kinds.Newline then takes (BlockTail ∷ Statement ∷ NewlinesTail ∷ Token kinds.Indent ∷ NewlinesTail ∷ [])
    else must false (simple_start k)
reply NewlinesTail named k = if is k kinds.Newline then takes (NewlinesTail ∷ []) else Passes
reply BlockTail named k = block_reply k
reply IfTail named k =
    if is k kinds.Elif then takes (IfTail ∷ Suite ∷ Token kinds.Colon ∷ Test ∷ [])
    else (if is k kinds.Else then takes (Suite ∷ Token kinds.Colon ∷ []) else Passes)
reply ReturnTypeTail named k = if is k kinds.MinusGreater then takes (Test ∷ []) else Passes
reply TypeTail named k = if is k kinds.Colon then takes (Test ∷ []) else Passes
reply DefaultTail named k = if is k kinds.Equal then takes (Test ∷ []) else Passes
reply StarTail named k = if is k kinds.Identifier then takes (TypeTail ∷ []) else Passes
reply LambdaStarTail named k = if is k kinds.Identifier then takes [] else Passes
reply LineEnd named k = if is k kinds.Semicolon then takes (AfterSemicolon ∷ []) else must false (token_start kinds.Newline k)
reply AfterSemicolon named k = if starts_small k then must false (simple_start k) else must false (token_start kinds.Newline k)
reply ReturnTail named k = if starts_test k then must false (follow (TupleTail ∷ []) (test_start k)) else Passes
reply StatementTail named k = if is k kinds.Comma then takes (Assignment ∷ AfterTupleComma ∷ []) else may (assign_start k)
reply Assignment named k = must false (assign_start k)
reply AssignSign named k = if is_some (assign_at k) then takes [] else Refuses
reply TupleTail named k = if is k kinds.Comma then takes (AfterTupleComma ∷ []) else Passes
reply AfterTupleComma named k = if starts_test k then must false (follow (TupleTail ∷ []) (test_start k)) else Passes
reply SymbolsTail named k = if is k kinds.Comma then takes (ListTail Symbols ∷ []) else Passes
reply SymbolTail named k = if is k kinds.Equal then takes (Token kinds.String ∷ []) else Passes
reply Test named k = must false (test_start k)
reply ChoiceTail named k = if is k kinds.If then takes (Test ∷ Token kinds.Else ∷ Operands Or ∷ []) else Passes
reply (Operands l) named k = must false (operands_start (level l) k)
reply (OperatorTail l) named k = if operates l k then takes (OperatorTail l ∷ operand_word (level l) ∷ []) else Passes
reply NotTest named k = must false (not_start k)
reply ComparisonTail named k =
    if is_some (comparison_at k) then takes (Compared ∷ Operands BitOr ∷ [])
    else (if is k kinds.Not then takes (Compared ∷ Operands BitOr ∷ Token kinds.In ∷ []) else Passes)
reply Compared named k = if compares k then Refuses else Passes
reply Unary named k = must false (unary_start k)
reply SuffixTail named k =
    if is k kinds.Dot then takes (SuffixTail ∷ Token kinds.Identifier ∷ [])
    else (if is k kinds.OpeningSquare then takes (SuffixTail ∷ Token kinds.ClosingSquare ∷ Subscript ∷ [])
    else (if is k kinds.OpeningRound then takes (SuffixTail ∷ Token kinds.ClosingRound ∷ ListTail Arguments ∷ []) else Passes))
reply Subscript named k =
    if starts_test k then must false (follow (SubscriptTail ∷ []) (test_start k))
    else (if is k kinds.Colon then takes (SliceTail ∷ BoundTail ∷ []) else Refuses)
reply SubscriptTail named k =
    if is k kinds.Comma then takes (Test ∷ []) else (if is k kinds.Colon then takes (SliceTail ∷ BoundTail ∷ []) else Passes)
reply SliceTail named k = if is k kinds.Colon then takes (BoundTail ∷ []) else Passes
reply BoundTail named k = if starts_test k then must false (test_start k) else Passes
reply (ListTail l) named k = list_reply l k
reply (CommaTail l) named k = if is k kinds.Comma then takes (AfterComma l ∷ []) else Passes
reply (AfterComma l) named k = list_reply l k
reply NamedTail named k = if is k kinds.Equal then (if named then takes (Test ∷ []) else Passes) else Passes
reply Square named k = if starts_test k then must false (follow (SquareRest ∷ []) (test_start k)) else square_reply k
reply SquareRest named k =
    if is k kinds.Comma then takes (Token kinds.ClosingSquare ∷ AfterComma Elements ∷ [])
    else (if is k kinds.For then must false (follow (Token kinds.ClosingSquare ∷ ClausesTail ∷ []) (clause_start k)) else square_reply k)
reply Curly named k = if starts_test k then must false (follow (CurlyRest ∷ []) (entry_start k)) else curly_reply k
reply CurlyRest named k =
    if is k kinds.Comma then takes (Token kinds.ClosingCurly ∷ AfterComma Entries ∷ [])
    else (if is k kinds.For then must false (follow (Token kinds.ClosingCurly ∷ ClausesTail ∷ []) (clause_start k)) else curly_reply k)
reply PartsTail named k =
    if is k kinds.FStringText then takes (PartsTail ∷ [])
    else (if is k kinds.FStringExprStart then takes (PartsTail ∷ Token kinds.FStringExprEnd ∷ ConversionTail ∷ Test ∷ []) else Passes)
reply ConversionTail named k = if is k kinds.FStringBang then takes (ConversionNameTail ∷ []) else Passes
reply ConversionNameTail named k = if is k kinds.Identifier then takes [] else Passes
reply VariablesTail named k = if is k kinds.Comma then takes (AfterVariablesComma ∷ []) else Passes
reply AfterVariablesComma named k =
    if starts_operand k then must false (follow (VariablesTail ∷ []) (bit_or_start k)) else (if is k kinds.Not then Refuses else Passes)
reply ClausesTail named k =
    if is k kinds.For then must false (follow (ClausesTail ∷ []) (clause_start k))
    else (if is k kinds.If then takes (ClausesTail ∷ Operands Or ∷ []) else Passes)

-- what the code returns for it, and has pushed
abbrev pub Does : Reply → Step → List Word → List Word → Type 0
Does (Takes words argument) step old new = (step ≡ steps.Takes argument) × (new ≡ old ++ words)
Does Passes step old new = (step ≡ steps.Passes) × (new ≡ old)
Does Refuses step old new = step ≡ steps.Refuses

-- what is returned for a required part of which it is known whether it begins there
abbrev pub required_step : {E : Type 0} → Result Bool E → Result Step E
required_step (Ok begins) = Ok (if begins then steps.Takes false else steps.Refuses)
required_step (Err e) = Err e

-- ---- words that are due, the next first

-- What is done at a kind with all that is due: the token is consumed, and this is due then; or it is refused; or nothing required is left.
pub data Outcome : Type 0 where
  Took : (due : List Word) (named : Bool) → Outcome
  Refused : Outcome
  Whole : Outcome

-- whether a name that is consumed there is an argument so far
abbrev pub named_by : Bool → Kind → Bool
named_by argument k = if argument then is k kinds.Identifier else false

abbrev pub after_reply : Reply → Kind → List Word → Outcome → Outcome
after_reply (Takes words argument) k due passed = Took (reverse words ++ due) (named_by argument k)
after_reply Passes k due passed = passed
after_reply Refuses k due passed = Refused

abbrev pub outcome : List Word → Bool → Kind → Outcome
outcome [] named k = Whole
outcome (x ∷ due) named k = after_reply (reply x named k) k due (outcome due named k)
