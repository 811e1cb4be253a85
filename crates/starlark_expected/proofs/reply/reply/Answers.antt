use Rattle.std.proofs.Common.{refl}
use Rattle.starlark_expected.proofs.Replies.{by_word, by_required}
use Rattle.starlark_expected.proofs.reply.reply.Goals as goal

pub returns-in-ModuleTail : goal.returns-in-ModuleTail
returns-in-ModuleTail c = by_word _ _ _ _ _ c.in-ModuleTail.is c.module_tail.ensures

pub returns-in-Statement : goal.returns-in-Statement
returns-in-Statement c = by_required _ _ _ _ _ _ _ c.in-Statement.is refl c.required.ensures c.statement.ensures

pub returns-in-Suite : goal.returns-in-Suite
returns-in-Suite c = by_word _ _ _ _ _ c.in-Suite.is c.suite.ensures

pub returns-in-NewlinesTail : goal.returns-in-NewlinesTail
returns-in-NewlinesTail c = by_word _ _ _ _ _ c.in-NewlinesTail.is c.optional.ensures

pub returns-in-BlockTail : goal.returns-in-BlockTail
returns-in-BlockTail c = by_word _ _ _ _ _ c.in-BlockTail.is c.block_tail.ensures

pub returns-in-IfTail : goal.returns-in-IfTail
returns-in-IfTail c = by_word _ _ _ _ _ c.in-IfTail.is c.if_tail.ensures

pub returns-in-ReturnTypeTail : goal.returns-in-ReturnTypeTail
returns-in-ReturnTypeTail c = by_word _ _ _ _ _ c.in-ReturnTypeTail.is c.optional-in-ReturnTypeTail.ensures

pub returns-in-TypeTail : goal.returns-in-TypeTail
returns-in-TypeTail c = by_word _ _ _ _ _ c.in-TypeTail.is c.optional-in-TypeTail.ensures

pub returns-in-DefaultTail : goal.returns-in-DefaultTail
returns-in-DefaultTail c = by_word _ _ _ _ _ c.in-DefaultTail.is c.optional-in-DefaultTail.ensures

pub returns-in-StarTail : goal.returns-in-StarTail
returns-in-StarTail c = by_word _ _ _ _ _ c.in-StarTail.is c.optional-in-StarTail.ensures

pub returns-in-LineEnd : goal.returns-in-LineEnd
returns-in-LineEnd c = by_word _ _ _ _ _ c.in-LineEnd.is c.line_end.ensures

pub returns-in-AfterSemicolon : goal.returns-in-AfterSemicolon
returns-in-AfterSemicolon c = by_word _ _ _ _ _ c.in-AfterSemicolon.is c.after_semicolon.ensures

pub returns-in-ReturnTail : goal.returns-in-ReturnTail
returns-in-ReturnTail c = by_word _ _ _ _ _ c.in-ReturnTail.is c.tuple.ensures

pub returns-in-StatementTail : goal.returns-in-StatementTail
returns-in-StatementTail c = by_word _ _ _ _ _ c.in-StatementTail.is c.statement_tail.ensures

pub returns-in-Assignment : goal.returns-in-Assignment
returns-in-Assignment c = by_required _ _ _ _ _ _ _ c.in-Assignment.is refl c.required-in-Assignment.ensures c.assignment.ensures

pub returns-in-TupleTail : goal.returns-in-TupleTail
returns-in-TupleTail c = by_word _ _ _ _ _ c.in-TupleTail.is c.optional-in-TupleTail.ensures

pub returns-in-AfterTupleComma : goal.returns-in-AfterTupleComma
returns-in-AfterTupleComma c = by_word _ _ _ _ _ c.in-AfterTupleComma.is c.tuple-in-AfterTupleComma.ensures

pub returns-in-SymbolsTail : goal.returns-in-SymbolsTail
returns-in-SymbolsTail c = by_word _ _ _ _ _ c.in-SymbolsTail.is c.optional-in-SymbolsTail.ensures

pub returns-in-SymbolTail : goal.returns-in-SymbolTail
returns-in-SymbolTail c = by_word _ _ _ _ _ c.in-SymbolTail.is c.optional-in-SymbolTail.ensures

pub returns-in-Test : goal.returns-in-Test
returns-in-Test c = by_required _ _ _ _ _ _ _ c.in-Test.is refl c.required-in-Test.ensures c.test.ensures

pub returns-in-ChoiceTail : goal.returns-in-ChoiceTail
returns-in-ChoiceTail c = by_word _ _ _ _ _ c.in-ChoiceTail.is c.choice_tail.ensures

pub returns-in-Operands : goal.returns-in-Operands
returns-in-Operands c = by_required _ _ _ _ _ _ _ c.in-Operands.is refl c.required-in-Operands.ensures c.operands.ensures

pub returns-in-OperatorTail : goal.returns-in-OperatorTail
returns-in-OperatorTail c = by_word _ _ _ _ _ c.in-OperatorTail.is c.operator_tail.ensures

pub returns-in-NotTest : goal.returns-in-NotTest
returns-in-NotTest c = by_required _ _ _ _ _ _ _ c.in-NotTest.is refl c.required-in-NotTest.ensures c.not_test.ensures

pub returns-in-ComparisonTail : goal.returns-in-ComparisonTail
returns-in-ComparisonTail c = by_word _ _ _ _ _ c.in-ComparisonTail.is c.comparison_tail.ensures

pub returns-in-Unary : goal.returns-in-Unary
returns-in-Unary c = by_required _ _ _ _ _ _ _ c.in-Unary.is refl c.required-in-Unary.ensures c.unary.ensures

pub returns-in-SuffixTail : goal.returns-in-SuffixTail
returns-in-SuffixTail c = by_word _ _ _ _ _ c.in-SuffixTail.is c.suffix_tail.ensures

pub returns-in-Subscript : goal.returns-in-Subscript
returns-in-Subscript c = by_word _ _ _ _ _ c.in-Subscript.is c.subscript.ensures

pub returns-in-SubscriptTail : goal.returns-in-SubscriptTail
returns-in-SubscriptTail c = by_word _ _ _ _ _ c.in-SubscriptTail.is c.subscript_tail.ensures

pub returns-in-SliceTail : goal.returns-in-SliceTail
returns-in-SliceTail c = by_word _ _ _ _ _ c.in-SliceTail.is c.optional-in-SliceTail.ensures

pub returns-in-BoundTail : goal.returns-in-BoundTail
returns-in-BoundTail c = by_word _ _ _ _ _ c.in-BoundTail.is c.bound_tail.ensures

pub returns-in-ListTail : goal.returns-in-ListTail
returns-in-ListTail c = by_word _ _ _ _ _ c.in-ListTail.is c.list_tail.ensures

pub returns-in-CommaTail : goal.returns-in-CommaTail
returns-in-CommaTail c = by_word _ _ _ _ _ c.in-CommaTail.is c.optional-in-CommaTail.ensures

pub returns-in-AfterComma : goal.returns-in-AfterComma
returns-in-AfterComma c = by_word _ _ _ _ _ c.in-AfterComma.is c.list_tail-in-AfterComma.ensures

pub returns-in-NamedTail : goal.returns-in-NamedTail
returns-in-NamedTail c = by_word _ _ _ _ _ c.in-NamedTail.is c.named_tail.ensures

pub returns-in-Square : goal.returns-in-Square
returns-in-Square c = by_word _ _ _ _ _ c.in-Square.is c.square.ensures

pub returns-in-SquareRest : goal.returns-in-SquareRest
returns-in-SquareRest c = by_word _ _ _ _ _ c.in-SquareRest.is c.square_rest.ensures

pub returns-in-Curly : goal.returns-in-Curly
returns-in-Curly c = by_word _ _ _ _ _ c.in-Curly.is c.curly.ensures

pub returns-in-CurlyRest : goal.returns-in-CurlyRest
returns-in-CurlyRest c = by_word _ _ _ _ _ c.in-CurlyRest.is c.curly_rest.ensures

pub returns-in-PartsTail : goal.returns-in-PartsTail
returns-in-PartsTail c = by_word _ _ _ _ _ c.in-PartsTail.is c.parts_tail.ensures

pub returns-in-ConversionTail : goal.returns-in-ConversionTail
returns-in-ConversionTail c = by_word _ _ _ _ _ c.in-ConversionTail.is c.optional-in-ConversionTail.ensures

pub returns-in-VariablesTail : goal.returns-in-VariablesTail
returns-in-VariablesTail c = by_word _ _ _ _ _ c.in-VariablesTail.is c.optional-in-VariablesTail.ensures

pub returns-in-AfterVariablesComma : goal.returns-in-AfterVariablesComma
returns-in-AfterVariablesComma c = by_word _ _ _ _ _ c.in-AfterVariablesComma.is c.after_variables_comma.ensures

pub returns-in-ClausesTail : goal.returns-in-ClausesTail
returns-in-ClausesTail c = by_word _ _ _ _ _ c.in-ClausesTail.is c.clauses_tail.ensures
