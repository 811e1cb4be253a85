-- What may come next, as messages name it.
use Rattle.std.specs.Prelude.{List, [], ◌∷◌, ◌++◌, codes}
use Rattle.starlark_lexer.specs.Tokens.{Text}
use Rattle.starlark_lexer.specs.declared.kind.Kind.{Kind}
use Rattle.starlark_lexer.specs.declared.kind.Kind.TheVariants as kinds
use Rattle.starlark_diagnostics.specs.declared.thing.Thing.{Thing}
use Rattle.starlark_diagnostics.specs.declared.thing.Thing.TheVariants as things

abbrev pub kind_text : Kind → Text
kind_text kinds.Identifier = codes "a name"
kind_text kinds.String = codes "a string"
kind_text kinds.Indent = codes "an indented block"
kind_text kinds.In = codes "`in`"
kind_text kinds.Else = codes "`else`"
kind_text kinds.Equal = codes "`=`"
kind_text kinds.MinusGreater = codes "`->`"
kind_text kinds.Comma = codes "`,`"
kind_text kinds.Colon = codes "`:`"
kind_text kinds.OpeningRound = codes "`(`"
kind_text kinds.ClosingRound = codes "`)`"
kind_text kinds.ClosingSquare = codes "`]`"
kind_text kinds.ClosingCurly = codes "`}`"
kind_text kinds.FStringBang = codes "`!`"
kind_text kinds.FStringExprEnd = codes "`}`"
kind_text kinds.Star = codes "`*`"
kind_text kinds.StarStar = codes "`**`"
kind_text kinds.Slash = codes "`/`"
kind_text kinds.FStringEnd = codes "the end of the string"
kind_text kinds.Newline = codes "a new line"
kind_text kinds.Dedent = codes "the end of the block"
kind_text kind = codes "another token"

abbrev pub thing_text : Thing → Text
thing_text things.Statement = codes "a statement"
thing_text things.Expression = codes "an expression"
thing_text things.Operand = codes "an operand"
thing_text things.Variable = codes "a variable"
thing_text things.Operator = codes "an operator"
thing_text (things.Token kind) = kind_text kind

-- the kinds with which an operand begins
abbrev pub operand_kinds : List Kind
operand_kinds =
    kinds.Identifier ∷ kinds.Int ∷ kinds.Float ∷ kinds.String ∷ kinds.Bytes ∷ kinds.FStringStart ∷ kinds.Ellipsis ∷ kinds.OpeningRound ∷
    kinds.OpeningSquare ∷ kinds.OpeningCurly ∷ kinds.Plus ∷ kinds.Minus ∷ kinds.Tilde ∷ []

-- The kinds that may come if a message says that the thing is expected: for an operator, `|`.
abbrev pub kinds_of : Thing → List Kind
kinds_of things.Statement = kinds.Pass ∷ operand_kinds
kinds_of things.Expression = kinds.Lambda ∷ operand_kinds
kinds_of things.Operand = operand_kinds
kinds_of things.Variable = operand_kinds
kinds_of things.Operator = kinds.Pipe ∷ []
kinds_of (things.Token kind) = kind ∷ []

-- what is not expected, which is called so, and what is, if that is at most four things
abbrev pub unexpected : Text → List Thing → Text
unexpected name (a ∷ []) = codes "unexpected " ++ (name ++ (codes ", expected " ++ thing_text a))
unexpected name (a ∷ b ∷ []) = codes "unexpected " ++ (name ++ (codes ", expected " ++ (thing_text a ++ (codes " or " ++ thing_text b))))
unexpected name (a ∷ b ∷ c ∷ []) =
    codes "unexpected " ++ (name ++ (codes ", expected " ++ (thing_text a ++ (codes ", " ++ (thing_text b ++ (codes " or " ++ thing_text c))))))
unexpected name (a ∷ b ∷ c ∷ d ∷ []) =
    codes "unexpected "
    ++ (name ++ (codes ", expected " ++ (thing_text a ++ (codes ", " ++ (thing_text b ++ (codes ", " ++ (thing_text c ++ (codes " or " ++ thing_text d))))))))
unexpected name things = codes "unexpected " ++ name
