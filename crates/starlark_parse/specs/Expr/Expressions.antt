-- What the parser's values mean as derivations.
use Rattle.std.specs.Prelude.{◌≡◌, ℕ, ◌≤◌, ⊤, List, [], ◌∷◌, None}
use Rattle.starlark_lexer.specs.Tokens.{Span, from_to, Terminal}
use Rattle.starlark_lexer.specs.Tokens as terminals
use Rattle.starlark_tree.specs.Ast as t
use Rattle.starlark_tree.specs.Ast.{Expression, expression, expression_span, no_payload}
use Rattle.starlark_spec.specs.Grammar.{Derivation}
use Rattle.starlark_spec.specs.Grammar.Nonterminal.{Test, LeftAssociative, Primary, Atom, Sub, Entry, LambdaParam, LoopVars, ForClause, Clauses, OptionalList}
use Rattle.starlark_spec.specs.Grammar.PrecedenceLevel.{or_precedence, bit_or_precedence}
use Rattle.starlark_spec.specs.Grammar.ElementKind.{elements, entries}
use Rattle.starlark_spec.specs.Grammar.ElementOf.{of_elements, of_entries}
use Rattle.starlark_spec.specs.Grammar.Derivation.{optional_list_none, optional_list_plain, comma_list_one}
use Rattle.starlark_spec.specs.Trees.{Pair, tree, called, grouped, subscripted, tuple, at as word_of}
use Rattle.starlark_spec.specs.Machine.Sight.{text_of}
use Rattle.starlark_spec.specs.Machine.Moves.{single, single_entry}
use Rattle.starlark_spec.specs.Machine.Faults.{vars_fault, clause_fault}
use Rattle.starlark_parse_held.specs.declared.expression.HeldExpr.{HeldExpr}
use Rattle.starlark_parse_held.specs.declared.argument.HeldArguments.{HeldArguments}
use Rattle.starlark_parse_held.specs.declared.parameter.HeldParameter.{HeldParameter}
use Rattle.starlark_parse_held.specs.declared.clause.HeldForClause.{HeldForClause}
use Rattle.starlark_parse_held.specs.declared.clause.HeldClauses.{HeldClauses}
use Rattle.starlark_parse_held.specs.Held.{expression_of, expressions_in, arguments_in, pair_of, entries_in, parameter_of, for_in_of, clauses_in}
use Rattle.starlark_parse_build.specs.Suffixes.{with_suffix}
use Rattle.starlark_parse_build.specs.declared.suffix.Suffix.{Suffix}
use Rattle.starlark_parse.specs.declared.expr.listed.Listed.{Listed}
use Rattle.starlark_parse.specs.declared.expr.listed.Listed.TheVariants as listed
use Rattle.starlark_parse.specs.declared.expr.listed.ListedEntries.{ListedEntries}
use Rattle.starlark_parse.specs.declared.expr.listed.ListedEntries.TheVariants as listed_entry

abbrev pub IsTest : HeldExpr → Derivation Test → Type 0
IsTest e d = expression_of e ≡ tree d

abbrev pub IsOr : HeldExpr → Derivation (LeftAssociative or_precedence) → Type 0
IsOr e d = expression_of e ≡ tree d

abbrev pub IsBitOr : HeldExpr → Derivation (LeftAssociative bit_or_precedence) → Type 0
IsBitOr e d = expression_of e ≡ tree d

abbrev pub IsPrimary : HeldExpr → Derivation Primary → Type 0
IsPrimary e d = expression_of e ≡ tree d

abbrev pub IsAtom : HeldExpr → Derivation Atom → Type 0
IsAtom e d = expression_of e ≡ tree d

abbrev pub IsEntry : HeldExpr × HeldExpr → Derivation Entry → Type 0
IsEntry p d = pair_of p ≡ tree d

abbrev pub IsParameter : HeldParameter → Derivation LambdaParam → Type 0
IsParameter p d = parameter_of p ≡ tree d

-- what is in the square brackets after an operand
abbrev pub IsSub : Suffix → Derivation Sub → Type 0
IsSub v d = (span : Span) (e : Expression no_payload) → with_suffix span e v ≡ subscripted span e (tree d)

-- Loop variables, a clause of a comprehension: they break no rule.
abbrev pub IsLoopVars : HeldExpr → Derivation LoopVars → Type 0
IsLoopVars e d = (expression_of e ≡ tree d) × (vars_fault d ≡ None)

abbrev pub IsForClause : HeldForClause → Derivation ForClause → Type 0
IsForClause c d = (for_in_of c ≡ tree d) × (clause_fault d ≡ None)

abbrev pub IsClauses : HeldClauses → Derivation Clauses → Type 0
IsClauses cs d = clauses_in cs ≡ tree d

-- one expression without a comma, and one entry
abbrev pub IsOneTest : HeldExpr → Derivation (OptionalList elements) → Type 0
IsOneTest e d = (one : Derivation Test) × (d ≡ optional_list_plain (comma_list_one of_elements one)) × (expression_of e ≡ tree one)

abbrev pub IsOneEntry : HeldExpr × HeldExpr → Derivation (OptionalList entries) → Type 0
IsOneEntry p d = (one : Derivation Entry) × (d ≡ optional_list_plain (comma_list_one of_entries one)) × (pair_of p ≡ tree one)

-- What is in delimiters, between two offsets: none; one without a comma; or the elements, which are a tuple in parentheses.
abbrev pub AreTests : ℕ → ℕ → Listed → Derivation (OptionalList elements) → Type 0
AreTests begin end listed.Nothing d = d ≡ optional_list_none
AreTests begin end (listed.One e) d = IsOneTest e d
AreTests begin end (listed.Many es) d =
    (tree d ≡ expressions_in es) × (single d ≡ None) × ((brackets : Span) → grouped brackets d (tree d) ≡ tuple (from_to begin end) (tree d))

abbrev pub AreEntries : ListedEntries → Derivation (OptionalList entries) → Type 0
AreEntries (listed_entry.One key value) d = IsOneEntry (key, value) d
AreEntries (listed_entry.Many es) d = (entries_in es ≡ tree d) × (single_entry d ≡ None)

abbrev pub elements_in : Listed → List (Expression no_payload)
elements_in listed.Nothing = []
elements_in (listed.One e) = expression_of e ∷ []
elements_in (listed.Many es) = expressions_in es

-- the meaning of these parentheses, which contain expressions between two offsets
abbrev pub in_parentheses : Span → ℕ → ℕ → Listed → Expression no_payload
in_parentheses brackets begin end listed.Nothing = tuple brackets []
in_parentheses brackets begin end (listed.One e) = expression_of e
in_parentheses brackets begin end (listed.Many es) = tuple (from_to begin end) (expressions_in es)

abbrev pub listed_entries : ListedEntries → List Pair
listed_entries (listed_entry.One key value) = pair_of (key, value) ∷ []
listed_entries (listed_entry.Many es) = entries_in es

-- an expression lies between two offsets
abbrev pub Lies : ℕ → ℕ → HeldExpr → Type 0
Lies begin end e = (begin ≤ (expression_span (expression_of e)).begin) × ((expression_span (expression_of e)).end ≤ end)

abbrev pub LiesListed : ℕ → ℕ → Listed → Type 0
LiesListed begin end listed.Nothing = ⊤
LiesListed begin end (listed.One e) = Lies begin end e
LiesListed begin end (listed.Many es) = begin ≤ end

-- an expression is a call of an operand, up to an offset
abbrev pub IsCall : HeldExpr → HeldArguments → ℕ → HeldExpr → Type 0
IsCall operand arguments end e = expression_of e ≡ called (from_to operand.tree.value.span.begin.byte end) (expression_of operand) (arguments_in arguments)

-- an expression begins where another does, and ends no later than an offset
abbrev pub Extends : HeldExpr → ℕ → HeldExpr → Type 0
Extends operand end e = (e.tree.value.span.begin ≡ operand.tree.value.span.begin) × (e.tree.value.span.end.byte ≤ end)

-- what a leaf is
abbrev pub leaf_expression : Terminal → Span → Expression no_payload
leaf_expression (terminals.Int n) s = expression s (t.Constant (t.Int s n))
leaf_expression (terminals.Float text) s = expression s (t.Constant (t.Float (word_of text s)))
leaf_expression (terminals.String text) s = expression s (t.Constant (t.String (word_of text s)))
leaf_expression (terminals.Bytes text) s = expression s (t.Constant (t.Bytes (word_of text s)))
leaf_expression terminals.Ellipsis s = expression s (t.Constant t.Ellipsis)
leaf_expression name s = expression s (t.Identifier (word_of (text_of name) s) tt)
