-- The contracts of the parser's functions that read a part of a nonterminal.
use Rattle.std.specs.Prelude.{◌≡◌, ℕ, ⊤, true, false, if◌then◌else◌, List, [], ◌∷◌, ◌++◌, Option, Some, None, Result, Ok, String, string_bytes}
use Rattle.std.specs.Global.{Global}
use Rattle.starlark_lexer.specs.Tokens.{Span, from_to, span_of, Lexeme, lexeme}
use Rattle.starlark_lexer.specs.Tokens as terminals
use Rattle.starlark_lexer.specs.Lexer.{CodeLexeme}
use Rattle.starlark_lexer.specs.declared.span.Span.{Span as CodeSpan}
use Rattle.starlark_lexer.specs.declared.token.FStringConv.{FStringConv}
use Rattle.starlark_lexer.specs.declared.token.FStringQuote.{FStringQuote}
use Rattle.starlark_tree.specs.Ast.{Word, Expression, expression, Identifier, Positional, Named, Maybe, no_payload}
use Rattle.starlark_tree.specs.Views.{word}
use Rattle.starlark_lexer.specs.declared.kind.Kind.TheVariants as kinds
use Rattle.starlark_spec.specs.declared.error.GrammarError.TheVariants.{UnparenthesizedTupleTrailingComma}
use Rattle.starlark_spec.specs.Faults.{grammar_fault}
use Rattle.starlark_spec.specs.Answers.{Answer}
use Rattle.starlark_spec.specs.Answers.Answer.{memory, broken_rule}
use Rattle.starlark_spec.specs.Grammar.{Derivation, right_side, yield_of}
use Rattle.starlark_spec.specs.Grammar.ElementKind.{elements, arguments, entries, lambda_parameters}
use Rattle.starlark_spec.specs.Grammar.Nonterminal.{Module, Test, Primary, Atom, Arg, Sub, Bound, LambdaParam, FStringParts, Conversion, OptionalList}
use Rattle.starlark_spec.specs.Grammar.Derivation.{parts_replacement}
use Rattle.starlark_spec.specs.Trees.{Format, tree, begin_of, end_of_last}
use Rattle.starlark_lexer.specs.Kinds.{is}
use Rattle.starlark_spec.specs.Machine.States.{Place, State, primary_call_at, primary_subscript_at, sub_stop_at, conversion_at, replacement_at}
use Rattle.starlark_spec.specs.Machine.States.{atom_round_at, atom_square_at, atom_curly_at, parts_at, arg_star_at, arg_stars_at}
use Rattle.starlark_spec.specs.Machine.States.State.{read, done, primary_tail, name_due, after_name, parts_tail, replacement_due}
use Rattle.starlark_spec.specs.Machine.Sight.{look_at}
use Rattle.starlark_spec.specs.Machine.Firsts.{starts_test}
use Rattle.starlark_parse_held.specs.declared.expression.HeldExpr.{HeldExpr}
use Rattle.starlark_parse_held.specs.declared.expression.HeldExprs.{HeldExprs}
use Rattle.starlark_parse_held.specs.declared.argument.HeldArguments.{HeldArguments}
use Rattle.starlark_parse_held.specs.declared.parameter.HeldParameters.{HeldParameters}
use Rattle.starlark_parse_held.specs.Held.{expression_of, expressions_in, maybe_of, arguments_in, parameters_in}
use Rattle.starlark_parse_build.specs.Suffixes.{format_of}
use Rattle.starlark_parse_build.specs.declared.format.Format.{Format as CodeFormat}
use Rattle.starlark_parse_build.specs.declared.suffix.Suffix.{Suffix}
use Rattle.starlark_spec.specs.declared.refusal.Refusal.{Refusal}
use Rattle.starlark_spec.specs.Refusals.{refused}
use Rattle.starlark_parse_cursor.specs.Reading.{At, Advances, begin_at, stop_at}
use Rattle.starlark_parse_cursor.specs.Contract.{CodeName, Goes, Gives, Found, FoundOptionalList, ParsesFrom, Parses, ParsesOptionalList, ParsesPerhaps}
use Rattle.starlark_parse.specs.declared.expr.argument.NameRead.{NameRead}
use Rattle.starlark_parse.specs.declared.expr.argument.NameRead.TheVariants as names
use Rattle.starlark_parse.specs.declared.expr.listed.Listed.{Listed}
use Rattle.starlark_parse.specs.declared.expr.listed.ListedEntries.{ListedEntries}
use Rattle.starlark_parse.specs.Expr.Expressions.{IsTest, IsPrimary, IsAtom, IsSub, AreTests, AreEntries, Lies}

-- The answer if what was read is checked, and fails. If memory ran out for the item that comes next, it is not known whether that continues it.
abbrev pub checked : {S : Type 0} → Refusal → At S → Answer
checked error a = if (look_at a.sight).no_memory then memory else refused error

-- what is due after an operand and what was consumed after it: a name after `.`, arguments after `(`, a subscript after `[`
abbrev pub at_name : Span → Derivation Primary → Place Module Primary → State Module
at_name dot d p = name_due d dot p

abbrev pub at_arguments : Span → Derivation Primary → Place Module Primary → State Module
at_arguments opening d p = read (OptionalList arguments) (primary_call_at d opening p)

abbrev pub at_subscript : Span → Derivation Primary → Place Module Primary → State Module
at_subscript opening d p = read Sub (primary_subscript_at d opening p)

-- what is due in delimiters, in an f-string, and after the operators of an argument
abbrev pub at_round : Span → Place Module Atom → State Module
at_round opening p = read (OptionalList elements) (atom_round_at opening p)

abbrev pub at_square : Span → Place Module Atom → State Module
at_square opening p = read (OptionalList elements) (atom_square_at opening p)

abbrev pub at_curly : Span → Place Module Atom → State Module
at_curly opening p = read (OptionalList entries) (atom_curly_at opening p)

abbrev pub at_parts : FStringQuote → Span → Place Module Atom → State Module
at_parts quote start p = read FStringParts (parts_at quote start p)

abbrev pub at_star : Span → Place Module Arg → State Module
at_star star p = read Test (arg_star_at star p)

abbrev pub at_stars : Span → Place Module Arg → State Module
at_stars stars p = read Test (arg_stars_at stars p)

-- the name of a parameter was consumed
abbrev pub past_name : Word → Place Module LambdaParam → State Module
past_name name p = after_name name.text name.span p

-- the argument that was read was added
abbrev pub AddsArgument : HeldArguments → HeldArguments → Derivation Arg → Type 0
AddsArgument old new d = arguments_in new ≡ arguments_in old ++ tree d ∷ []

-- the expression that was read was added
abbrev pub AddsElement : HeldExprs → HeldExprs → Expression no_payload → Type 0
AddsElement old new e = expressions_in new ≡ expressions_in old ++ e ∷ []

-- the same, and a comma comes after it
abbrev pub AddsBeforeComma : {S : Type 0} → HeldExprs → HeldExprs → At S → Expression no_payload → Type 0
AddsBeforeComma old new b e = AddsElement old new e × (is (look_at b.sight).kind kinds.Comma ≡ true)

-- nothing was added, and no comma comes
abbrev pub KeepsNoComma : {S : Type 0} → HeldExprs → HeldExprs → At S → Type 0
KeepsNoComma old new b = (expressions_in new ≡ expressions_in old) × (is (look_at b.sight).kind kinds.Comma ≡ false)

-- the argument that an expression is, between two offsets, was added
abbrev pub AddsPositional : ℕ → ℕ → HeldArguments → HeldArguments → Expression no_payload → Type 0
AddsPositional begin end old new e = arguments_in new ≡ arguments_in old ++ Positional (from_to begin end) e ∷ []

-- the same by name
abbrev pub AddsNamed : CodeName → ℕ → ℕ → HeldArguments → HeldArguments → Expression no_payload → Type 0
AddsNamed name begin end old new e = arguments_in new ≡ arguments_in old ++ Named (from_to begin end) (word name) e ∷ []

-- the expression that a name is
abbrev pub named_by : Span → CodeName → Expression no_payload
named_by span name = expression span (Identifier (word name) tt)

-- the atom that an argument begins with lies between two offsets
abbrev pub LiesName : ℕ → ℕ → NameRead → Type 0
LiesName begin end names.Added = ⊤
LiesName begin end (names.Name name) = ⊤
LiesName begin end (names.Atom atom) = Lies begin end atom

-- the answer if no variable comes after a comma
abbrev pub after_trailing_comma : {S : Type 0} → ℕ → At S → Answer
after_trailing_comma begin a =
    if is (look_at a.sight).kind kinds.Not then stop_at a
    else (if (look_at a.sight).no_memory then memory else broken_rule (grammar_fault UnparenthesizedTupleTrailingComma (from_to begin a.end)))

module _ {S : Type 0} (steps : S → Option CodeLexeme → S → Type 0) where
  -- An operand was read: an atom and suffixes, of which more may come.
  pub record Suffixed (a b : At S) (operand : Expression no_payload) : Type 0 where
    pub derivation : Derivation Primary
    pub means : operand ≡ tree derivation
    pub begin_is : (rest : List Lexeme) → begin_of (yield_of derivation rest) ≡ begin_at a
    pub end_is : (before : ℕ) → b.end ≡ end_of_last (right_side derivation) before
    pub goes : (p : Place Module Primary) → Goes steps (read Primary p) a (primary_tail derivation p) b

  -- suffixes after an operand, wherever the operand was read from
  abbrev pub ParsesSuffixes : HeldExpr → At S → Result HeldExpr Refusal → At S → Type 0
  ParsesSuffixes operand a r b = (start : At S) → Suffixed start a (expression_of operand) → Parses steps Primary IsPrimary start r b

  -- A suffix that is read after any derivation of the operand: the whole begins as the operand does, and its last token is the last one consumed.
  pub record FoundAfter (from : Derivation Primary → Place Module Primary → State Module) (operand whole : Expression no_payload) (a b : At S) : Type 0 where
    pub derivation : Derivation Primary → Derivation Primary
    pub means : (d : Derivation Primary) → operand ≡ tree d → whole ≡ tree (derivation d)
    pub goes_on : (d : Derivation Primary) (rest : List Lexeme) → (more : List Lexeme) × (yield_of (derivation d) rest ≡ yield_of d more)
    pub end_is : (d : Derivation Primary) (before : ℕ) → b.end ≡ end_of_last (right_side (derivation d)) before
    pub goes : (d : Derivation Primary) (p : Place Module Primary) → Goes steps (from d p) a (primary_tail (derivation d) p) b

  abbrev pub ParsesAfter : (Derivation Primary → Place Module Primary → State Module) → HeldExpr → At S → Result HeldExpr Refusal → At S → Type 0
  ParsesAfter from operand a r b =
      Gives steps (λ (i : Derivation Primary × Place Module Primary). from i.0 i.1) (λ e. FoundAfter from (expression_of operand) (expression_of e) a) a r b

  -- the operand with a subscript that is closed, wherever the subscript was read from
  abbrev pub ParsesClosed : Suffix → HeldExpr → At S → Result HeldExpr Refusal → At S → Type 0
  ParsesClosed subscript operand a r b = (opening : Span) (start : At S) (begin : ℕ)
      → Found steps (λ (p : Place Module Sub). read Sub p) begin (IsSub subscript) start a → ParsesAfter (at_subscript opening) operand start r b

  -- what follows the first expression of a subscript, wherever that was read from
  abbrev pub ParsesIndex : HeldExpr → At S → Result Suffix Refusal → At S → Type 0
  ParsesIndex first a r b = (start : At S) → starts_test (look_at start.sight).kind ≡ true
      → Found steps (λ (p : Place Module Test). read Test p) (begin_at start) (IsTest first) start a → Parses steps Sub IsSub start r b

  -- a bound of a slice, which may be absent
  abbrev pub ParsesBound : At S → Result (Option HeldExpr) Refusal → At S → Type 0
  ParsesBound a r b = ParsesPerhaps steps Bound (λ (v : Option HeldExpr) (d : Derivation Bound). maybe_of v ≡ tree d) a r b

  -- What follows the first `:` of a slice, after any start that is read as this one.
  pub record FoundSlice (start : Maybe no_payload) (v : Suffix) (a b : At S) : Type 0 where
    pub derivation : Derivation Bound → Span → Derivation Sub
    pub means : (d : Derivation Bound) (c : Span) → start ≡ tree d → IsSub v (derivation d c)
    pub goes_on : (d : Derivation Bound) (c : Span) (rest : List Lexeme)
        → (more : List Lexeme) × (yield_of (derivation d c) rest ≡ yield_of d (lexeme terminals.Colon c ∷ more))
    pub end_is : (d : Derivation Bound) (c : Span) (before : ℕ) → a.end ≡ c.end → b.end ≡ end_of_last (right_side (derivation d c)) before
    pub goes : (d : Derivation Bound) (c : Span) (p : Place Module Sub) → Goes steps (read Bound (sub_stop_at d c p)) a (done (derivation d c) p) b

  abbrev pub ParsesSlice : Maybe no_payload → At S → Result Suffix Refusal → At S → Type 0
  ParsesSlice start a r b =
      Gives steps (λ (i : Derivation Bound × Span × Place Module Sub). read Bound (sub_stop_at i.0 i.1 i.2)) (λ v. FoundSlice start v a) a r b

  -- The conversion after a value in an f-string, up to where `}` is due: it breaks no rule.
  pub record FoundConversion (v : FStringConv) (a b : At S) : Type 0 where
    pub derivation : Derivation Conversion
    pub means : v ≡ tree derivation
    pub goes : (d : Derivation FStringParts) (o : Span) (e : Derivation Test) (p : Place Module FStringParts)
        → Goes steps (read Conversion (conversion_at d o e p)) a (replacement_due d o e derivation p) b

  abbrev pub ParsesConversion : At S → Result FStringConv Refusal → At S → Type 0
  ParsesConversion a r b =
      Gives steps (λ (i : Derivation FStringParts × Span × Derivation Test × Place Module FStringParts). read Conversion (conversion_at i.0 i.1 i.2 i.3))
      (λ v. FoundConversion v a) a r b

  -- A value in an f-string, after any pieces, with its conversion and `}`.
  pub record FoundHole (v : HeldExpr × FStringConv) (a b : At S) : Type 0 where
    pub derivation : Derivation Test
    pub conversion : Derivation Conversion
    pub closing : Span
    pub means : expression_of v.0 ≡ tree derivation
    pub converts : v.1 ≡ tree conversion
    pub goes : (d : Derivation FStringParts) (o : Span) (p : Place Module FStringParts)
        → Goes steps (read Test (replacement_at d o p)) a (parts_tail (parts_replacement d o derivation conversion closing) p) b

  abbrev pub ParsesHole : At S → Result (HeldExpr × FStringConv) Refusal → At S → Type 0
  ParsesHole a r b =
      Gives steps (λ (i : Derivation FStringParts × Span × Place Module FStringParts). read Test (replacement_at i.0 i.1 i.2)) (λ v. FoundHole v a) a r b

  -- what is between the quotes of an f-string
  pub record FoundPieces (v : Format) (a b : At S) : Type 0 where
    pub derivation : Derivation FStringParts
    pub means : v ≡ tree derivation
    pub goes : (p : Place Module FStringParts) → Goes steps (read FStringParts p) a (done derivation p) b

  abbrev pub ParsesPieces : At S → Result CodeFormat Refusal → At S → Type 0
  ParsesPieces a r b = Gives steps (λ (p : Place Module FStringParts). read FStringParts p) (λ v. FoundPieces (format_of v) a) a r b

  -- what is read after the beginning of an f-string, whatever its quotes are
  abbrev pub ParsesFString : Span → At S → Result HeldExpr Refusal → At S → Type 0
  ParsesFString start a r b = (quote : FStringQuote) → ParsesFrom steps (at_parts quote start) start.begin IsAtom a r b

  -- the result of consuming the beginning of an f-string
  abbrev pub TakesStart : At S → Option CodeSpan → At S → Type 0
  TakesStart a (Some span) b = (quote : FStringQuote) × Advances steps a (lexeme (terminals.FStringStart quote) (span_of span)) b
  TakesStart a None b = (is (look_at a.sight).kind kinds.FStringStart ≡ false) × (b ≡ a)

  -- the result of consuming a text of an f-string
  abbrev pub TakesText : At S → Option (String Global) → At S → Type 0
  TakesText a (Some text) b = (span : Span) × Advances steps a (lexeme (terminals.FStringText (string_bytes text)) span) b
  TakesText a None b = (is (look_at a.sight).kind kinds.FStringText ≡ false) × (b ≡ a)

  -- ---- lists

  -- The result of consuming an atom of one token: an expression, which was added; or an atom that may be continued, and nothing was added.
  abbrev pub FindsLeaf : (Expression no_payload → Type 0) → Type 0 → At S → Option HeldExpr → At S → Type 0
  FindsLeaf Adds Same a None b = Found steps (λ (p : Place Module Test). read Test p) (begin_at a) (λ (d : Derivation Test). Adds (tree d)) a b
  FindsLeaf Adds Same a (Some atom) b = Same × Parses steps Atom IsAtom a (Ok atom) b

  abbrev pub TakesLeaf : (Expression no_payload → Type 0) → Type 0 → At S → Result (Option HeldExpr) Refusal → At S → Type 0
  TakesLeaf Adds Same a r b = Gives steps (λ (p : Place Module Test). read Test p) (FindsLeaf Adds Same a) a r b

  abbrev pub ParsesTests : At S → Result Listed Refusal → At S → Type 0
  ParsesTests a r b = ParsesOptionalList steps elements (λ v c. AreTests (begin_at a) c.end v) a r b

  -- what follows the first expression of a list, wherever that was read from
  abbrev pub ParsesMoreTests : Expression no_payload → At S → Result Listed Refusal → At S → Type 0
  ParsesMoreTests e a r b = (start : At S) → starts_test (look_at start.sight).kind ≡ true
      → Found steps (λ (p : Place Module Test). read Test p) (begin_at start) (λ (d : Derivation Test). e ≡ tree d) start a → ParsesTests start r b

  -- arguments are added to those that were read before
  abbrev pub ParsesArguments : {V : Type 0} → HeldArguments → HeldArguments → At S → Result V Refusal → At S → Type 0
  ParsesArguments old new a r b = ParsesOptionalList steps arguments (λ v c d. arguments_in new ≡ arguments_in old ++ tree d) a r b

  -- one argument is added to those
  abbrev pub ParsesArgument : {V : Type 0} → HeldArguments → HeldArguments → At S → Result V Refusal → At S → Type 0
  ParsesArgument old new a r b = Parses steps Arg (λ v d. AddsArgument old new d) a r b

  -- the same after the operator of an argument
  abbrev pub ParsesStarred : {V : Type 0} → (Place Module Arg → State Module) → ℕ → HeldArguments → HeldArguments → At S → Result V Refusal → At S → Type 0
  ParsesStarred from begin old new a r b = ParsesFrom steps from begin (λ v d. AddsArgument old new d) a r b

  -- the argument that begins with the expression that was read, which begins with a name, wherever it was read from
  abbrev pub ParsesNamed : {V : Type 0} → ℕ → Expression no_payload → HeldArguments → HeldArguments → At S → Result V Refusal → At S → Type 0
  ParsesNamed begin first old new a r b = (start : At S) → begin ≡ begin_at start → is (look_at start.sight).kind kinds.Identifier ≡ true
      → Found steps (λ (p : Place Module Test). read Test p) (begin_at start) (λ (d : Derivation Test). first ≡ tree d) start a
      → ParsesArgument old new start r b

  -- The result of consuming the name that an argument begins with: the argument, which was added, and no `=` comes; or the argument's name, and `=` comes;
  -- or an atom that may be continued.
  abbrev pub FindsName : HeldArguments → HeldArguments → At S → NameRead → At S → Type 0
  FindsName old new a names.Added b =
      Found steps (λ (p : Place Module Test). read Test p) (begin_at a) (λ (d : Derivation Test). AddsPositional (begin_at a) b.end old new (tree d)) a b
      × (is (look_at b.sight).kind kinds.Equal ≡ false)
  FindsName old new a (names.Name name) b =
      Found steps (λ (p : Place Module Test). read Test p) (begin_at a) (λ (d : Derivation Test). named_by (span_of name.span) name ≡ tree d) a b
      × (is (look_at b.sight).kind kinds.Equal ≡ true) × (arguments_in new ≡ arguments_in old)
  FindsName old new a (names.Atom atom) b = Parses steps Atom IsAtom a (Ok atom) b × (arguments_in new ≡ arguments_in old)

  abbrev pub TakesNamed : HeldArguments → HeldArguments → At S → Result NameRead Refusal → At S → Type 0
  TakesNamed old new a r b = Gives steps (λ (p : Place Module Test). read Test p) (FindsName old new a) a r b

  -- the result of consuming an atom of one token that the value of a named argument begins with
  abbrev pub FindsValue : CodeName → ℕ → HeldArguments → HeldArguments → At S → Option (CodeName × HeldExpr) → At S → Type 0
  FindsValue name begin old new a None b =
      Found steps (λ (p : Place Module Test). read Test p) (begin_at a) (λ (d : Derivation Test). AddsNamed name begin b.end old new (tree d)) a b
  FindsValue name begin old new a (Some x) b = Parses steps Atom IsAtom a (Ok x.1) b × (x.0 ≡ name) × (arguments_in new ≡ arguments_in old)

  abbrev pub TakesValue : CodeName → ℕ → HeldArguments → HeldArguments → At S → Result (Option (CodeName × HeldExpr)) Refusal → At S → Type 0
  TakesValue name begin old new a r b = Gives steps (λ (p : Place Module Test). read Test p) (FindsValue name begin old new a) a r b

  abbrev pub ParsesEntries : At S → Result ListedEntries Refusal → At S → Type 0
  ParsesEntries a r b = ParsesOptionalList steps entries (λ v c d. AreEntries v d) a r b

  abbrev pub ParsesParameters : At S → Result HeldParameters Refusal → At S → Type 0
  ParsesParameters a r b = ParsesOptionalList steps lambda_parameters (λ v c d. parameters_in v ≡ tree d) a r b

  -- ---- what is in delimiters, wherever its list was read from

  abbrev pub ParsesRound : Span → ℕ → Listed → At S → Result HeldExpr Refusal → At S → Type 0
  ParsesRound opening begin listed a r b = (start : At S) → FoundOptionalList steps (AreTests begin a.end listed) start a
      → ParsesFrom steps (at_round opening) opening.begin IsAtom start r b

  abbrev pub ParsesSquare : Span → Listed → At S → Result HeldExpr Refusal → At S → Type 0
  ParsesSquare opening listed a r b = (start : At S) → FoundOptionalList steps (AreTests (begin_at start) a.end listed) start a
      → ParsesFrom steps (at_square opening) opening.begin IsAtom start r b

  abbrev pub ParsesCurly : Span → ListedEntries → At S → Result HeldExpr Refusal → At S → Type 0
  ParsesCurly opening listed a r b = (start : At S) → FoundOptionalList steps (AreEntries listed) start a
      → ParsesFrom steps (at_curly opening) opening.begin IsAtom start r b
