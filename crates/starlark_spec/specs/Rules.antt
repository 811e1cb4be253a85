-- The rules that are tested while tokens are read.
use Rattle.std.specs.Prelude.{◌≡◌, List, [], ◌∷◌, None, Err}
use Rattle.starlark_lexer.specs.Tokens.{Text, Span, from_to, Lexeme}
use Rattle.starlark_spec.specs.declared.error.GrammarError.TheVariants.{FStringConversion, UnparenthesizedTupleTrailingComma, LoadNameWithoutEqual}
use Rattle.starlark_spec.specs.Faults.{Fault, rule_fault, grammar_fault, Types}
use Rattle.starlark_spec.specs.Targets.{target}
use Rattle.starlark_spec.specs.Types.{reading}
use Rattle.starlark_spec.specs.Assignments.{assigned_target}
use Rattle.starlark_tree.specs.Ast.{expression_span}
use Rattle.starlark_lexer.specs.declared.dialect.DialectTypes.{DialectTypes}
use Rattle.starlark_lexer.specs.declared.dialect.DialectTypes.TheVariants.{Disable}
use Rattle.starlark_spec.specs.Grammar.{ElementKind, PrecedenceLevel, AssignSign, Derivation, Node, node}
use Rattle.starlark_spec.specs.Grammar.Derivation.{for_loop, small_assign, list_comma, note_test, sym_alone, vars_comma}
use Rattle.starlark_spec.specs.Grammar.Derivation.{for_clause, conversion_absent, conversion_name}
use Rattle.starlark_spec.specs.Grammar.Nonterminal.{Test, LoopVars, TestList, Annotation, Suite, LeftAssociative, CommaList}
use Rattle.starlark_spec.specs.Trees.{conversion_of, derivation_span, assign_operator, tree}

-- up to where the next token begins, or the span itself if there is none
abbrev pub up_to : Span → List Lexeme → Span
up_to s [] = s
up_to s (x ∷ rest) = from_to s.begin x.span.begin

-- a node breaks a rule, given which types a dialect allows; the tokens are those after it
pub data Breaks (types : DialectTypes) : Node → List Lexeme → Fault → Type 0 where
  -- a comma after a list without delimiters
  comma_after_list : (listed : Derivation (CommaList ElementKind.elements)) (comma_at : Span) (rest : List Lexeme)
      → Breaks types (node (list_comma listed comma_at)) rest (grammar_fault UnparenthesizedTupleTrailingComma (derivation_span (list_comma listed comma_at)))
  comma_after_variables : (listed : Derivation (CommaList ElementKind.variables)) (comma_at : Span) (rest : List Lexeme)
      → Breaks types (node (vars_comma listed comma_at)) rest (grammar_fault UnparenthesizedTupleTrailingComma (derivation_span (vars_comma listed comma_at)))
  -- a name in a load where a string is required
  name_alone : (name : Text) (name_at : Span) (rest : List Lexeme)
      → Breaks types (node (sym_alone name name_at)) rest (grammar_fault LoadNameWithoutEqual name_at)
  -- a conversion of an f-string that is neither `s` nor `r`
  no_conversion : (bang_at : Span) (rest : List Lexeme)
      → Breaks types (node (conversion_absent bang_at)) rest (grammar_fault FStringConversion (up_to bang_at rest))
  other_conversion : (bang_at : Span) (name : Text) (name_at : Span) (rest : List Lexeme) → conversion_of name ≡ None
      → Breaks types (node (conversion_name bang_at name name_at)) rest (grammar_fault FStringConversion (from_to bang_at.begin name_at.end))
  -- a type, if the dialect has none, or an expression that is not a type
  no_types : (test : Derivation Test) (rest : List Lexeme) → types ≡ Disable
      → Breaks types (node (note_test test)) rest (rule_fault Types (expression_span (tree test)))
  no_type : (test : Derivation Test) (rest : List Lexeme) (fault : Fault) → ¬ (types ≡ Disable) → reading (tree test) ≡ Err fault
      → Breaks types (node (note_test test)) rest fault
  -- an assignment to an expression that is not a target, or whose target may not have a type or an operator
  no_assignment : (left : Derivation TestList) (annotation : Derivation Annotation) (sign : AssignSign) (sign_at : Span) (right : Derivation TestList)
      (rest : List Lexeme) (fault : Fault)
      → assigned_target (tree left) (tree annotation) (assign_operator sign) ≡ Err fault
      → Breaks types (node (small_assign left annotation sign sign_at right)) rest fault
  -- a loop over an expression that is not a target
  no_target_in_loop : (for_at : Span) (vars : Derivation LoopVars) (in_at : Span) (source : Derivation Test) (colon_at : Span) (suite : Derivation Suite)
      (rest : List Lexeme) (fault : Fault)
      → target (tree vars) ≡ Err fault → Breaks types (node (for_loop for_at vars in_at source colon_at suite)) rest fault
  no_target_in_clause : (for_at : Span) (vars : Derivation LoopVars) (in_at : Span) (source : Derivation (LeftAssociative PrecedenceLevel.or_precedence))
      (rest : List Lexeme) (fault : Fault)
      → target (tree vars) ≡ Err fault → Breaks types (node (for_clause for_at vars in_at source)) rest fault
