-- The answer for a list of items.
use Rattle.std.specs.Prelude.{◌≡◌, ℕ, ◌≤◌, length, List, [], ◌∷◌, ◌++◌, ◌⊎◌, ⊤}
use Rattle.starlark_lexer.specs.Tokens.{Span, from_to, Lexeme, LexerFault}
use Rattle.starlark_tree.specs.Ast.{Statement, no_payload}
use Rattle.starlark_spec.specs.Items.{Items, at_end, fails, out_of_memory}
use Rattle.starlark_spec.specs.Grammar.{Derivation, Derives}
use Rattle.starlark_spec.specs.Grammar.Nonterminal.{Module}
use Rattle.starlark_spec.specs.Trees.{module_tree}
use Rattle.starlark_spec.specs.Program.{IsProgram, BeginsProgram}
use Rattle.starlark_spec.specs.Nodes.{Occurrence, Stands, IsClosedBy}
use Rattle.starlark_spec.specs.Rules.{Breaks}
use Rattle.starlark_lexer.specs.declared.dialect.DialectTypes.{DialectTypes}
use Rattle.starlark_spec.specs.Faults.{Fault}

-- a module's statement, or an error with its span
pub data Answer : Type 0 where
  module_of : Statement no_payload → Answer
  memory : Answer
  lexer : LexerFault → Answer
  unexpected_token : Span → Answer
  unexpected_end : Span → Answer
  broken_rule : Fault → Answer

-- where the last token ends, or 0
abbrev pub end_of : List Lexeme → ℕ
end_of [] = 0
end_of (l ∷ []) = l.span.end
end_of (l ∷ m ∷ ls) = end_of (m ∷ ls)

-- a node that is among the items, is closed by what comes after it, and breaks a rule
pub record BrokenNode (types : DialectTypes) (items : Items) (fault : Fault) (rest : List Lexeme) : Type 0 where
  pub occurrence : Occurrence
  pub split : items.tokens ≡ occurrence.before ++ (occurrence.own ++ rest)
  pub stands : Stands occurrence
  pub closed : IsClosedBy occurrence.node rest items.ending
  pub breaks : Breaks types occurrence.node rest fault

-- no such node breaks any rule
abbrev pub KeepsRules : DialectTypes → Items → Type 0
KeepsRules types items = (fault : Fault) (rest : List Lexeme) → ¬ BrokenNode types items fault rest

-- the items are tokens followed by the end, and the tokens derive the module
pub record IsModule (items : Items) (d : Derivation Module) : Type 0 where
  pub at_end : items.ending ≡ at_end
  pub derives : Derives Module items.tokens [] d

-- the statement is the tree of the one derivation of the items
pub record IsModuleTree (types : DialectTypes) (items : Items) (s : Statement no_payload) : Type 0 where
  pub derivation : Derivation Module
  pub derived : IsModule items derivation
  pub tree_is : s ≡ module_tree derivation
  pub unique : (d : Derivation Module) → IsModule items d → d ≡ derivation
  pub keeps_rules : KeepsRules types items

-- the first token that cannot continue any program: the tokens before it begin one, and with it they do not
pub record IsUnexpected (types : DialectTypes) (items : Items) (span : Span) : Type 0 where
  pub before : List Lexeme
  pub named : Lexeme
  pub after : List Lexeme
  pub split : items.tokens ≡ before ++ named ∷ after
  pub at_span : span ≡ named.span
  pub begins : BeginsProgram before
  pub ends : ¬ BeginsProgram (before ++ named ∷ [])
  pub keeps_rules : KeepsRules types items

-- the end of an incomplete program; its span is empty, at the end of the last token, or at 0
pub record IsUnexpectedEnd (types : DialectTypes) (items : Items) (span : Span) : Type 0 where
  pub at_end : items.ending ≡ at_end
  pub at_span : span ≡ from_to (end_of items.tokens) (end_of items.tokens)
  pub begins : BeginsProgram items.tokens
  pub unfinished : ¬ IsProgram items.tokens
  pub keeps_rules : KeepsRules types items

-- the error that ends the items, after the start of a program
pub record IsLexerFault (types : DialectTypes) (items : Items) (fault : LexerFault) : Type 0 where
  pub ending : items.ending ≡ fails fault
  pub begins : BeginsProgram items.tokens
  pub keeps_rules : KeepsRules types items

-- A broken rule. No node that was closed earlier breaks a rule, and of those that are closed there and break one this node begins last.
pub record IsBroken (types : DialectTypes) (items : Items) (fault : Fault) : Type 0 where
  pub rest : List Lexeme
  pub broken_node : BrokenNode types items fault rest
  pub first : (other : Fault) (later : List Lexeme) → BrokenNode types items other later → length later ≤ length rest
  pub last : (other : Fault) (node : BrokenNode types items other rest) → length node.occurrence.before ≤ length broken_node.occurrence.before

-- An answer is correct. Out of memory determines nothing about the items.
abbrev pub IsRight : DialectTypes → Items → Answer → Type 0
IsRight types items (module_of s) = IsModuleTree types items s
IsRight types items memory = ⊤
IsRight types items (lexer fault) = IsLexerFault types items fault
IsRight types items (unexpected_token span) = IsUnexpected types items span
IsRight types items (unexpected_end span) = IsUnexpectedEnd types items span
IsRight types items (broken_rule fault) = IsBroken types items fault

-- The main definition: the tree exactly if the items derive a module and keep the rules, unless memory ran out, and otherwise the correct error.
pub record Answers (types : DialectTypes) (items : Items) (answer : Answer) : Type 0 where
  pub right : IsRight types items answer
  pub found : (d : Derivation Module) → IsModule items d → KeepsRules types items → (answer ≡ module_of (module_tree d)) ⊎ (answer ≡ memory)

-- a list of tokens has at most one derivation
abbrev pub HasOneDerivation : Type 0
HasOneDerivation = (tokens : List Lexeme) (d e : Derivation Module) → Derives Module tokens [] d → Derives Module tokens [] e → d ≡ e

-- there is a correct answer for each list of items, and it is out of memory only if the lexer ran out of memory
abbrev pub EachListIsAnswered : Type 0
EachListIsAnswered = (types : DialectTypes) (items : Items) → (answer : Answer) × Answers types items answer × (answer ≡ memory → items.ending ≡ out_of_memory)

-- items have one answer, apart from out of memory
abbrev pub HasOneAnswer : Type 0
HasOneAnswer = (types : DialectTypes) (items : Items) (a b : Answer) → Answers types items a → Answers types items b → ¬ (a ≡ memory) → ¬ (b ≡ memory) → a ≡ b
