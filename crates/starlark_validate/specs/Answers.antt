-- The answers for a list of items under a dialect.
use Rattle.std.specs.Prelude.{◌≡◌, [], ◌⊎◌, ⊤, Option, Some, None}
use Rattle.starlark_lexer.specs.declared.dialect.Dialect.{Dialect}
use Rattle.starlark_tree.specs.Ast.{Statement, no_payload}
use Rattle.starlark_spec.specs.Faults.{Fault}
use Rattle.starlark_spec.specs.Items.{Items, out_of_memory}
use Rattle.starlark_spec.specs.Grammar.{Derivation}
use Rattle.starlark_spec.specs.Grammar.Nonterminal.{Module}
use Rattle.starlark_spec.specs.Trees.{module_tree}
use Rattle.starlark_spec.specs.Answers as parser
use Rattle.starlark_spec.specs.Answers.Answer.{module_of, memory, lexer, unexpected_token, unexpected_end, broken_rule}
use Rattle.starlark_spec.specs.Answers.{Answer, IsModule, IsModuleTree, KeepsRules, IsLexerFault, IsUnexpected, IsUnexpectedEnd, IsBroken}
use Rattle.starlark_validate.specs.Faults.{faults, faults_in, first}

-- the items derive the module, and it keeps every rule
pub record KeepsEveryRule (dialect : Dialect) (items : Items) (d : Derivation Module) : Type 0 where
  pub derived : IsModule items d
  pub while_read : KeepsRules dialect.enable_types items
  pub faultless : faults dialect d ≡ []

-- The statement is the tree of the one derivation of the items, and that keeps every rule.
pub record IsValidModule (dialect : Dialect) (items : Items) (s : Statement no_payload) : Type 0 where
  pub derivation : Derivation Module
  pub keeps : KeepsEveryRule dialect items derivation
  pub tree_is : s ≡ module_tree derivation
  pub unique : (d : Derivation Module) → IsModule items d → d ≡ derivation

-- The items derive a module that keeps the rules that are tested while tokens are read, and this is its first fault.
pub record IsFirstFault (dialect : Dialect) (items : Items) (fault : Fault) : Type 0 where
  pub derivation : Derivation Module
  pub derived : IsModule items derivation
  pub while_read : KeepsRules dialect.enable_types items
  pub is_first : first (faults dialect derivation) ≡ Some fault

-- A rule is broken: one that is tested while tokens are read, or one that is tested on the whole tree.
pub data IsFault (dialect : Dialect) (items : Items) (fault : Fault) : Type 0 where
  while_read : IsBroken dialect.enable_types items fault → IsFault dialect items fault
  in_tree : IsFirstFault dialect items fault → IsFault dialect items fault

-- An answer is correct. Out of memory says nothing about the items.
abbrev pub IsRight : Dialect → Items → Answer → Type 0
IsRight dialect items (module_of s) = IsValidModule dialect items s
IsRight dialect items memory = ⊤
IsRight dialect items (lexer fault) = IsLexerFault dialect.enable_types items fault
IsRight dialect items (unexpected_token span) = IsUnexpected dialect.enable_types items span
IsRight dialect items (unexpected_end span) = IsUnexpectedEnd dialect.enable_types items span
IsRight dialect items (broken_rule fault) = IsFault dialect items fault

-- The headline: the tree exactly if the items derive a module that keeps every rule, unless memory ran out, and otherwise the correct refusal.
pub record AnswersUnder (dialect : Dialect) (items : Items) (answer : Answer) : Type 0 where
  pub right : IsRight dialect items answer
  pub found : (d : Derivation Module) → KeepsEveryRule dialect items d → (answer ≡ module_of (module_tree d)) ⊎ (answer ≡ memory)

-- a module's statement, unless it has a fault
abbrev pub unless : Option Fault → Statement no_payload → Answer
unless None s = module_of s
unless (Some f) s = broken_rule f

-- the answer if the parser's answer is this one, and the tree is then tested
abbrev pub tested : Dialect → Answer → Answer
tested dialect (module_of s) = unless (first (faults_in dialect s)) s
tested dialect answer = answer

-- a correct answer of the parser gives a correct answer
abbrev pub EachTestedAnswerIsRight : Type 0
EachTestedAnswerIsRight = (dialect : Dialect) (items : Items) (answer : Answer) → parser.Answers dialect.enable_types items answer
    → AnswersUnder dialect items (tested dialect answer)

-- there is a correct answer for each list of items, and it is out of memory only if the lexer ran out of memory
abbrev pub EachListIsAnswered : Type 0
EachListIsAnswered = (dialect : Dialect) (items : Items) → (answer : Answer) × AnswersUnder dialect items answer
    × (answer ≡ memory → items.ending ≡ out_of_memory)

-- items have one answer, apart from out of memory
abbrev pub HasOneAnswer : Type 0
HasOneAnswer = (dialect : Dialect) (items : Items) (a b : Answer) → AnswersUnder dialect items a → AnswersUnder dialect items b → ¬ (a ≡ memory)
    → ¬ (b ≡ memory) → a ≡ b
