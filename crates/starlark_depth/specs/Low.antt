-- What a limit on the depth of tokens says about trees.
use Rattle.std.specs.Prelude.{◌≡◌, ℕ, ◌+◌, List, Result}
use Rattle.starlark_lexer.specs.Tokens.{Lexeme, LexerFault}
use Rattle.starlark_spec.specs.Answers.{IsModule}
use Rattle.starlark_spec.specs.Grammar.{Derivation}
use Rattle.starlark_spec.specs.Grammar.Nonterminal.{Module}
use Rattle.starlark_spec.specs.Items.{items}
use Rattle.starlark_spec.specs.Trees.{module_tree}
use Rattle.starlark_depth.specs.Heights.{StatementWithin}
use Rattle.starlark_depth.specs.Limited.{limited}

-- the tree of a module whose tokens nest no deeper than n has at most the height n + 6
abbrev pub LimitedTreesAreLow : Type 0
LimitedTreesAreLow = (n : ℕ) (lexemes : List (Result Lexeme LexerFault)) (d : Derivation Module) → limited n lexemes ≡ lexemes → IsModule (items lexemes) d
    → StatementWithin (n + 6) (module_tree d)
