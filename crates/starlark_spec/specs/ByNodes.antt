-- The rules of a module by the nodes of its derivation.
use Rattle.std.specs.Prelude.{◌≡◌, List, ◌++◌}
use Rattle.starlark_lexer.specs.Tokens.{Lexeme}
use Rattle.starlark_lexer.specs.declared.dialect.DialectTypes.{DialectTypes}
use Rattle.starlark_spec.specs.Faults.{Fault}
use Rattle.starlark_spec.specs.Items.{Items}
use Rattle.starlark_spec.specs.Grammar.{Derivation, right_side}
use Rattle.starlark_spec.specs.Grammar.Nonterminal.{Module}
use Rattle.starlark_spec.specs.Nodes.{Occurrence, occurrences, IsMember}
use Rattle.starlark_spec.specs.Rules.{Breaks}
use Rattle.starlark_spec.specs.Answers.{IsModule, KeepsRules}

-- no node of a derivation of the tokens breaks a rule
abbrev pub NoneBreaks : DialectTypes → List Lexeme → Derivation Module → Type 0
NoneBreaks types tokens d =
    (occurrence : Occurrence) (rest : List Lexeme) (fault : Fault) → IsMember occurrence (occurrences (right_side d)) → tokens ≡ occurrence.before
    ++ (occurrence.own ++ rest) → ¬ Breaks types occurrence.node rest fault

-- if the tokens derive a module, the rules are kept exactly if no node breaks one
abbrev pub RulesAreKeptByNodes : Type 0
RulesAreKeptByNodes =
    (types : DialectTypes) (items : Items) (d : Derivation Module) → IsModule items d
    → (KeepsRules types items → NoneBreaks types items.tokens d) × (NoneBreaks types items.tokens d → KeepsRules types items)
