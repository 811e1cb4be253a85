-- When a statement's source is read back as that statement.
use Rattle.std.specs.Prelude.{List as Seq, [], ⊤, ◌≡◌}
use Rattle.starlark_lexer.specs.Tokens.{Lexeme}
use Rattle.starlark_tree.specs.Ast as t
use Rattle.starlark_tree.specs.Ast.{Payloads, no_payload}
use Rattle.starlark_spec.specs.Grammar.{Derivation, Derives}
use Rattle.starlark_spec.specs.Grammar.Nonterminal.{Module}
use Rattle.starlark_spec.specs.Trees.{module_tree}
use Rattle.starlark_source.specs.SourceTokens.{source_tokens, terminals}
use Rattle.starlark_source.specs.Unspanned.{unspanned_statement}

-- no block in a statement is empty: as the body of another statement an empty block is written `pass`
abbrev mutual
  pub HasNoEmptyBlock : {P : Payloads} → t.Statement P → Type 0
  HasNoEmptyBlock (t.statement s form) = FormHasNoEmptyBlock form

  pub FormHasNoEmptyBlock : {P : Payloads} → t.Form P → Type 0
  FormHasNoEmptyBlock (t.Block t.no_statements) = ⊥
  FormHasNoEmptyBlock (t.Block (t.statements s ss)) = HasNoEmptyBlock s × HaveNoEmptyBlock ss
  FormHasNoEmptyBlock (t.IfThen e body) = HasNoEmptyBlock body
  FormHasNoEmptyBlock (t.IfElse e body other) = HasNoEmptyBlock body × HasNoEmptyBlock other
  FormHasNoEmptyBlock (t.For x e body) = HasNoEmptyBlock body
  FormHasNoEmptyBlock (t.Def w p ps ty body q) = HasNoEmptyBlock body
  FormHasNoEmptyBlock _ = ⊤

  pub HaveNoEmptyBlock : {P : Payloads} → t.Statements P → Type 0
  HaveNoEmptyBlock t.no_statements = ⊤
  HaveNoEmptyBlock (t.statements s ss) = HasNoEmptyBlock s × HaveNoEmptyBlock ss

-- no block inside a module is empty; the module may be
abbrev pub IsOrderly : {P : Payloads} → t.Statement P → Type 0
IsOrderly (t.statement s (t.Block t.no_statements)) = ⊤
IsOrderly m = HasNoEmptyBlock m

-- The tokens of the module's source, whatever their spans, derive a module whose tree is this one apart from spans.
abbrev pub ReadsBack : t.Statement no_payload → Type 0
ReadsBack m =
    (ls : Seq Lexeme) → terminals ls ≡ source_tokens m → (d : Derivation Module) × Derives Module ls [] d
    × (unspanned_statement (module_tree d) ≡ unspanned_statement m)
