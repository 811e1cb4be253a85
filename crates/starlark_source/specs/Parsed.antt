-- When a module is that of a text, and when its source is read as that module.
use Rattle.std.specs.Prelude.{◌≡◌, ◌<◌, ◌^◌, length, Ok}
use Rattle.std.specs.Str.{IsUtf8}
use Rattle.starlark_lexer.specs.Tokens.{Text}
use Rattle.starlark_lexer.specs.Lexemes.{lexemes}
use Rattle.starlark_lexer.specs.declared.dialect.Dialect.{Dialect}
use Rattle.starlark_tree.specs.Ast.{no_payload, Statement}
use Rattle.starlark_spec.specs.Grammar.{Derivation}
use Rattle.starlark_spec.specs.Grammar.Nonterminal.{Module}
use Rattle.starlark_spec.specs.Items.{Items, items}
use Rattle.starlark_validate.specs.Answers.{KeepsEveryRule, IsValidModule}
use Rattle.starlark_source.specs.Lines.{source_of}
use Rattle.starlark_source.specs.Unspanned.{unspanned_statement}

-- The text is a module of the dialect, the tree of that module is this one apart from spans, and its source is the text again. So parsing
-- the text returns such a tree, unless memory runs out.
pub record ParsesAs (dialect : Dialect) (text : Text) (m : Statement no_payload) : Type 0 where
  pub derivation : Derivation Module
  pub keeps : KeepsEveryRule dialect (items (lexemes text)) derivation
  pub same : (s : Statement no_payload) → IsValidModule dialect (items (lexemes text)) s → unspanned_statement s ≡ unspanned_statement m
  pub again : (s : Statement no_payload) → IsValidModule dialect (items (lexemes text)) s → source_of s ≡ Ok text

-- the text parses as this module, under each dialect under which the module is valid
abbrev pub ParsesBack : Text → Statement no_payload → Type 0
ParsesBack text m = (dialect : Dialect) (its : Items) → IsValidModule dialect its m → ParsesAs dialect text m

-- a parse of a text of fewer than 2^32 bytes
pub record IsParsed (m : Statement no_payload) : Type 0 where
  pub dialect : Dialect
  pub text : Text
  pub utf8 : IsUtf8 text
  pub short : length text < 2 ^ 32
  pub valid : IsValidModule dialect (items (lexemes text)) m
