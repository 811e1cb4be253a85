-- What is written in one of the two formats.
use Rattle.std.proofs.Common.{◌≡◌, List, arith}
use Rattle.std.specs.Prelude.{ℕ}
use Rattle.starlark_c.specs.Formats.{IsModuleIn, IsRefusalIn}
use Rattle.starlark_checks.specs.Refusals.{Refusal}
use Rattle.starlark_compact.specs.Answers.{error_bytes, module_bytes}
use Rattle.starlark_json.specs.Texts.{IsErrorText, module_text}
use Rattle.starlark_lexer.specs.Tokens.{Span, Text}
use Rattle.starlark_tree.specs.Ast.{Statement, no_payload}

pub compact_module : (format : ℕ) (name : Text) (comments : List Span) (s : Statement no_payload) (bytes : Text) → format ≡ 2
    → bytes ≡ module_bytes comments s → IsModuleIn format name comments s bytes
compact_module format name comments s bytes two is = record { json = λ one. absurd (omega arith); compact = λ same. is }

pub json_module : (format : ℕ) (name : Text) (comments : List Span) (s : Statement no_payload) (bytes : Text) → (format ≡ 2 → ⊥)
    → bytes ≡ module_text name comments s → IsModuleIn format name comments s bytes
json_module format name comments s bytes other is = record { json = λ one. is; compact = λ two. absurd (other two) }

pub compact_refusal : (format : ℕ) (e : Refusal) (bytes : Text) → format ≡ 2 → bytes ≡ error_bytes e → IsRefusalIn format e bytes
compact_refusal format e bytes two is = record { json = λ one. absurd (omega arith); compact = λ same. is }

pub json_refusal : (format : ℕ) (e : Refusal) (bytes : Text) → (format ≡ 2 → ⊥) → IsErrorText e bytes → IsRefusalIn format e bytes
json_refusal format e bytes other is = record { json = λ one. is; compact = λ two. absurd (other two) }
