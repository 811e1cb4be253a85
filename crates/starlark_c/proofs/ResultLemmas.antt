-- The result for a text, from the bytes of its module or of what refuses it.
use Rattle.std.proofs.Common.{◌≡◌, List, Result, Ok, Err, IfOk, inl, inr, subst}
use Rattle.std.specs.Prelude.{◌≢◌, ℕ, ◌≤◌, ◌<◌, ◌^◌, length}
use Rattle.starlark_checks.specs.Kinds.{TextTooLong}
use Rattle.starlark_checks.specs.Refusals.{Refusal, without_place, out_of_memory}
use Rattle.starlark_module.specs.Comments.Keeping.{comment_spans}
use Rattle.starlark_depth.specs.Limited.{limited}
use Rattle.starlark_c.specs.Formats.{AnswersInFormat, IsModuleIn, IsRefusalIn}
use Rattle.starlark_lexer.specs.Lexemes.{lexemes}
use Rattle.starlark_lexer.specs.Places.{File}
use Rattle.starlark_lexer.specs.Tokens.{Span, Text}
use Rattle.starlark_lexer.specs.declared.dialect.Dialect.{Dialect}
use Rattle.starlark_module.specs.Modules.{IsRefused}
use Rattle.starlark_spec.specs.Items.{items}
use Rattle.starlark_tree.specs.Ast.{Statement, no_payload}
use Rattle.starlark_validate.specs.Answers.{IsValidModule}

abbrev file : Text → Text → File
file name text = record { name = name; text = text }

pub of_module : (format n : ℕ) (d : Dialect) (name text content : Text) (own : File) (comments : List Span) (s : Statement no_payload) (bytes : Text)
    → content ≡ text → own ≡ file name content → comments ≡ comment_spans (lexemes content) → limited n (lexemes content) ≡ lexemes content
    → IsValidModule d (items (lexemes content)) s → IsModuleIn format own.name comments s bytes → AnswersInFormat format n d (file name text) bytes
of_module format n d name text content own comments s bytes same is_file is_comments within tree is_written =
    subst (λ (t : Text). AnswersInFormat format n d (file name t) bytes) same (inl (record {
      within = within;
      statement = s;
      is_tree = tree;
      bytes_are = subst (λ (l : List Span). IsModuleIn format name l s bytes) is_comments
          (subst (λ (f : File). IsModuleIn format f.name comments s bytes) is_file is_written);
    }))

pub of_refusal : (format n : ℕ) (d : Dialect) (name text content : Text) (e : Refusal) (bytes : Text) → content ≡ text
    → (2 ^ 32 ≤ length content → e ≡ without_place TextTooLong)
    → (length content < 2 ^ 32 → IsRefused d (items (limited n (lexemes content))) (file name content) e) → e ≢ out_of_memory
    → IsRefusalIn format e bytes → AnswersInFormat format n d (file name text) bytes
of_refusal format n d name text content e bytes same long right memory is_written =
    subst (λ (t : Text). AnswersInFormat format n d (file name t) bytes) same (inr (record {
      refusal = e;
      refuses = record { too_long = long; rightly = right; has_memory = memory };
      bytes_are = is_written;
    }))

pub err_same : {X E : Type 0} (a b : E) → ◌≡◌ {A = Result X E} (Err a) (Err b) → a ≡ b
err_same a b same = cc

-- two facts on what a call gives
pub both_ok : {X E : Type 0} (r : Result X E) (P Q : X → Type 0) → IfOk r P → IfOk r Q → IfOk r (λ x. P x × Q x)
both_ok (Ok x) P Q p q = (p, q)
both_ok (Err e) P Q p q = tt
