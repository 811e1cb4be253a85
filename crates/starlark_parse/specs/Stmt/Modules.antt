-- The contract for reading a module.
use Rattle.std.specs.Prelude.{◌≡◌, Option, Result, Ok, Err}
use Rattle.starlark_lexer.specs.Lexer.{CodeLexeme}
use Rattle.starlark_tree.specs.Ast.{Statement, no_payload}
use Rattle.starlark_parse_held.specs.declared.statement.HeldStmt.{HeldStmt}
use Rattle.starlark_parse_held.specs.Held.{statement_of}
use Rattle.starlark_spec.specs.Items.{at_end}
use Rattle.starlark_spec.specs.Answers.{Answer}
use Rattle.starlark_spec.specs.Answers.Answer.{module_of}
use Rattle.starlark_spec.specs.Grammar.{Derivation}
use Rattle.starlark_spec.specs.Grammar.Nonterminal.{Module}
use Rattle.starlark_spec.specs.Trees.{module_tree}
use Rattle.starlark_spec.specs.Machine.States.{Place}
use Rattle.starlark_spec.specs.Machine.States.State.{read}
use Rattle.starlark_spec.specs.Machine.Sight.{ending}
use Rattle.starlark_spec.specs.Machine.Steps.{start, module_done}
use Rattle.starlark_spec.specs.declared.refusal.Refusal.{Refusal}
use Rattle.starlark_spec.specs.Refusals.{refused}
use Rattle.starlark_parse_cursor.specs.Reading.{At}
use Rattle.starlark_parse_cursor.specs.Contract.{Goes, FailsFrom}

-- the answer of a module's outcome
abbrev pub answered : Result HeldStmt Refusal → Answer
answered (Ok s) = module_of (statement_of s)
answered (Err e) = refused e

module _ {S : Type 0} (steps : S → Option CodeLexeme → S → Type 0) where
  -- the machine reads the items up to the end as a module, of which the statement is the tree
  pub record FoundModule (a b : At S) (s : Statement no_payload) : Type 0 where
    pub derivation : Derivation Module
    pub tree_is : s ≡ module_tree derivation
    pub at_end : b.sight ≡ ending at_end
    pub goes : Goes steps start a (module_done derivation) b

  abbrev pub ParsesModule : At S → Result HeldStmt Refusal → At S → Type 0
  ParsesModule a (Ok s) b = FoundModule a b (statement_of s)
  ParsesModule a (Err e) b = FailsFrom steps (λ (p : Place Module Module). read Module p) a b (refused e)
