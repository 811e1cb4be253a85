-- What a correct answer says about a file.
use Rattle.std.proofs.Common.{◌≡◌, List, Result, Ok, Err, IfOk, IfErr, subst, sym, inl, inr}
use Rattle.std.specs.Bool.{⊤}
use Rattle.starlark_checks.specs.Refusals.{Refusal, out_of_memory}
use Rattle.starlark_spec.specs.Answers.{IsLexerFault}
use Rattle.starlark_spec.specs.Grammar.{Derivation}
use Rattle.starlark_spec.specs.Grammar.Nonterminal.{Module}
use Rattle.starlark_spec.specs.Items.{Items}
use Rattle.starlark_lexer.specs.Places.{File}
use Rattle.starlark_lexer.specs.Tokens.{Lexeme, LexerFault}
use Rattle.starlark_lexer.specs.declared.dialect.Dialect.{Dialect}
use Rattle.starlark_checks.specs.Faults.{Names}
use Rattle.starlark_module.specs.Modules.{Says, IsRefused, for_memory, by_lexer, at_token, at_end, by_rule}
use Rattle.starlark_module.specs.declared.module.AstModule.{AstModule}
use Rattle.starlark_tree.specs.Views.{statement_of}
use Rattle.starlark_spec.specs.Answers.{Answer}
use Rattle.starlark_validate.specs.Answers.{AnswersUnder, IsValidModule, KeepsEveryRule}
use Rattle.starlark_spec.specs.Answers.Answer.{module_of, memory, lexer, unexpected_token, unexpected_end, broken_rule}

abbrev Module_or_memory : Answer → Type 0
Module_or_memory (module_of s) = ⊤
Module_or_memory memory = ⊤
Module_or_memory _ = ⊥

module _ (dialect : Dialect) (x : Items) (file : File) (lexemes : List (Result Lexeme LexerFault)) where
  found_is : (d : Derivation Module) (answer : Answer) → AnswersUnder dialect x answer → KeepsEveryRule dialect x d → Module_or_memory answer
  found_is d answer h keeps = elim (h.found d keeps) [
    | inl tree ↦ subst Module_or_memory (sym tree) tt
    | inr none ↦ subst Module_or_memory (sym none) tt
  ]

  pub parsed : (answer : Answer) (r : Result AstModule Refusal) → Says file lexemes answer r → AnswersUnder dialect x answer
      → IfOk r (λ m. IsValidModule dialect x (statement_of m.statement))
  parsed (module_of s) (Ok m) says h = subst (IsValidModule dialect x) (sym says.statement) h.right
  parsed memory (Ok m) says h = absurd says
  parsed (lexer fault) (Ok m) says h = absurd says
  parsed (unexpected_token span) (Ok m) says h = absurd says
  parsed (unexpected_end span) (Ok m) says h = absurd says
  parsed (broken_rule fault) (Ok m) says h = absurd says
  parsed answer (Err e) says h = tt

  refused_so : (answer : Answer) (e : Refusal) → Names file answer e → AnswersUnder dialect x answer → IsRefused dialect x file e
  refused_so (module_of s) e says h = absurd says
  refused_so memory e says h = for_memory says
  refused_so (lexer fault) e (error, same, is) h = by_lexer error is (subst (IsLexerFault dialect.enable_types x) (sym same) h.right)
  refused_so (unexpected_token span) e says h = at_token span says h.right
  refused_so (unexpected_end span) e says h = at_end span says h.right
  refused_so (broken_rule fault) e says h = by_rule fault says h.right

  pub refused : (answer : Answer) (r : Result AstModule Refusal) → Says file lexemes answer r → AnswersUnder dialect x answer
      → IfErr r (IsRefused dialect x file)
  refused answer (Ok m) says h = tt
  refused answer (Err e) says h = refused_so answer e says h

  found_so : (answer : Answer) (e : Refusal) → Names file answer e → AnswersUnder dialect x answer → (d : Derivation Module) → KeepsEveryRule dialect x d
      → e ≡ out_of_memory
  found_so (module_of s) e says h d keeps = absurd says
  found_so memory e says h d keeps = says
  found_so (lexer fault) e says h d keeps = absurd (found_is d (lexer fault) h keeps)
  found_so (unexpected_token span) e says h d keeps = absurd (found_is d (unexpected_token span) h keeps)
  found_so (unexpected_end span) e says h d keeps = absurd (found_is d (unexpected_end span) h keeps)
  found_so (broken_rule fault) e says h d keeps = absurd (found_is d (broken_rule fault) h keeps)

  pub found : (answer : Answer) (r : Result AstModule Refusal) → Says file lexemes answer r → AnswersUnder dialect x answer → (d : Derivation Module)
      → KeepsEveryRule dialect x d → IfErr r (λ e. e ≡ out_of_memory)
  found answer (Ok m) says h d keeps = tt
  found answer (Err e) says h d keeps = found_so answer e says h d keeps
