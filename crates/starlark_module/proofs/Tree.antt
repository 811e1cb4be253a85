-- What the parser's answer says under a dialect, once its tree is tested.
use Rattle.std.proofs.Common.{◌≡◌, List, [], Option, Some, sym, subst}
use Rattle.std.specs.Prelude.{⊤}
use Rattle.starlark_spec.specs.Faults.{Fault}
use Rattle.starlark_parse_cursor.specs.Runs.{lexemes_with}
use Rattle.starlark_parse.specs.Stmt.Runs.{AnswersFrom, tokens_of}
use Rattle.starlark_parse.specs.Stmt.Runs as parser_runs
use Rattle.starlark_spec.specs.Items.{Items, items}
use Rattle.starlark_lexer.specs.Lexer.{CodeLexeme}
use Rattle.starlark_lexer.specs.Tokens.{Lexeme}
use Rattle.starlark_lexer.specs.declared.dialect.Dialect.{Dialect}
use Rattle.starlark_parse.specs.Stmt.Runs.{IsLastItem}
use Rattle.starlark_module.specs.ConsumedLexemes.{AnswersAfter, AnswersCallsUnder}
use Rattle.starlark_tree.specs.Ast.{Statement, no_payload}
use Rattle.starlark_validate.proofs.AnswerCorrectness.{each_tested_is_right, faulty_so, is_first_fault, valid_so, out_of_memory_so}
use Rattle.starlark_validate.specs.Answers.{while_read, in_tree}
use Rattle.starlark_spec.specs.Answers.{Answer}
use Rattle.starlark_spec.specs.Answers.Answer.{module_of, memory, lexer, unexpected_token, unexpected_end, broken_rule}
use Rattle.starlark_validate.specs.Faults.{faults_in, first}

-- an answer of the parser that is not a module
abbrev pub IsRefusal : Answer → Type 0
IsRefusal (module_of s) = ⊥
IsRefusal answer = ⊤

module _ (dialect : Dialect) where
  -- a refusal of the parser is correct under the dialect, and comes after the same tokens
  same_place : (before : List Lexeme) (last : Option CodeLexeme) (x : Items) (answer : Answer) → IsRefusal answer
      → parser_runs.AnswersAfter before dialect.enable_types x answer → AnswersAfter before last dialect x answer
  same_place before last x (module_of s) refuses a = absurd refuses
  same_place before last x memory refuses a = record { answers = out_of_memory_so dialect x; stands = tt }
  same_place before last x (lexer fault) refuses a = record { answers = each_tested_is_right dialect x (lexer fault) a.answers; stands = tt }
  same_place before last x (unexpected_token span) refuses a = record {
    answers = record { right = a.answers.right; found = (each_tested_is_right dialect x (unexpected_token span) a.answers).found };
    stands = a.stands;
  }
  same_place before last x (unexpected_end span) refuses a =
      record { answers = each_tested_is_right dialect x (unexpected_end span) a.answers; stands = tt }
  same_place before last x (broken_rule fault) refuses a = record {
    answers = record { right = while_read a.answers.right; found = (each_tested_is_right dialect x (broken_rule fault) a.answers).found };
    stands = a.stands;
  }

module _ {S : Type 0} (steps : S → Option CodeLexeme → S → Type 0) (dialect : Dialect) (s t : S) where
  -- whatever the parser's answer is, memory may run out
  pub runs_out : (x : Answer) → AnswersFrom steps dialect.enable_types s x t → AnswersCallsUnder steps dialect s memory t
  runs_out x a = record {
    calls = a.calls;
    last = a.last;
    run = a.run;
    no_error = a.no_error;
    last_is = tt;
    answers = λ more. record { answers = out_of_memory_so dialect (items (lexemes_with a.calls a.last more)); stands = tt };
  }

  -- a tree without faults is that of a valid module
  unfoldable pub valid : (m : Statement no_payload) → AnswersFrom steps dialect.enable_types s (module_of m) t → faults_in dialect m ≡ []
      → AnswersCallsUnder steps dialect s (module_of m) t
  valid m a none = record {
    calls = a.calls;
    last = a.last;
    run = a.run;
    no_error = a.no_error;
    last_is = a.last_is;
    answers = λ more. record { answers = valid_so dialect (items (lexemes_with a.calls a.last more)) m (a.answers more).answers none; stands = tt };
  }

  -- for a tree with faults the answer is the first
  pub faulty : (m : Statement no_payload) → AnswersFrom steps dialect.enable_types s (module_of m) t → (f : Fault) → first (faults_in dialect m)
      ≡ Some f → AnswersCallsUnder steps dialect s (broken_rule f) t
  faulty m a f is = record {
    calls = a.calls;
    last = a.last;
    run = a.run;
    no_error = a.no_error;
    last_is = subst (λ l. IsLastItem l (broken_rule f)) (sym a.last_is) tt;
    answers = λ more.
        let x = items (lexemes_with a.calls a.last more) in
        let right = (a.answers more).answers in
        record {
          answers = record { right = in_tree (is_first_fault dialect x m right.right f is); found = (faulty_so dialect x m right f is).found };
          stands = a.last_is;
        };
  }

  -- a refusal of the parser is unchanged
  pub stays : (answer : Answer) → IsRefusal answer → AnswersFrom steps dialect.enable_types s answer t → AnswersCallsUnder steps dialect s answer t
  stays answer refuses a = record {
    calls = a.calls;
    last = a.last;
    run = a.run;
    no_error = a.no_error;
    last_is = a.last_is;
    answers = λ more. same_place dialect (tokens_of a.calls) a.last (items (lexemes_with a.calls a.last more)) answer refuses (a.answers more);
  }
