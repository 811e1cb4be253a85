-- The comments of a module that was parsed.
use Rattle.std.proofs.Common.{◌≡◌, map, Result, Ok, Err, IfOk, ap, ap₂, ◌∙◌}
use Rattle.starlark_checks.specs.Refusals.{Refusal}
use Rattle.starlark_module.specs.Comments.Keeping.{comment_spans}
use Rattle.starlark_lexer.specs.Lexemes.{lexemes, start}
use Rattle.starlark_lexer.specs.Lexer.{gives, lexeme_of, state_of}
use Rattle.starlark_lexer.specs.Places.{File}
use Rattle.starlark_lexer.specs.Tokens.{Text, span_of}
use Rattle.starlark_lexer.specs.declared.dialect.Dialect.{Dialect}
use Rattle.starlark_lexer.specs.declared.lexer.Lexer.{Lexer}
use Rattle.starlark_module.specs.Comments.Building.{suppressions_in}
use Rattle.starlark_module.specs.Comments.Suppressions.{suppressions}
use Rattle.starlark_module.proofs.LexerItems.{all_came}
use Rattle.starlark_module.specs.Modules.{AnswersCall, Says}
use Rattle.starlark_module.specs.ConsumedLexemes.{AnswersCallsUnder}
use Rattle.starlark_module.specs.declared.module.AstModule.{AstModule}
use Rattle.starlark_spec.specs.Answers.{Answer}
use Rattle.starlark_spec.specs.Answers.Answer.{module_of, memory, lexer, unexpected_token, unexpected_end, broken_rule}

module _ (dialect : Dialect) (s t : Lexer) (file : File) (text : Text) (text_is : file.text ≡ text) (begun : state_of s ≡ start text) where
  record HasComments (m : AstModule) : Type 0 where
    pub comments_are : map span_of m.comments.items ≡ comment_spans (lexemes text)
    pub suppressions_are : suppressions_in m.suppressions ≡ suppressions text (lexemes text)

  said : (answer : Answer) (m : AstModule) (from : AnswersCallsUnder gives dialect s answer t) → Says file (map lexeme_of from.calls) answer (Ok m)
      → HasComments m
  said (module_of x) m from says =
      let all = all_came dialect s t text x from begun in
      record { comments_are = says.comments ∙ ap comment_spans all; suppressions_are = says.suppressions_are ∙ ap₂ suppressions text_is all }
  said memory m from says = absurd says
  said (lexer fault) m from says = absurd says
  said (unexpected_token span) m from says = absurd says
  said (unexpected_end span) m from says = absurd says
  said (broken_rule fault) m from says = absurd says

  pub comments_parsed : (r : Result AstModule Refusal) → AnswersCall gives dialect s file r t
      → IfOk r (λ m. map span_of m.comments.items ≡ comment_spans (lexemes text))
  comments_parsed (Ok m) a = (said a.answer m a.from a.says).comments_are
  comments_parsed (Err e) a = tt

  pub suppressions_parsed : (r : Result AstModule Refusal) → AnswersCall gives dialect s file r t
      → IfOk r (λ m. suppressions_in m.suppressions ≡ suppressions text (lexemes text))
  suppressions_parsed (Ok m) a = (said a.answer m a.from a.says).suppressions_are
  suppressions_parsed (Err e) a = tt
