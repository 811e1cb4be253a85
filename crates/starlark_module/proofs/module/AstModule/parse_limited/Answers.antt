use Rattle.std.proofs.Common.{◌≡◌, ℕ, Result, map, string_bytes, ap, subst, sym, ◌∙◌}
use Rattle.std.specs.Prelude.{IfOk, IfErr}
use Rattle.std.proofs.lemmas.Result.{IfOk-weaker}
use Rattle.starlark_checks.specs.Refusals.{out_of_memory}
use Rattle.starlark_depth.specs.Counted.{state_of}
use Rattle.starlark_depth.specs.Given.{Begins}
use Rattle.starlark_depth.specs.Limited.{limited}
use Rattle.starlark_lexer.specs.Lexemes.{lexemes, start}
use Rattle.starlark_lexer.specs.Lexer as calls
use Rattle.starlark_lexer.specs.Places.{File}
use Rattle.starlark_module.specs.Modules.{IsRefused}
use Rattle.starlark_spec.specs.Items.{items}
use Rattle.starlark_spec.specs.Grammar.{Derivation}
use Rattle.starlark_spec.specs.Grammar.Nonterminal.{Module}
use Rattle.starlark_validate.specs.Answers.{KeepsEveryRule}
use Rattle.starlark_module.proofs.LexerOrder.{lexer_in_order}
use Rattle.starlark_module.proofs.LimitedItems.{limited_parsed, answers_limited}
use Rattle.starlark_module.proofs.FileAnswers.{refused, found}
use Rattle.starlark_module.proofs.module.AstModule.parse_limited.Goals as goal

pub from_guard-requires-clause-ordered : goal.from_guard-requires-clause-ordered
from_guard-requires-clause-ordered c = lexer_in_order _

pub returns-clause-within : goal.returns-clause-within
returns-clause-within c =
    let text = ap (λ (f : File). f.text) (c.in_ok-file.ensures ∙ c.in_ok-codemap.ensures) in
    let lexed = ap calls.state_of c.in_ok-guard.ensures.lexemes ∙ c.new-lexer.ensures.start ∙ ap start (c.source.ensures.text ∙ text) in
    let begins : Begins (string_bytes c.args.content) c.in_ok-guard.guard = record {
      lexer = lexed;
      counted = c.in_ok-guard.ensures.begins;
      running = c.in_ok-guard.ensures.fresh;
    } in
    let same_text = ap (λ (f : File). f.text) c.in_ok-codemap.ensures in
    let all = limited_parsed c.args.dialect.now _ _ c.in_ok-codemap.codemap (string_bytes c.args.content) same_text begins c.from_guard.result
    c.from_guard.ensures.answers in
    subst (λ (n : ℕ). IfOk c.from_guard.result (λ m. limited n (lexemes (string_bytes c.args.content)) ≡ lexemes (string_bytes c.args.content)))
    c.in_ok-guard.ensures.limit (IfOk-weaker c.from_guard.result _ _ (λ m h. h.within) all)

pub returns-clause-parsed : goal.returns-clause-parsed
returns-clause-parsed c =
    let text = ap (λ (f : File). f.text) (c.in_ok-file.ensures ∙ c.in_ok-codemap.ensures) in
    let lexed = ap calls.state_of c.in_ok-guard.ensures.lexemes ∙ c.new-lexer.ensures.start ∙ ap start (c.source.ensures.text ∙ text) in
    let begins : Begins (string_bytes c.args.content) c.in_ok-guard.guard = record {
      lexer = lexed;
      counted = c.in_ok-guard.ensures.begins;
      running = c.in_ok-guard.ensures.fresh;
    } in
    let same_text = ap (λ (f : File). f.text) c.in_ok-codemap.ensures in
    let all = limited_parsed c.args.dialect.now _ _ c.in_ok-codemap.codemap (string_bytes c.args.content) same_text begins c.from_guard.result
    c.from_guard.ensures.answers in
    IfOk-weaker c.from_guard.result _ _ (λ m h. h.valid) all

pub returns-clause-comments : goal.returns-clause-comments
returns-clause-comments c =
    let text = ap (λ (f : File). f.text) (c.in_ok-file.ensures ∙ c.in_ok-codemap.ensures) in
    let lexed = ap calls.state_of c.in_ok-guard.ensures.lexemes ∙ c.new-lexer.ensures.start ∙ ap start (c.source.ensures.text ∙ text) in
    let begins : Begins (string_bytes c.args.content) c.in_ok-guard.guard = record {
      lexer = lexed;
      counted = c.in_ok-guard.ensures.begins;
      running = c.in_ok-guard.ensures.fresh;
    } in
    let same_text = ap (λ (f : File). f.text) c.in_ok-codemap.ensures in
    let all = limited_parsed c.args.dialect.now _ _ c.in_ok-codemap.codemap (string_bytes c.args.content) same_text begins c.from_guard.result
    c.from_guard.ensures.answers in
    IfOk-weaker c.from_guard.result _ _ (λ m h. h.comments_are) all

pub returns-clause-suppressions : goal.returns-clause-suppressions
returns-clause-suppressions c =
    let text = ap (λ (f : File). f.text) (c.in_ok-file.ensures ∙ c.in_ok-codemap.ensures) in
    let lexed = ap calls.state_of c.in_ok-guard.ensures.lexemes ∙ c.new-lexer.ensures.start ∙ ap start (c.source.ensures.text ∙ text) in
    let begins : Begins (string_bytes c.args.content) c.in_ok-guard.guard = record {
      lexer = lexed;
      counted = c.in_ok-guard.ensures.begins;
      running = c.in_ok-guard.ensures.fresh;
    } in
    let same_text = ap (λ (f : File). f.text) c.in_ok-codemap.ensures in
    let all = limited_parsed c.args.dialect.now _ _ c.in_ok-codemap.codemap (string_bytes c.args.content) same_text begins c.from_guard.result
    c.from_guard.ensures.answers in
    IfOk-weaker c.from_guard.result _ _ (λ m h. h.suppressions_are) all

pub returns-clause-refused : goal.returns-clause-refused
returns-clause-refused c small =
    let text = ap (λ (f : File). f.text) (c.in_ok-file.ensures ∙ c.in_ok-codemap.ensures) in
    let lexed = ap calls.state_of c.in_ok-guard.ensures.lexemes ∙ c.new-lexer.ensures.start ∙ ap start (c.source.ensures.text ∙ text) in
    let begins : Begins (string_bytes c.args.content) c.in_ok-guard.guard = record {
      lexer = lexed;
      counted = c.in_ok-guard.ensures.begins;
      running = c.in_ok-guard.ensures.fresh;
    } in
    let a = c.from_guard.ensures.answers in
    let right = answers_limited c.args.dialect.now _ _ (string_bytes c.args.content) begins a.answer a.from in
    let here = refused _ _ _ _ _ _ a.says right in
    let at_limit = subst (λ (n : ℕ). IfErr c.from_guard.result (IsRefused c.args.dialect.now (items (limited n (lexemes (string_bytes c.args.content))))
    c.in_ok-codemap.codemap))
    c.in_ok-guard.ensures.limit here in
    subst (λ (f : File). IfErr c.from_guard.result (IsRefused c.args.dialect.now (items (limited c.args.depth (lexemes (string_bytes c.args.content)))) f))
    c.in_ok-codemap.ensures at_limit

pub returns-clause-found : goal.returns-clause-found
returns-clause-found c small =
    let text = ap (λ (f : File). f.text) (c.in_ok-file.ensures ∙ c.in_ok-codemap.ensures) in
    let lexed = ap calls.state_of c.in_ok-guard.ensures.lexemes ∙ c.new-lexer.ensures.start ∙ ap start (c.source.ensures.text ∙ text) in
    let begins : Begins (string_bytes c.args.content) c.in_ok-guard.guard = record {
      lexer = lexed;
      counted = c.in_ok-guard.ensures.begins;
      running = c.in_ok-guard.ensures.fresh;
    } in
    let a = c.from_guard.ensures.answers in
    let right = answers_limited c.args.dialect.now _ _ (string_bytes c.args.content) begins a.answer a.from in
    subst (λ (n : ℕ). (d : Derivation Module) → KeepsEveryRule c.args.dialect.now (items (limited n (lexemes (string_bytes c.args.content)))) d
    → IfErr c.from_guard.result (λ e. e ≡ out_of_memory)) c.in_ok-guard.ensures.limit (found _ _ _ _ _ _ a.says right)
