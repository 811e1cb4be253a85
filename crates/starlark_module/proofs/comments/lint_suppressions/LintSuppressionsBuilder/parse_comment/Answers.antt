use Rattle.std.proofs.Common.{◌≡◌, ◌==◌, ◌++◌, ◌∷◌, [], Bool, ℕ, List, map, length, string_bytes, String, Ok, option_map, sym, ap, subst, ◌∙◌}
use Rattle.std.proofs.lemmas.List.{length-map}
use Rattle.starlark_lexer.specs.Tokens as tokens
use Rattle.starlark_lexer.specs.Tokens.{Text, span_of, lexeme}
use Rattle.starlark_module.specs.Comments.Building.{IsRead, suppression}
use Rattle.starlark_module.specs.Comments.Suppressions.{is_empty}
use Rattle.starlark_module.proofs.CommentsLemmas.Reading.{names_nothing, first_ok, more_ok}
use Rattle.starlark_module.proofs.comments.lint_suppressions.LintSuppressionsBuilder.parse_comment.Goals as goal

-- a list of names is empty if its length is 0
emptiness : {Z : Type 0} (names : List (String Z)) (n : ℕ) (r : Bool) (all : List Text) → n ≡ length names → map string_bytes names ≡ all → r ≡ (n == 0)
    → is_empty all ≡ r
emptiness names n r all n_is are e = ap is_empty (sym are) ∙ ap (λ k. k == 0) (length-map names string_bytes ∙ sym n_is) ∙ sym e

pub returns-then-is_empty-clause-ok : goal.returns-then-is_empty-clause-ok
returns-then-is_empty-clause-ok c lexemes r =
    let names = c.in_ok-short_names.short_names in
    let nothing = ap (option_map span_of) c.in-None.is in
    let unnamed = emptiness names.items names.len c.is_empty.result _ names.ok.0 c.in_ok-short_names.ensures c.is_empty.ensures ∙ c.if-is_empty.true in
    subst (λ l. IsRead c.args.codemap.now.text (lexemes ++ Ok (lexeme (tokens.Comment c.args.comment.now) (span_of c.args.span)) ∷ [])
    (map suppression c.args.self.now.suppressions.items) l) (sym nothing)
    (names_nothing r c.args.comment.now (span_of c.args.span) nothing unnamed)

pub returns-in-Some-clause-ok : goal.returns-in-Some-clause-ok
returns-in-Some-clause-ok c lexemes r =
    more_ok r c.args.comment.now (span_of c.args.span) c.join.result _ c.in_ok-short_names.ensures (span_of c.in-Some.lines)
    (ap (option_map span_of) c.in-Some.is) _ _ c.join.ensures.ok c.join.ensures.lines

pub returns-else-is_empty-clause-ok : goal.returns-else-is_empty-clause-ok
returns-else-is_empty-clause-ok c lexemes r =
    let names = c.in_ok-short_names.short_names in
    let named = emptiness names.items names.len c.is_empty.result _ names.ok.0 c.in_ok-short_names.ensures c.is_empty.ensures ∙ c.if-is_empty.false in
    first_ok r c.args.comment.now (span_of c.args.span) c.begin.result _ c.in_ok-short_names.ensures (ap (option_map span_of) c.in-None.is) named _ _
    c.begin.ensures.ok c.begin.ensures.lines
