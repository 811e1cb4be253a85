use Rattle.std.proofs.Common.{List, Vec, String, Global, map, string_bytes, ap, ◌∙◌}
use Rattle.starlark_lexer.specs.Tokens.{Text}
use Rattle.starlark_module.specs.Comments.Suppressions.{names_listed, names_in}
use Rattle.starlark_module.proofs.CommentsLemmas.Names.{named, unnamed}
use Rattle.starlark_module.proofs.CommentsLemmas.Results.{along}
use Rattle.starlark_module.proofs.comments.lint_suppressions.parse_lint_suppressions.Goals as goal

abbrev names_of : Vec (String Global) Global → List Text
names_of v = map string_bytes v.items

pub returns-in-Some : goal.returns-in-Some
returns-in-Some c = along names_of c.names_listed.result (names_listed c.in-Some.short_names.now) (names_in c.args.comment.now)
    (named c.args.comment.now c.trim_start.result.now c.in-Some.short_names.now c.trim_start.ensures.trim c.in-Some.ensures.cases) c.names_listed.ensures

pub returns-in-None : goal.returns-in-None
returns-in-None c = ap (map string_bytes) c.new.ensures.items ∙ unnamed c.args.comment.now c.trim_start.result.now c.trim_start.ensures.trim
    c.in-None.ensures.cases
