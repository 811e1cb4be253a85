use Rattle.std.proofs.Common.{◌≡◌, true, false, codes, string_bytes, rules}
use Rattle.std.specs.Str.{bytes_eq}
use Rattle.starlark_lexer.specs.Tokens.{span_of}
use Rattle.starlark_tree.specs.Views.{expression_of, word}
use Rattle.starlark_parse_build.proofs.CheckLemmas.FaultLemmas.{finds_same, found_alike}
use Rattle.starlark_parse_build.proofs.CheckLemmas.TypeForms.{before_fault, member_fault}
use Rattle.starlark_parse_build.proofs.CheckLemmas.PathLemmas.{banned_found}
use Rattle.starlark_parse_build.proofs.check.type_expr.member.Goals as goal

pub returns : goal.returns
returns c =
    let other : bytes_eq (string_bytes c.args.name.now.node) (codes "type") ≡ false = search rules in
    finds_same _ _ _ (member_fault (expression_of c.args.object.now) (word c.args.name.now) other) c.dotted.ensures

pub returns-in_err-text : goal.returns-in_err-text
returns-in_err-text c = found_alike _ _ _ (before_fault (expression_of c.args.object.now) (word c.args.name.now) _ c.in_err-text.ensures.finds)
    c.from_residual.ensures.1

pub returns-then-eq : goal.returns-then-eq
returns-then-eq c =
    let type : bytes_eq (string_bytes c.args.name.now.node) (codes "type") ≡ true = search rules in
    banned_found (expression_of c.args.object.now) (word c.args.name.now) (string_bytes c.in_ok-text.text) (span_of c.in_ok-text.span) _ type
    c.in_ok-text.ensures.finds c.in_ok-text.ensures.text c.in_ok-text.ensures.first c.banned.ensures
