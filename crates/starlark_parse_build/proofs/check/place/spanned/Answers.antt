use Rattle.std.proofs.Common.{ap}
use Rattle.starlark_lexer.specs.declared.span.Pos.{Pos}
use Rattle.starlark_tree.specs.Ast.{statement}
use Rattle.starlark_tree.specs.Views.{form_seen}
use Rattle.starlark_parse_held.proofs.Meanings.{statement_held}
use Rattle.starlark_parse_held.proofs.Spans.{same_spans}
use Rattle.starlark_parse_build.proofs.check.place.spanned.Goals as goal

pub returns : goal.returns
returns c =
    statement_held c.new.result _ _
    (ap (λ s. statement s (form_seen c.args.node)) (same_spans (ap (λ (p : Pos). p.byte) c.new-span.ensures.begin)
    (ap (λ (p : Pos). p.byte) c.new-span.ensures.end)))
    c.new.ensures
