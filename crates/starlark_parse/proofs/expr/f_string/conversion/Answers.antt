use Rattle.std.proofs.Common.{ap, ◌∙◌}
use Rattle.starlark_lexer.specs.declared.span.Pos.{Pos}
use Rattle.starlark_spec.specs.Trees.{conversion_of}
use Rattle.starlark_parse_cursor.proofs.Looks.{same_spans}
use Rattle.starlark_spec.specs.Machine.Sight.{look_at}
use Rattle.starlark_parse_cursor.specs.Reading.{at}
use Rattle.starlark_parse.proofs.ExprLemmas.FStrings.{broken_at, default_found, absent_fails, name_found, other_fails}
use Rattle.starlark_parse.proofs.expr.f_string.conversion.Goals as goal

pub returns-in_default-clause-parses : goal.returns-in_default-clause-parses
returns-in_default-clause-parses g c = default_found c.in_default.ensures.takes

pub returns-in_default-take_name-clause-parses : goal.returns-in_default-take_name-clause-parses
returns-in_default-take_name-clause-parses g c =
    let h = c.in_default-take_name.ensures.takes in
    absent_fails c.in-Some.ensures.takes (h.0, h.2)
    (broken_at (look_at (at c.take_name.new.cursor).sight).no_memory c.broken.ensures
    (same_spans (ap (λ (p : Pos). p.byte) (c.new-span.ensures.begin ∙ c.begin.ensures)) (ap (λ (p : Pos). p.byte) c.new-span.ensures.end
    ∙ c.begin-in_default-take_name.ensures)))

pub returns-in-Some-conversion_of-clause-parses : goal.returns-in-Some-conversion_of-clause-parses
returns-in-Some-conversion_of-clause-parses g c =
    name_found c.in-Some.ensures.takes c.in-Ok.ensures.takes c.in-Some-conversion_of.conversion (c.in-Some-conversion_of.ensures
    ∙ ap conversion_of c.as_str.ensures.value)

pub returns-clause-parses : goal.returns-clause-parses
returns-clause-parses g c =
    other_fails c.in-Some.ensures.takes c.in-Ok.ensures.takes (c.in-None.ensures ∙ ap conversion_of c.as_str.ensures.value)
    (broken_at (look_at (at c.take_name.new.cursor).sight).no_memory c.broken-in-None.ensures
    (same_spans (ap (λ (p : Pos). p.byte) (c.new-span-in-None.ensures.begin ∙ c.begin-in-None.ensures))
    (ap (λ (p : Pos). p.byte) (c.new-span-in-None.ensures.end ∙ c.end.ensures))))
