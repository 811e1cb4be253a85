use Rattle.std.proofs.Common.{◌∙◌, sym, ap, reverse, true}
use Rattle.starlark_depth.specs.Depths.{effect_of, line_of, step}
use Rattle.starlark_depth.specs.Nested.{counted, nested_in}
use Rattle.starlark_depth.proofs.Uncounted.{ran, newline}
use Rattle.starlark_depth.proofs.depth.Depth.count.Goals as goal

pub returns-in-Newline-clause-goes : goal.returns-in-Newline-clause-goes
returns-in-Newline-clause-goes c =
    let d = c.args.self.now in
    let s = counted d.nesting d.uncounted.items in
    let all = ran d.uncounted.items (nested_in d.nesting) d.plain d.nested.0 in
    c.start_line.ensures.starts
    ∙ ap (λ t. line_of t (reverse d.nesting.around.items) true) c.statement-statement.ensures.value
    ∙ ap (λ ts. line_of s.statement ts true) (sym all.around)
    ∙ sym (newline s)
    ∙ ap (λ k. step (effect_of k) s) (sym c.in-Newline.is)
