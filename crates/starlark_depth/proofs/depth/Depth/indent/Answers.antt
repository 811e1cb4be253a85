use Rattle.std.proofs.Common.{◌+◌, ◌∷◌, [], reverse, ◌∙◌, sym, ap, true}
use Rattle.std.proofs.lemmas.List.{reverse-append}
use Rattle.starlark_depth.specs.Depths.{line_of, statement_at}
use Rattle.starlark_depth.specs.Nested.{counted, nested_in}
use Rattle.starlark_depth.proofs.Uncounted.{ran, indented}
use Rattle.starlark_depth.proofs.depth.Depth.indent.Goals as goal

pub returns-in-Ok-clause-goes : goal.returns-in-Ok-clause-goes
returns-in-Ok-clause-goes c =
    let d = c.args.self.now in
    let s = counted d.nesting d.uncounted.items in
    let all = ran d.uncounted.items (nested_in d.nesting) d.plain d.nested.0 in
    let old = d.nesting.around.items in
    let t = c.statement-around.result in
    let around = ap reverse c.in-Ok.ensures.items ∙ reverse-append old (t ∷ []) ∙ ap (λ t. t ∷ reverse old) c.statement-around.ensures.value
    ∙ ap (λ ts. s.statement ∷ ts) (sym all.around) in
    c.start_line.ensures.starts
    ∙ ap (λ t. line_of (statement_at (t.own + 2)) (reverse c.push.new.self.items) true) c.statement-around.ensures.value
    ∙ ap (λ ts. line_of (statement_at (s.statement.own + 2)) ts true) around
    ∙ sym (indented s)
