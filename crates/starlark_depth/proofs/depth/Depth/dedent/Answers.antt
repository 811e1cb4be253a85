use Rattle.std.proofs.Common.{◌∷◌, [], ◌∙◌, sym, ap, reverse, true, arith}
use Rattle.std.proofs.lemmas.List.{nil_from_length, reverse-append}
use Rattle.starlark_depth.specs.Depths.{dedented, line_of}
use Rattle.starlark_depth.specs.Nested.{counted, nested_in}
use Rattle.starlark_depth.specs.declared.nesting.Nesting.{Nesting}
use Rattle.starlark_depth.proofs.Uncounted.{ran, dedent}
use Rattle.starlark_depth.proofs.depth.Depth.dedent.Goals as goal

pub returns-in-Some-clause-goes : goal.returns-in-Some-clause-goes
returns-in-Some-clause-goes c =
    let d = c.args.self.now in
    let s = counted d.nesting d.uncounted.items in
    let all = ran d.uncounted.items (nested_in d.nesting) d.plain d.nested.0 in
    let around = c.in-Some.around in
    let left = c.pop.new.self.items in
    c.start_line.ensures.starts
    ∙ ap (dedented s.statement) (sym (all.around ∙ ap reverse c.in-Some.ensures.items ∙ reverse-append left (around ∷ [])))
    ∙ sym (dedent s)

pub returns-in-None-clause-goes : goal.returns-in-None-clause-goes
returns-in-None-clause-goes c =
    let d = c.args.self.now in
    let s = counted d.nesting d.uncounted.items in
    let all = ran d.uncounted.items (nested_in d.nesting) d.plain d.nested.0 in
    let old = d.nesting.around in
    let none_old = nil_from_length old.items (omega (arith, c.in-None.ensures.cases.0, old.ok)) in
    let mid : Nesting = record { statement = d.nesting.statement; around = c.pop.new.self; line_starts = d.nesting.line_starts; levels = d.nesting.levels } in
    let left = ran d.uncounted.items (nested_in mid) d.plain d.nested.0 in
    let none_left = nil_from_length c.pop.new.self.items (omega (arith, c.in-None.ensures.cases.1, c.pop.new.self.ok)) in
    c.start_line-in-None.ensures.starts
    ∙ ap (λ ts. line_of c.statement-statement.result (reverse ts) true) none_left
    ∙ ap (λ t. line_of t [] true) (c.statement-statement.ensures.value ∙ left.statement ∙ sym all.statement)
    ∙ ap (dedented s.statement) (sym (all.around ∙ ap reverse none_old))
    ∙ sym (dedent s)
