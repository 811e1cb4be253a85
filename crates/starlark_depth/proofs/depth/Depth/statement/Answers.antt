use Rattle.std.proofs.Common.{◌≡◌, ◌≤◌, ◌∙◌, sym, ap, subst, Some, None, arith}
use Rattle.std.specs.List.{slice_get}
use Rattle.starlark_depth.specs.Depths.{statement_of_line}
use Rattle.starlark_depth.specs.Nested.{nested_in}
use Rattle.starlark_depth.proofs.Uncounted.{ran, line_statement, first_statement, some_first, no_first, starts_line, no_statement}
use Rattle.starlark_depth.proofs.depth.Depth.statement.Goals as goal

pub statement_of_line-requires : goal.statement_of_line-requires
statement_of_line-requires c is = let small = c.args.self.now.small in omega (arith, c.if-prove.false, small)

pub returns-in-Some-clause-value : goal.returns-in-Some-clause-value
returns-in-Some-clause-value c =
    let d = c.args.self.now in
    let ks = d.uncounted.items in
    let kind = c.in-Some.kind.now in
    let first = subst (λ ks. Some kind ≡ slice_get ks 0) c.deref.ensures.value c.in-Some.ensures.value in
    let all = ran ks (nested_in d.nesting) d.plain d.nested.0 in
    let fits = subst (λ n. n ≤ d.room) d.uncounted.ok.0 d.fits in
    let starts = starts_line d.nesting.line_starts d.room ks d.unstarted (some_first ks kind first) fits in
    let t = d.nesting.statement in
    c.statement_of_line.ensures ∙ ap (λ e. statement_of_line e t) c.effect_of.ensures ∙ first_statement ks kind t first
    ∙ ap (λ b. line_statement b ks t) (sym starts) ∙ sym all.statement

pub returns-in-None-clause-value : goal.returns-in-None-clause-value
returns-in-None-clause-value c =
    let d = c.args.self.now in
    let all = ran d.uncounted.items (nested_in d.nesting) d.plain d.nested.0 in
    let none = no_first d.uncounted.items (subst (λ ks. None ≡ slice_get ks 0) c.deref.ensures.value c.in-None.ensures.value) in
    no_statement d.nesting.line_starts d.uncounted.items d.nesting.statement none ∙ sym all.statement
