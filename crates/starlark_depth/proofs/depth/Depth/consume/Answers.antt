use Rattle.std.proofs.Common.{◌∙◌, sym, ap, subst, arith, All}
use Rattle.std.proofs.lemmas.Bool.{false≢true}
use Rattle.std.proofs.lemmas.List.Elements.{All-push}
use Rattle.starlark_depth.specs.Depths.{effect_of, step}
use Rattle.starlark_depth.specs.Nested.{IsPlain, counted, nested_in, steps}
use Rattle.starlark_depth.proofs.Uncounted.{is_plain, steps_push}
use Rattle.starlark_depth.proofs.depth.Depth.consume.Goals as goal
use Rattle.starlark_depth.proofs.depth.Depth.consume.Goals.{in-Comment, in_default}

pub invariant_of-self : goal.invariant_of-self
invariant_of-self c =
    let d = c.args.self.now in
    let kind = c.kind_of-kind.result in
    let plain : IsPlain kind = elim c.match-matches.branch [
      | in-Comment w ↦ absurd (false≢true (sym c.if-matches.false ∙ w.matches-is))
      | in_default w ↦ is_plain kind w.in_default.not-Comment w.in_default.not-Newline w.in_default.not-Indent w.in_default.not-Dedent
    ] in
    record {
      plain = subst (All IsPlain) (sym c.push_reserved.ensures.items) (All-push IsPlain d.uncounted.items kind d.plain plain);
      fits = omega (arith, c.if-len-self.false, c.len.ensures, c.push_reserved.ensures.len);
      reserved = omega (arith, d.reserved, c.push_reserved.ensures.capacity);
      most_reserved = omega (arith, d.most_reserved, c.push_reserved.ensures.capacity);
      most_shallow = d.most_shallow;
      small = d.small;
      unstarted = d.unstarted;
      shallow = d.shallow;
      nested = d.nested;
    }

pub returns-clause-goes : goal.returns-clause-goes
returns-clause-goes c =
    let d = c.args.self.now in
    let s = nested_in d.nesting in
    ap (λ ks. steps ks s) c.push_reserved.ensures.items ∙ steps_push d.uncounted.items c.kind_of-kind.result s
    ∙ ap (λ k. step (effect_of k) (counted d.nesting d.uncounted.items)) c.kind_of-kind.ensures
