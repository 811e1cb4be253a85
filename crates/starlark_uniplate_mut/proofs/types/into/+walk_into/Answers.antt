use Rattle.std.proofs.Common.{◌+◌, rules, subst, sym}
use Rattle.starlark_tree.specs.Views.{expression_of}
use Rattle.starlark_uniplate_mut.specs.Types.Entering.{EntersTyped}
use Rattle.starlark_uniplate_mut.specs.Types.Types.{type_calls, types_in}
use Rattle.starlark_uniplate_mut.proofs.TypesLemmas.Bounds.{one_more}
use Rattle.starlark_uniplate_mut.proofs.TypesLemmas.TypeEnters.{typed_later}
use Rattle.starlark_uniplate_mut.proofs.types.into.+walk_into.Goals as goal

pub walk_into_by-requires-clause-smaller : goal.walk_into_by-requires-clause-smaller
walk_into_by-requires-clause-smaller g t c = record {
  callable = λ h e a few small. λ function b old mark q d.
      let later = typed_later c.requires a (one_more (types_in e) (types_in (expression_of c.args.expr.now)) few) in
      let there = subst (λ s. EntersTyped (type_calls g.F.FnMut) g.G.AtExprMut.calls s (types_in e + 1)) (sym d) later in
      let takes = subst (λ x. EntersTyped (type_calls g.F.FnMut) g.G.AtExprMut.calls old.now (types_in x + 1)) (sym q) there in
      let falls = rw (← q, c.decreases) at small in
      search rules;
  promises = λ h e d r k p. rw (← p.shows, ← p.leaves, ← p.begins, ← p.ends) p.returned;
}
