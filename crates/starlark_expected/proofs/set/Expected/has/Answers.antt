use Rattle.std.proofs.Common.{refl, subst, sym, ◌∙◌}
use Rattle.starlark_lexer.specs.declared.kind.Kind.TheVariants.{Identifier}
use Rattle.starlark_spec.specs.Nodes.{IsMember}
use Rattle.starlark_expected.proofs.Members.{member_at}
use Rattle.starlark_expected.proofs.set.Expected.has.Goals as goal

pub returns-then-is : goal.returns-then-is
returns-then-is c = (
  (λ h. subst (IsMember c.args.kind) c.deref-other-items.ensures.value
      (member_at c.deref-other-items.result.now c.loop-other.other-index Identifier c.args.kind c.loop-other-test.true (sym c.is.ensures ∙ c.if-is.true))),
  (λ m. refl),
)
