use Rattle.std.proofs.Common.{refl, [], ◌∷◌, rules}
use Rattle.starlark_lexer.proofs.SpansLemmas.{whole_run_over}
use Rattle.starlark_lexer.proofs.span.Span.merge_all.Goals as goal

pub returns-in_default : goal.returns-in_default
returns-in_default g c =
    whole_run_over _ _ [] (c.next.new.self, (c.args.spans, refl, c.in_default.ensures.steps)) (search rules) (search rules)

pub returns : goal.returns
returns g c =
    whole_run_over _ _ (c.in-Some.first ∷ c.loop-span.yielded) (
      c.next-in-loop-span.new.self,
      (c.loop-span.spans, (c.next.new.self, c.in-Some.ensures.steps, c.loop-span.yielded_by), c.in_default-next.ensures.steps),
    ) c.loop-span.invariant.least c.loop-span.invariant.greatest
