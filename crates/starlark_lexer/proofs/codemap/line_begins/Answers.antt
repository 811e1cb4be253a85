use Rattle.std.proofs.Common.{◌≡◌, ℕ, ◌<◌, ◌∷◌, length}
use Rattle.memchr.specs.Find.{Passes, is_byte}
use Rattle.memchr.proofs.lemmas.CallerLemmas.{All-places}
use Rattle.starlark_lexer.proofs.LineTables.{line_begins-places, begins-more, all-later}
use Rattle.starlark_lexer.proofs.codemap.line_begins.Goals as goal

pub loop-at-init : goal.loop-at-init
loop-at-init c = record {
  table = rw (c.new-begins.ensures.items, c.into_iter-at-iterator.ensures.into_iter_gives, c.memchr_iter-at-items.ensures.value)
      (line_begins-places c.args.text.now);
  within = rw (c.into_iter-at-iterator.ensures.into_iter_gives, c.memchr_iter-at-items.ensures.value) (All-places (is_byte 10) c.args.text.now);
}

pub loop-at-preserved : goal.loop-at-preserved
loop-at-preserved c =
    let step : c.loop-at.at-iterator ≡ c.in-Some.at ∷ c.next.new.self = c.in-Some.ensures.steps in
    record {
      table = rw c.in_ok-push.ensures.items (begins-more c.loop-at.begins.items c.loop-at.at-iterator c.next.new.self c.in-Some.at c.args.text.now step
          c.loop-at.invariant.table);
      within = all-later (λ (k : ℕ). (k < length c.args.text.now) × Passes (is_byte 10) c.args.text.now k) c.loop-at.at-iterator c.next.new.self c.in-Some.at
          step c.loop-at.invariant.within;
    }
