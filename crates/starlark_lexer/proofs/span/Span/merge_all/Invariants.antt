use Rattle.std.proofs.Common.{◌≡◌, min, max, fold}
use Rattle.starlark_lexer.proofs.span.Span.merge_all.Given as goal

abbrev pub invariant-loop-span : goal.invariant-loop-span
invariant-loop-span g l = record {
  can : (goal.iterator-loop-span g).can_next l.spans;
  finite : (goal.iterator-loop-span g).is_finite l.spans;
  least : l.over.begin.byte ≡ fold (λ least span. min least span.begin.byte) l.initial.over.begin.byte l.yielded;
  greatest : l.over.end.byte ≡ fold (λ greatest span. max greatest span.end.byte) l.initial.over.end.byte l.yielded;
}
