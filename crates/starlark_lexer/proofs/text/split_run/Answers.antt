use Rattle.std.proofs.Common.{le_refl}
use Rattle.starlark_lexer.proofs.ByteRuns.{IsCharBoundary-run}
use Rattle.starlark_lexer.proofs.text.split_run.Goals as goal

pub range_from-requires : goal.range_from-requires
range_from-requires c =
    λ _. rw (c.run_len-len.ensures.len, c.as_bytes.ensures.value) (IsCharBoundary-run c.args.class c.args.text.now _ c.utf8.text c.requires (le_refl _))
