use Rattle.starlark_parse_held.proofs.dropping.drop_last_first.Given as goal

abbrev pub decreases-loop-stmt : goal.decreases-loop-stmt
decreases-loop-stmt l = goal.left-loop-stmt l
