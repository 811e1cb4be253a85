use Rattle.starlark_source.proofs.PageLemmas.{wrote_as}
use Rattle.starlark_source.proofs.StatementLemmas.{many_smalls, no_smalls, one_small}
use Rattle.starlark_source.proofs.statement.write_small_line.Goals as goal

pub returns-in-empty : goal.returns-in-empty
returns-in-empty c =
    wrote_as _ _ _ _ c.refuse.ensures (no_smalls c.args.span c.args.parts.now c.in-empty.len_below)

pub returns-in-len1 : goal.returns-in-len1
returns-in-len1 c =
    wrote_as _ _ _ _ c.refuse-in-len1.ensures (one_small c.args.span c.args.parts.now c.in-len1.len_at_least c.in-len1.len_below)

pub returns-in_default : goal.returns-in_default
returns-in_default c =
    wrote_as _ _ _ _ c.write_smalls.ensures (many_smalls c.args.span c.args.parts.now c.in_default.len_at_least)
