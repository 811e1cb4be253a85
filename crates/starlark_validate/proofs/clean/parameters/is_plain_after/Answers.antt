use Rattle.std.proofs.Common.{map, ap, ◌∙◌}
use Rattle.starlark_lexer.specs.Tokens.{span_of}
use Rattle.starlark_tree.specs.Views.{parameter_of, parameter_seen}
use Rattle.starlark_checks.specs.Parameters.{entry_fault}
use Rattle.starlark_validate.proofs.EntryClashes.{normal_fits}
use Rattle.starlark_validate.proofs.clean.parameters.is_plain_after.Goals as goal

pub returns-in-Normal-clause-fits : goal.returns-in-Normal-clause-fits
returns-in-Normal-clause-fits c = λ h.
    ap (λ p. entry_fault (map parameter_of c.args.before.now) (parameter_seen (span_of c.args.param.now.span) p)) c.in-Normal.is
    ∙ normal_fits (span_of c.args.param.now.span) c.in-Normal.name c.in-Normal.field-1 c.in-Normal.default (map parameter_of c.args.before.now)
    (rw (c.as_str.ensures.value, c.is_some.ensures) at (c.fits_all.ensures h))
