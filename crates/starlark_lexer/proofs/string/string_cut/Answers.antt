use Rattle.std.proofs.Common.{rules, ◌≡◌, drop, sym, ap, ◌∙◌}
use Rattle.starlark_lexer.specs.declared.string.escape.Stop.TheVariants.{Closed}
use Rattle.starlark_lexer.specs.Strings.{run, string_cut}
use Rattle.starlark_lexer.proofs.StringFits.{opening_ends, closed_takes, cuts_err}
use Rattle.starlark_lexer.proofs.string.string_cut.Goals as goal

pub range_from-inside-requires : goal.range_from-inside-requires
range_from-inside-requires c = λ _. (opening_ends c.args.style c.args.opening_len c.args.rest.now c.utf8.rest c.requires.opening).2

pub scan-len-requires : goal.scan-len-requires
scan-len-requires c = (opening_ends c.args.style c.args.opening_len c.args.rest.now c.utf8.rest c.requires.opening).0

pub literal-requires : goal.literal-requires
literal-requires c = record {
  quote = (opening_ends c.args.style c.args.opening_len c.args.rest.now c.utf8.rest c.requires.opening).0;
  len = search rules;
  begin = c.scan-len.ensures.begin;
  verbatim = c.scan-len.ensures.verbatim;
}

pub returns-in_err-what-in-Closed : goal.returns-in_err-what-in-Closed
returns-in_err-what-in-Closed c =
    let inside = drop c.args.opening_len c.args.rest.now in
    let stop : (run c.args.style inside).stop ≡ Closed =
    sym (ap (λ t. (run c.args.style t).stop) c.range_from-inside.ensures.value) ∙ sym c.scan-len.ensures.stop ∙ c.in-Closed.is in
    cuts_err c.from_residual.result (string_cut c.args.style c.args.opening_len c.args.rest.now) c.from_residual.ensures.0
    (closed_takes c.args.style c.args.opening_len c.args.rest.now stop)
