use Rattle.starlark_lexer.specs.Classes.{is_digit_of}
use Rattle.starlark_lexer.proofs.NumberLemmas.{list_all-run}
use Rattle.starlark_lexer.proofs.number.prefixed_cut.Goals as goal

pub integer-requires-clause-all : goal.integer-requires-clause-all
integer-requires-clause-all c = rw (c.until.ensures, c.split_run-n.ensures.len) (list_all-run (is_digit_of c.base_of-base.result) c.args.digits.now)
