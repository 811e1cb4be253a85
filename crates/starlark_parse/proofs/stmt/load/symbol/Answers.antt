use Rattle.std.proofs.Common.{ap, ◌∙◌}
use Rattle.starlark_lexer.specs.Tokens.{span_of}
use Rattle.starlark_tree.specs.Views.{word, word_at}
use Rattle.starlark_parse_cursor.proofs.Paths.{exits}
use Rattle.starlark_parse.proofs.StmtLemmas.Loads.{same_found, same_wants, symbol_absent, alone_breaks, their_absent, other_found}
use Rattle.starlark_parse.proofs.stmt.load.symbol.Goals as goal

pub returns-in_err-local-clause-parses : goal.returns-in_err-local-clause-parses
returns-in_err-local-clause-parses g c = exits _ _ _ _ _ _ _ c.from_residual-in_err-local.ensures.1 (symbol_absent (cc) c.in_err-local.ensures.takes)

pub returns-in_default-clause-parses : goal.returns-in_default-clause-parses
returns-in_default-clause-parses g c = alone_breaks c.in_ok-local.ensures.takes c.in_default.ensures.takes c.broken.ensures

pub returns-in_err-their-2-clause-parses : goal.returns-in_err-their-2-clause-parses
returns-in_err-their-2-clause-parses g c = exits _ _ _ _ _ _ _ c.from_residual-in_err-their-2.ensures.1
    (their_absent c.in_ok-local.ensures.takes c.in-Some.ensures.takes c.in_err-their-2.ensures.takes)

pub returns-clause-parses : goal.returns-clause-parses
returns-clause-parses g c = other_found c.in_ok-local.ensures.takes c.in-Some.ensures.takes c.in_ok-their-2.ensures.takes c.new-2.ensures

pub returns-in_err-clone-clause-parses : goal.returns-in_err-clone-clause-parses
returns-in_err-clone-clause-parses g c = exits _ _ _ _ _ _ _ c.from_residual-in_err-clone.ensures.1 (same_wants c.in_ok-their.ensures.takes)

pub returns-then-at-clause-parses : goal.returns-then-at-clause-parses
returns-then-at-clause-parses g c =
    same_found c.in_ok-their.ensures.takes (c.new.ensures ∙ ap (λ x. (word_at x (span_of c.in_ok-their.their.span), word c.in_ok-their.their))
    c.in_ok-clone.ensures.cases)
