use Rattle.std.proofs.Common.{rules, refl, arith}
use Rattle.starlark_parse_cursor.proofs.Paths.{gives_exits}
use Rattle.starlark_parse.proofs.StmtLemmas.Loads.{Symbolled.none_yet, symbol_fails, symbol_wants, comma_wants, symbols_more, symbols_last, symbols_all}
use Rattle.starlark_parse.proofs.StmtLemmas.Loads.{no_symbols_found, symbols_fail, symbols_found}
use Rattle.starlark_parse.proofs.stmt.load.symbols.Goals as goal

pub returns-in_default-clause-parses : goal.returns-in_default-clause-parses
returns-in_default-clause-parses g c = no_symbols_found c.in_default.ensures.takes c.new-symbols.ensures

pub listing-init : goal.listing-init
listing-init g c = record {
  same_reference = search rules;
  ready = search rules;
  fewer = omega (arith, c.in-Some.ensures.moves.fewer);
  later = omega (arith, c.in-Some.ensures.moves.later);
  symbols = none_yet refl c.new-symbols.ensures;
}

pub returns-in_err-symbol-clause-parses : goal.returns-in_err-symbol-clause-parses
returns-in_err-symbol-clause-parses g c =
    gives_exits _ _ _ _ _ _ c.from_residual.ensures.1 (symbols_fail c.in-Some.ensures.takes
    (symbol_fails c.listing.invariant.symbols (cc) c.in_err-symbol.ensures.parses))

pub returns-clause-parses : goal.returns-clause-parses
returns-clause-parses g c = symbols_found c.in-Some.ensures.takes (symbols_all c.listing.invariant.symbols (cc))

pub returns-in_err-push-clause-parses : goal.returns-in_err-push-clause-parses
returns-in_err-push-clause-parses g c =
    gives_exits _ _ _ _ _ _ c.from_residual-in_err-push.ensures.1
    (symbols_fail c.in-Some.ensures.takes (symbol_wants c.listing.invariant.symbols (cc) c.in_ok-symbol.ensures.parses
    c.in_default-take_if.ensures.takes.1))

pub returns-in_default-take_if-clause-parses : goal.returns-in_default-take_if-clause-parses
returns-in_default-take_if-clause-parses g c =
    symbols_found c.in-Some.ensures.takes (symbols_last c.listing.invariant.symbols (cc) c.in_ok-symbol.ensures.parses c.in_default-take_if.ensures.takes
    c.in_ok-push.ensures)

pub listing-preserved : goal.listing-preserved
listing-preserved g c = record {
  same_reference = search rules;
  ready = search rules;
  fewer = omega (arith, c.listing.invariant.fewer, c.in_ok-symbol.ensures.moves.fewer, c.in-Some-take_if.ensures.moves.fewer);
  later = omega (
    arith,
    c.listing.invariant.later,
    c.in_ok-symbol.ensures.moves.later,
    c.in-Some-take_if.ensures.moves.later,
    c.in_ok-symbol.ensures.moves.ready.later,
    c.listing.invariant.ready.later,
  );
  symbols = symbols_more c.listing.invariant.symbols (cc) c.in_ok-symbol.ensures.parses c.in-Some-take_if.ensures.takes c.in_ok-push-2.ensures;
}

pub returns-in_err-push-2-clause-parses : goal.returns-in_err-push-2-clause-parses
returns-in_err-push-2-clause-parses g c =
    gives_exits _ _ _ _ _ _ c.from_residual-in_err-push-2.ensures.1
    (symbols_fail c.in-Some.ensures.takes (comma_wants c.listing.invariant.symbols (cc) c.in_ok-symbol.ensures.parses c.in-Some-take_if.ensures.takes))
