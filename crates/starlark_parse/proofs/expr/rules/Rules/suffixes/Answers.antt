use Rattle.std.proofs.Common.{rules, refl, ◌∙◌, arith}
use Rattle.starlark_parse_cursor.proofs.Paths.{exits}
use Rattle.starlark_parse.proofs.ExprLemmas.Suffixes.{suffix_fails, suffix_read, suffixed_found}
use Rattle.starlark_parse.proofs.expr.rules.Rules.suffixes.Goals as goal

pub suffixes-init : goal.suffixes-init
suffixes-init g c = record {
  same_reference = refl;
  ready = c.requires.ready;
  fewer = omega (arith);
  later = omega (arith);
  inside = (refl, c.requires.ends);
  read = λ start h. h;
}

pub returns-in_err-suffixed-clause-parses : goal.returns-in_err-suffixed-clause-parses
returns-in_err-suffixed-clause-parses g c start h = exits _ _ _ _ _ _ _ c.from_residual.ensures.1
    (suffix_fails (c.suffixes.invariant.read start h) c.in_err-suffixed.ensures.parses)

pub suffixes-preserved : goal.suffixes-preserved
suffixes-preserved g c = record {
  same_reference = search rules;
  ready = c.in_ok-suffixed.ensures.moves.ready;
  fewer = omega (arith, c.suffixes.invariant.fewer, c.in_ok-suffixed.ensures.moves.fewer);
  later = omega (arith, c.suffixes.invariant.later, c.suffixes.invariant.ready.later, c.in_ok-suffixed.ensures.moves.later);
  inside = (c.in_ok-suffixed.ensures.inside.0 ∙ c.suffixes.invariant.inside.0, c.in_ok-suffixed.ensures.inside.1);
  read = λ start h. suffix_read (c.suffixes.invariant.read start h) c.in_ok-suffixed.ensures.parses;
}

pub returns-clause-parses : goal.returns-clause-parses
returns-clause-parses g c start h = suffixed_found c.suffixes.suffixed (c.suffixes.invariant.read start h) (cc)
