use Rattle.std.proofs.Common.{ap}
use Rattle.starlark_lexer.specs.Tokens.{span_of}
use Rattle.starlark_tree.specs.Views.{literal_seen}
use Rattle.starlark_spec.specs.Targets.{map_ok}
use Rattle.starlark_spec.specs.Types as types
use Rattle.starlark_checks.proofs.RefusalLemmas.{refused_by}
use Rattle.starlark_checks.proofs.type_expr.made.literal_type.Goals as goal

pub returns-in-Int : goal.returns-in-Int
returns-in-Int g c =
    record {
      ok = tt;
      err = refused_by _ (ap (λ l. map_ok (λ _. types.Ellipsis) (types.constant (span_of c.args.span) (literal_seen l))) c.in-Int.is)
          c.invalid.ensures;
    }

pub returns-in-Float : goal.returns-in-Float
returns-in-Float g c =
    record {
      ok = tt;
      err = refused_by _ (ap (λ l. map_ok (λ _. types.Ellipsis) (types.constant (span_of c.args.span) (literal_seen l))) c.in-Float.is)
          c.invalid-in-Float.ensures;
    }

pub returns-in-String : goal.returns-in-String
returns-in-String g c =
    record {
      ok = tt;
      err = refused_by _ (ap (λ l. map_ok (λ _. types.Ellipsis) (types.constant (span_of c.args.span) (literal_seen l))) c.in-String.is)
          c.invalid-in-String.ensures;
    }

pub returns-in-Bytes : goal.returns-in-Bytes
returns-in-Bytes g c =
    record {
      ok = tt;
      err = refused_by _ (ap (λ l. map_ok (λ _. types.Ellipsis) (types.constant (span_of c.args.span) (literal_seen l))) c.in-Bytes.is)
          c.invalid-in-Bytes.ensures;
    }
