use Rattle.starlark_lexer.specs.Tokens.{span_of}
use Rattle.starlark_checks.proofs.RefusalLemmas.{refused_by}
use Rattle.starlark_checks.proofs.TypeDotted.{no_path}
use Rattle.starlark_checks.proofs.type_expr.path.path_of.Goals as goal

pub returns-in_default : goal.returns-in_default
returns-in_default g c =
    record {
      ok = tt;
      err = refused_by _ (no_path (span_of c.args.x.now.span) c.args.x.now.node c.in_default.not-Dot c.in_default.not-Identifier)
          c.type_error.ensures;
    }
