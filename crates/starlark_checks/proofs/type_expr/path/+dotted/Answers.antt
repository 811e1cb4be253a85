use Rattle.starlark_lexer.specs.Tokens.{span_of}
use Rattle.starlark_checks.specs.TypeViews.{path_seen}
use Rattle.starlark_checks.proofs.AnswerLemmas.{answers_same}
use Rattle.starlark_checks.proofs.RefusalLemmas.{refused_by}
use Rattle.starlark_checks.proofs.TypeDotted.{dotted_longer, none_dotted}
use Rattle.starlark_checks.proofs.type_expr.path.+dotted.Goals as goal

pub returns-in_default : goal.returns-in_default
returns-in_default g t c =
    record {
      ok = tt;
      err = refused_by _ (none_dotted (span_of c.args.x.now.span) c.args.x.now.node c.in_default.not-Dot c.in_default.not-Identifier)
          c.type_error.ensures;
    }

pub returns-in-Dot : goal.returns-in-Dot
returns-in-Dot g t c =
    answers_same _ _ _ path_seen _ (dotted_longer (span_of c.args.x.now.span) c.args.x.now.node _ _ _ c.in-Dot.is c.deref.ensures)
    (c.continued.ensures _ _ c.dotted.ensures)
