use Rattle.std.proofs.Common.{sym, ap}
use Rattle.starlark_lexer.specs.Tokens.{span_of}
use Rattle.starlark_tree.specs.Ast as t
use Rattle.starlark_uniplate_mut.specs.Frames.{gap}
use Rattle.starlark_tree.specs.Views.{expression_of}
use Rattle.starlark_uniplate_mut.proofs.Framed.{for_parts, target_same}
use Rattle.starlark_uniplate_mut.proofs.Writing.{write_at}
use Rattle.starlark_uniplate_mut.proofs.uniplate_mut.clause.write_for.Goals as goal

pub returns : goal.returns
returns g c =
    let old = c.args.clause.now in
    let target = c.write_binding.new.target in
    record {
      calls = write_at (sym (for_parts (span_of old.var.span) old.var.node (expression_of old.over)))
          (sym (for_parts (span_of old.var.span) target (expression_of c.write_binding.new.value))) c.write_binding.ensures.calls;
      rest = ap (λ x. t.for_in x gap) (target_same (span_of old.var.span) old.var.node target c.write_binding.ensures.rest);
    }
