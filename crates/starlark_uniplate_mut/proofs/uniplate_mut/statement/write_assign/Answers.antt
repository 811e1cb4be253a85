use Rattle.std.proofs.Common.{sym, ap, ◌∙◌}
use Rattle.starlark_tree.specs.Ast as t
use Rattle.starlark_uniplate_mut.specs.Frames.{gap, target_frame, type_frame}
use Rattle.starlark_tree.specs.Views.{maybe_type_of, target_of}
use Rattle.starlark_lexer.specs.Tokens.{span_of}
use Rattle.starlark_uniplate_mut.proofs.Framed.{target_same}
use Rattle.starlark_tree.proofs.Statements.{assign_exprs}
use Rattle.starlark_uniplate_mut.proofs.Writing.{write_at}
use Rattle.starlark_uniplate_mut.proofs.uniplate_mut.statement.write_assign.Goals as goal

pub returns : goal.returns
returns g c =
    let old = c.args.assign.now in
    let new = record old { lhs = record old.lhs { node = c.write_assigned.new.target }; ty = c.write_assigned.new.ty; rhs = c.write_assigned.new.value } in
    record {
      calls = write_at (sym (assign_exprs old)) (sym (assign_exprs new)) c.write_assigned.ensures.calls;
      rest = ap (λ x. t.Assign x (type_frame (maybe_type_of new.ty)) gap)
          (target_same (span_of old.lhs.span) old.lhs.node c.write_assigned.new.target c.write_assigned.ensures.target)
          ∙ ap (λ ty. t.Assign (target_frame (target_of old.lhs)) ty gap) c.write_assigned.ensures.ty;
    }
