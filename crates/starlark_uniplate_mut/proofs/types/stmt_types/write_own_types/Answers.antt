use denote.Param.{param}
use denote.Enum.Declared.{Record}
use borrow.Enum.Known.{ValuesAt}
use Rattle.std.proofs.Common.{◌++◌, length, refl, ap, ◌∙◌}
use Rattle.std.specs.List.{flat_map}
use Rattle.std.specs.Vec.{with_items}
use Rattle.starlark_tree.specs.contracts.ast.StmtP.{enum}
use Rattle.starlark_tree.specs.declared.ast.StmtP as stmt
use Rattle.starlark_tree.specs.Views.{boxed_type_of, maybe_type_of}
use Rattle.starlark_tree.specs.Walks.{WritesIn}
use Rattle.starlark_tree.proofs.LentParts.{left_in}
use Rattle.starlark_uniplate.specs.Types.{form_types_of, types_in_parameter, types_of}
use Rattle.starlark_uniplate_mut.specs.Types.Types.{type_calls, untyped_form_of}
use Rattle.starlark_uniplate_mut.proofs.TypesLemmas.StmtTypes.{assign_written, def_written, then_exprs}
use Rattle.starlark_uniplate_mut.proofs.TypesLemmas.TypeEnters.{may_types}
use Rattle.starlark_uniplate_mut.proofs.Writing.{write_at, written_from}
use Rattle.starlark_uniplate_mut.proofs.types.stmt_types.write_own_types.Given as given
use Rattle.starlark_uniplate_mut.proofs.types.stmt_types.write_own_types.Goals as goal

abbrev stmts : given.Over → Record
stmts g = enum (param 0 g.row.P) (param 3 g.row.P-LoadPayload) (param 4 g.row.P-IdentPayload) (param 5 g.row.P-IdentAssignPayload) (param 6 g.row.P-DefPayload)
    (param 7 g.row.P-TypeExprPayload)

pub write_assigned_type-requires : goal.write_assigned_type-requires
write_assigned_type-requires g c = may_types (type_calls g.F.FnMut) _ c.requires

pub returns-in-Assign : goal.returns-in-Assign
returns-in-Assign g c =
    let v : ValuesAt (stmts g).parts 5 = (c.in-Assign.assign, tt) in
    let own = left_in (stmts g) 5 (λ v y. stmt.Assign y) (λ v. v.0) (λ a. record a { ty = c.write_assigned_type.new.ty })
    (λ e. WritesIn form_types_of untyped_form_of (type_calls g.F.FnMut) c.args.f.now c.args.stmt.now e c.write_assigned_type.result
    c.write_assigned_type.new.f) c.args.stmt.now v c.in-Assign.is
    (written_from c.in-Assign.is (assign_written c.in-Assign.assign c.write_assigned_type.new.ty
    (write_at (ap (λ a. types_of (maybe_type_of a.ty)) c.in-Assign.assign-is) refl c.write_assigned_type.ensures))) in
    record { own = own; then_exprs = then_exprs (type_calls g.F.FnMut) _ own c.requires }

pub write_signature_types-requires : goal.write_signature_types-requires
write_signature_types-requires g c = may_types (type_calls g.F.FnMut) _ c.requires

pub returns-in-Def : goal.returns-in-Def
returns-in-Def g c =
    let v : ValuesAt (stmts g).parts 11 = (c.in-Def.def, tt) in
    let own = left_in (stmts g) 11 (λ v y. stmt.Def y) (λ v. v.0) (λ d. record d {
      params = with_items d.params c.write_signature_types.new.parameters;
      return_type = c.write_signature_types.new.return_type;
    })
    (λ e. WritesIn form_types_of untyped_form_of (type_calls g.F.FnMut) c.args.f.now c.args.stmt.now e c.write_signature_types.result
    c.write_signature_types.new.f) c.args.stmt.now v c.in-Def.is
    (written_from c.in-Def.is
    (def_written c.in-Def.def c.deref_mut.result.now c.write_signature_types.new.parameters c.write_signature_types.new.return_type
    (c.deref_mut.ensures.value ∙ ap (λ d. d.params.items) c.in-Def.def-is)
    (write_at (ap (λ d. flat_map (λ p. types_in_parameter p.node) c.deref_mut.result.now ++ types_of (boxed_type_of d.return_type)) c.in-Def.def-is) refl
    c.write_signature_types.ensures.calls)
    c.write_signature_types.ensures.parameters
    (c.write_signature_types.ensures.return_type ∙ ap (λ d. length (types_of (boxed_type_of d.return_type))) c.in-Def.def-is))) in
    record { own = own; then_exprs = then_exprs (type_calls g.F.FnMut) _ own c.requires }
