use denote.Builtin.{unit}
use denote.Enum.Declared.{Record}
use borrow.Enum.Total.{values_d}
use Rattle.std.proofs.Common.{◌≡◌, length, ap, ◌∙◌, arith}
use Rattle.std.specs.Vec.{with_items}
use Rattle.starlark_tree.specs.Views.{assign_word, form_seen}
use Rattle.starlark_tree.specs.contracts.ast.StmtP.{enum}
use Rattle.starlark_tree.specs.contracts.ast.payload.AstNoPayload as no_payload
use Rattle.starlark_tree.specs.declared.ast.StmtP as stmts
use Rattle.starlark_passes.specs.Replace.Parts.{Replaces, a_form}
use Rattle.starlark_passes.specs.Replace.Replacing.{table_of}
use Rattle.starlark_passes.proofs.ReplaceLemmas.Nodes.{block_old, block_new, definition_old, definition_new}
use Rattle.starlark_passes.proofs.ReplaceLemmas.Shapes.{seen_as, in_block, in_definition}
use Rattle.starlark_tree.proofs.LentParts.{left_in}
use Rattle.starlark_passes.proofs.replace.statement.Blocks.form.Goals as goal

abbrev code : Record
code = enum no_payload.the_row unit unit unit unit unit

pub returns-in-Statements : goal.returns-in-Statements
returns-in-Statements g c =
    let e = ap length (c.deref_mut-in-Statements.ensures.value ∙ ap (λ u. u.items) c.in-Statements.parts-is) in
    let kept : length c.each.new.statements ≡ length c.in-Statements.parts.items = omega (arith, e, c.each.auto.statements) in
    left_in code 7 (λ v y. stmts.Statements y) (λ v. v.0) (λ b. with_items b c.each.new.statements) (λ e. Replaces (table_of c.args.self.now.replacements.now)
    (a_form (table_of c.args.self.now.replacements.now)) c.each.result (form_seen c.args.form.now) (form_seen e)) c.args.form.now (
      c.in-Statements.parts,
      tt,
    ) c.in-Statements.is
    (seen_as (block_old c.args.form.now c.in-Statements.parts _ c.deref_mut-in-Statements.result.now c.in-Statements.is
    c.deref_mut-in-Statements.ensures.value c.in-Statements.parts-is) (block_new c.in-Statements.parts c.each.new.statements kept)
    (in_block c.each.ensures))

pub returns-in-Def : goal.returns-in-Def
returns-in-Def g c =
    left_in code 11 (λ v y. stmts.Def y) (λ v. v.0) (λ b. c.definition.new.def) (λ e. Replaces (table_of c.args.self.now.replacements.now)
    (a_form (table_of c.args.self.now.replacements.now)) c.definition.result (form_seen c.args.form.now) (form_seen e)) c.args.form.now (
      c.in-Def.def,
      tt,
    ) c.in-Def.is
    (seen_as (definition_old c.args.form.now c.in-Def.def (values_d code 11 (c.in-Def.def, tt) c.args.form.now).0 c.in-Def.is c.in-Def.def-is)
    (definition_new c.definition.new.def (values_d code 11 (c.in-Def.def, tt) c.args.form.now).0 c.definition.ensures.name)
    (in_definition (assign_word (values_d code 11 (c.in-Def.def, tt) c.args.form.now).0.name) tt tt c.definition.ensures.replaced))
