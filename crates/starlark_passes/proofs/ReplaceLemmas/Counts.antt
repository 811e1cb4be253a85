-- How many statements are in a form in memory, in a form in which search uses it.
use Rattle.std.proofs.Common.{◌≡◌, map, Vec, Global, refl, ap}
use Rattle.starlark_tree.specs.Ast.{statements_of}
use Rattle.starlark_tree.specs.Views.{form_seen, statement_of}
use Rattle.starlark_tree.specs.declared.ast.DefP.{DefP}
use Rattle.starlark_tree.specs.declared.ast.StmtP as stmts
use Rattle.starlark_tree.proofs.Rows.{statements_seen_of}
use Rattle.starlark_passes.specs.Replace.Entering.{StatementInMemory, all_statements_in, statements_in, statements_in_form}

module _ {P : Type 0} where
  pub block_counts : (v : Vec (StatementInMemory P) Global) → statements_in_form (form_seen (stmts.Statements v))
      ≡ all_statements_in (statements_of (map statement_of v.items))
  block_counts v = ap all_statements_in (statements_seen_of v)

  pub definition_counts : (d : DefP P (Unit {0}) (Unit {0}) (Unit {0}) (Unit {0}) (Unit {0})) → statements_in_form (form_seen (stmts.Def d))
      ≡ statements_in (statement_of d.body.value)
  definition_counts d = refl

pub ruleset forms = (block_counts, definition_counts)
