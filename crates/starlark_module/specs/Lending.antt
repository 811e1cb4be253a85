-- The final value of a module, if a `&mut` to its tree is returned.
use Rattle.std.specs.Borrow.{Fml, Lends, MutBor, RattleType, unit}
use Rattle.starlark_lexer.specs.contracts.span.Spanned as spanned
use Rattle.starlark_module.specs.contracts.module.AstModule as module_row
use Rattle.starlark_module.specs.declared.module.AstModule.{AstModule}
use Rattle.starlark_tree.specs.contracts.ast.StmtP as stmt
use Rattle.starlark_tree.specs.contracts.ast.payload.AstNoPayload as no_payload

abbrev pub statement_row : RattleType
statement_row = spanned.the_row (stmt.the_row no_payload.the_row unit unit unit unit unit)

-- the same module with another tree
abbrev pub with_statement : AstModule → statement_row.Denot → AstModule
with_statement m s = record m { statement = s }

-- the module ends with the tree that is left through the reference, and the rest of it is unchanged
abbrev pub LendsStatement : MutBor AstModule → MutBor statement_row.Denot → Fml
LendsStatement m r = Lends module_row.the_row statement_row m r (with_statement m.now)
