-- The printed text of an expression in memory.
pub use Rattle.starlark_syntax.specs.tree.Printed.{printed_expr}
