pub mod Expr
pub mod Stmt
