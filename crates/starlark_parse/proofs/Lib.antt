pub mod ExprLemmas
pub mod StmtLemmas
