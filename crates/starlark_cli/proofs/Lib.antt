pub mod AstLemmas
pub mod Lines
pub mod ToolLemmas
