pub mod ErrorLemmas
pub mod StatementLemmas
