pub mod OutlineLemmas
pub mod ReplaceLemmas
pub mod LintLemmas
