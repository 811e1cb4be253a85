pub mod ResultLemmas
pub mod Formats
