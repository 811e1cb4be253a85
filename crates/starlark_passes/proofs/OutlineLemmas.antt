pub mod Outlines
pub mod TopLemmas
