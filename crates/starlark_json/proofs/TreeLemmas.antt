pub mod AddsLemmas
pub mod Nodes
pub mod Statements
pub mod ReadsBack
pub mod ReadTexts
