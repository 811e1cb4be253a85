pub mod AddsLemmas
pub mod Expecting
pub mod Lexed
pub mod Notes
