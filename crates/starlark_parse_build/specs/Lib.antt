pub mod Suffixes
pub mod Operations
pub mod Check
