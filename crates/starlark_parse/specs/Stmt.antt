pub mod Lines
pub mod Runs
pub mod Statements
pub mod NestedParsers
pub mod Modules
