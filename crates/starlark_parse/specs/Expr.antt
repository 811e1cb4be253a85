pub mod Expressions
pub mod Contract
pub mod NestedParsers
pub mod Operators
pub mod Operating
