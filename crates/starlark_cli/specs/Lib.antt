pub mod Ast
pub mod Symbols
pub mod Tool
