pub mod Loops
pub mod Made
pub mod Parameters
pub mod Parts
pub mod Rows
pub mod Same
pub mod Statements
pub mod FunctionLemmas
