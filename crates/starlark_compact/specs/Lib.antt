pub mod Adds
pub mod Answers
pub mod Bytes
pub mod Code
pub mod Kinds
pub mod Trees
