pub mod Answers
pub mod Parsed
pub mod Reading
pub mod Texts
pub mod Tree
