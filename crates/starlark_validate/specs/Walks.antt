pub mod Children
pub mod InText
pub mod Statements
