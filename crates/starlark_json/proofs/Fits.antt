pub mod Tokens
pub mod Expressions
pub mod Derivations
pub mod Lexemes
pub mod Modules
pub mod Numbers
pub mod Texts
