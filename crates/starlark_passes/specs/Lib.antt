pub mod Outline
pub mod Replace
pub mod Lint
