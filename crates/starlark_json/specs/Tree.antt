pub mod Adds
pub mod Fields
pub mod Trees
pub mod Tokens
pub mod Fitting
pub mod Reading
