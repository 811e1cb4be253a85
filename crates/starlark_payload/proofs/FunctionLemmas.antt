pub mod Loops
pub mod Orders
pub mod Steps
