mod Uncounted
pub mod Orders
pub mod GuardRuns
mod Free
mod Inline
mod Listing
mod Lines
mod Statements
mod Parts
mod Claims
mod Trees
