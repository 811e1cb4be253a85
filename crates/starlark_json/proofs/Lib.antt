pub mod Comments
pub mod Errors
pub mod Fits
mod ReadsBack
pub mod TreeLemmas
