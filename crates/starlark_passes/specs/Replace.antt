pub mod Replacing
pub mod Calls
pub mod Parts
pub mod Entering
