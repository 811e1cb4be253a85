pub mod Types
pub mod Entering
pub mod IntoCalls
