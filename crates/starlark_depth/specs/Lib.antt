pub mod Depths
pub mod Nested
pub mod Counted
pub mod Limited
pub mod Guarding
pub mod Given
pub mod Heights
pub mod Low
