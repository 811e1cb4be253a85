pub mod Sorted
pub mod Texts
pub mod Walked
pub mod Forms
pub mod Repeats
pub mod Left
pub mod Named
