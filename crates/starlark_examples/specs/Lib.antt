pub mod Documentation
pub mod LoadGraph
pub mod Places
pub mod Rename
pub mod Types
pub mod UnusedNames
