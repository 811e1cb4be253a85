pub mod Frames
pub mod FormFrames
pub mod WrittenChildren
pub mod Forms
pub mod AllExprs
pub mod Types
