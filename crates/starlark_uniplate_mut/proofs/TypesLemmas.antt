pub mod TypeWalks
pub mod TypeEnters
pub mod ParameterTypes
pub mod StmtTypes
pub mod Bounds
pub mod MayTypes
pub mod MayEnter
pub mod MayParts
