pub mod Results
pub mod Flags
pub mod Formats
