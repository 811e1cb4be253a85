pub mod KeptFaults
pub mod KeptTreeFaults
pub mod Validity
pub mod Faults
pub mod Answers
pub mod Clean
pub mod TestResults
pub mod Walks
