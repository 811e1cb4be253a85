pub mod FolderLemmas
pub mod Commands
pub mod Found
pub mod Modules
pub mod Reporting
pub mod Steps
pub mod PrintedFiles
pub mod WholeRuns
