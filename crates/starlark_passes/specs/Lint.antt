pub mod Sorting
pub mod LintIssues
pub mod Found
pub mod Without
