pub mod Pieces
pub mod Tokens
pub mod Expressions
pub mod FStrings
pub mod Statements
pub mod Derivations
pub mod UnspannedExpressions
pub mod UnspannedStatements
