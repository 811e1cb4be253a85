pub mod KeeperAnswers
pub mod ConsumedLexemes
pub mod Modules
pub mod LexemeLists
pub mod Lending
pub mod Comments
