mod KeeperAnswers
mod Tree
mod Found
mod LexerItems
mod LexerOrder
mod LimitedItems
mod Nested
mod Parsed
mod FileAnswers
pub mod LexemeListLaws
mod NoLoads
pub mod CommentsLemmas
