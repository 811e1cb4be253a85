pub mod Words
pub mod MayFollow
