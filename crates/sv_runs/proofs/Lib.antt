pub mod StreamsLemmas
pub mod Begun
pub mod Books
pub mod Changes
pub mod Kept
pub mod Talks
pub mod Unchanged
