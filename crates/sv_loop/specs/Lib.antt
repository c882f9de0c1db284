pub mod Reading
pub mod Replaying
pub mod Telling
pub mod WholeJournal
pub mod Generating
