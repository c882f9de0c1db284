mod AskLemmas
mod Values
pub mod Answering
mod Free
pub mod TalkLemmas
