mod MainLoopLemmas
mod Values
pub mod Accepted
pub mod Deeds
pub mod Ends
pub mod Scripts
pub mod Statuses
pub mod BeginLemmas
