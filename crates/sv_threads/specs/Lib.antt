pub mod FirstJobs
pub mod Answers
pub mod Opening
pub mod Hearing
pub mod LinkWords
pub mod Giving
pub mod Performing
pub mod Starting
