pub mod DeadlineTree
pub mod Deadlines
pub mod Looks
pub mod NextDue
