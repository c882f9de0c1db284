pub mod Courses
pub mod Answers
pub mod Conversation
pub mod Doings
pub mod Hearings
pub mod Cuts
