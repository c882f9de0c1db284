pub mod Begun
pub mod Books
pub mod Captured
pub mod Changes
pub mod Kept
pub mod Unchanged
pub mod Wholes
