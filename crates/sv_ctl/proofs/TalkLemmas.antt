pub mod Causes
pub mod Slices
pub mod Doings
pub mod Calls
pub mod Hearing
pub mod Lines
pub mod WordLists
