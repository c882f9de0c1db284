pub mod Rules
pub mod Journal
pub mod Telling
pub mod Course
pub mod Working
