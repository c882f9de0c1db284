pub mod Lists
pub mod Courses
pub mod Steps
