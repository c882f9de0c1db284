pub mod Subjects
pub mod Members
pub mod Errors
pub mod Statuses
pub mod Commands
pub mod Tables
pub mod Lines
