pub mod Homes
pub mod HomesByName
pub mod Processes
pub mod Programs
