pub mod Files
pub mod Links
pub mod Runs
