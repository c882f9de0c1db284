pub mod Heard
pub mod Served
