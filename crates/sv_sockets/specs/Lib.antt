pub mod Addresses
pub mod Idle
