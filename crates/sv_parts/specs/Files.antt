pub mod Writing
pub mod Asking
