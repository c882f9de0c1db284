pub mod Kept
pub mod Named
pub mod Processes
pub mod Seats
