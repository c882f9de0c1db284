pub mod Alike
pub mod Changes
pub mod Lookup
pub mod Names
pub mod Seats
pub mod StartOrder
