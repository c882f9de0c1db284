pub mod Ends
pub mod LaneRule
pub mod Order
pub mod Roles
pub mod Interleaving
