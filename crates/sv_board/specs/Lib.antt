pub mod Board
pub mod BoardRule
pub mod Ends
pub mod Roles
