pub mod Examples
pub mod Faults
pub mod Info
pub mod Members
pub mod Times
