pub mod Visible
pub mod Lines
pub mod Fields
pub mod Requests
