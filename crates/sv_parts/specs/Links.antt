pub mod Links
pub mod Opening
pub mod Sending
pub mod Closing
pub mod Noting
pub mod Starting
