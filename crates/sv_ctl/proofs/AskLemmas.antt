pub mod Fronts
pub mod Replies
pub mod Servers
pub mod Told
