pub mod Held
pub mod Places
pub mod Covering
pub mod Kept
