pub mod Apart
pub mod Awakening
mod Members
pub mod Places
mod Reports
mod Rewinding
pub mod Waking
pub mod Walks
mod Watching
