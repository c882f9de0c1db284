pub mod Chain
pub mod Rights
pub mod Signals
