pub mod Appearances
pub mod Keys
pub mod Kinds
pub mod Lines
pub mod Places
pub mod Sections
