pub mod Drawn
pub mod Generator
pub mod Counted
pub mod Generated
pub mod Taken
