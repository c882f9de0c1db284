pub mod Lives
pub mod Writing
pub mod Killing
pub mod Noting
pub mod JobWords
pub mod RunWords
pub mod Spawned
