pub mod Beginnings
pub mod OneReading
