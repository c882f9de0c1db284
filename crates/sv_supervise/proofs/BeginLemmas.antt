pub mod NameLists
pub mod OneReading
pub mod Told
