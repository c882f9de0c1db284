pub mod ChildTable
pub mod Diagram
pub mod Examples
pub mod Life
pub mod Moves
pub mod Rewind
pub mod WorkedLives
