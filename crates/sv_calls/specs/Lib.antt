pub mod Waits
pub mod Answers
pub mod CallBook
pub mod StandsFor
