pub mod Streams
pub mod RunBook
pub mod StandsFor
