pub mod Keeping
pub mod Lines
pub mod Missing
pub mod Spans
pub mod Standard
