pub mod StandsFor
pub mod StreamBook
