pub mod LinkBook
pub mod LinkDeeds
pub mod StandsFor
