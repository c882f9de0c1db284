pub mod Gathered
pub mod MultiCall
pub mod Views
