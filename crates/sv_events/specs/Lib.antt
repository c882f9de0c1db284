pub mod Covers
pub mod EventText
pub mod OneLine
pub mod TickSlice
