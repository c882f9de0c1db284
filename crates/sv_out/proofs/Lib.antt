mod ListReads
mod Wrote
mod Scripts
mod Runs
mod Sent
mod Maps
pub mod NamesInOrder
