mod Crashes
mod Cuts
mod Heads
mod Hearings
mod Listens
mod Numbers
mod Spelled
pub mod Written
