mod Left
mod LinkTests
mod Logged
mod Moved
mod Named
mod Resting
mod Served
mod Shown
pub mod Standing
mod Stopped
mod Sweeps
mod Unmoved
