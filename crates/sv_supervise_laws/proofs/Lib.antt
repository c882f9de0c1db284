mod DaemonText
mod DaemonWalk
mod NonzeroSizes
mod Rerun
