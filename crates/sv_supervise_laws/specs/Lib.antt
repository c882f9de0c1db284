pub mod Rerun
