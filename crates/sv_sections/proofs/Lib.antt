pub mod Folds
pub mod Lookups
pub mod Places
pub mod ProgramsLemmas
