pub mod Crossing
pub mod Fronts
pub mod NewReaders
pub mod Passes
pub mod Places
pub mod RuleKept
