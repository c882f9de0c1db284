pub mod AnyRole
pub mod Ending
pub mod Passes
pub mod Put
pub mod RuleKept
pub mod Seated
pub mod Together
