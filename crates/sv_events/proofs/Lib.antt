pub mod CoverCases
pub mod Lines
