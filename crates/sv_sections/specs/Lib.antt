pub mod AllSections
pub mod FaultTexts
pub mod Includes
pub mod Lookups
pub mod SectionFaults
pub mod ServerSections
pub mod Programs
