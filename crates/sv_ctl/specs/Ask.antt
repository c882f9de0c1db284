pub mod ServerUrl
pub mod Asking
pub mod Hearing
