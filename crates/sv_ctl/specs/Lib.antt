pub mod Ask
pub mod Span
pub mod Options
pub mod Refusals
pub mod Serving
pub mod Controls
pub mod Talk
