pub mod KindWords
pub mod Digits
