pub mod DateLaws
pub mod Moves
pub mod Rotating
pub mod LoggedFiles
pub mod Opens
pub mod Places
