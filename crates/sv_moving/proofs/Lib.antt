pub mod Feeds
pub mod Gathering
pub mod Inside
pub mod LineCuts
pub mod Places
pub mod Texts
