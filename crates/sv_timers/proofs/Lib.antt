pub mod DueLaws
pub mod NextLaws
