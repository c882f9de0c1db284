pub mod LetterLaws
pub mod TextLaws
