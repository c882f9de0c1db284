pub mod AnswersLemmas
pub mod Ended
pub mod Parts
