-- what public contracts speak of: texts, what they spell, and what is read and written
pub mod Trees
pub mod Characters
pub mod Tags
pub mod Spelled
pub mod SpelledTexts
pub mod Spells
pub mod Given
pub mod Called
pub mod Beginnings
pub mod Openings
pub mod Judged
pub mod Written
pub mod Writable
pub mod Sizes
pub mod WorkedTexts
-- the reading byte by byte, which only the functions of Called rest on
pub mod Machine
pub mod Running
pub mod Reading
pub mod Atoms
pub mod Simple
pub mod Documents
pub mod Stages
pub mod Turns
pub mod Answers
pub mod Outcome
