-- what public contracts speak of: lines, what they say, and where a refused one breaks
pub mod JournalLine
pub mod Orders
pub mod Spelling
pub mod Commas
pub mod ProgramNames
pub mod Limits
pub mod Column
pub mod Outcome
-- the readers' own steps
pub mod Tokens
pub mod Escapes
pub mod Names
pub mod Pieces
pub mod Reading
pub mod ReadingLines
pub mod OrderReading
