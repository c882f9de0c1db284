-- what public contracts speak of: the asks of a stream, who may ask, and the texts that are written
-- and read
pub mod RequestStream
pub mod AskTable
pub mod AsksOf
pub mod Undecided
pub mod Authorization
pub mod RequestText
pub mod ReplyText
pub mod ReplyStream
-- what the readers stand for
pub mod ReaderPlaces
pub mod ReplyPlaces
pub mod Sendable
