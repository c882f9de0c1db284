-- words, digits and bytes as plain lists
pub mod Awaited
pub mod Fronts
pub mod Digits
pub mod PlainBytes
pub mod ResultBytes
-- a talk
pub mod Talks
pub mod Steps
pub mod OneTalk
pub mod TalkReading
-- a captured stream
pub mod Captures
pub mod OneStream
pub mod StreamReading
-- what is not decided yet
pub mod Undecided
