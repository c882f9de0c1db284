-- what public contracts speak of: talks, captured streams, and what is decided of them
pub mod Talk
pub mod TalkCut
pub mod TalkCalls
pub mod CaptureCut
pub mod StreamCut
pub mod CaptureCalls
pub mod Kept
pub mod PlaceBounds
-- what the readers stand for, byte by byte
pub mod TalkPlaces
pub mod CapturePlaces
