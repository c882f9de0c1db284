pub mod ShortHeader
pub mod LongHeader
pub mod JournalPlaces
pub mod Judging
