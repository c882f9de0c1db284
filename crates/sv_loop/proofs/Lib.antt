-- lines and names
mod FirstFeed
mod Walks
pub mod ProgramNames
mod Programs
-- what is read of a journal
mod ReadAll
mod RunSteps
pub mod OneReading
-- what a journal says, and its orders
mod Quiet
mod Says
mod SaysInputs
mod SaysLong
-- the table of statuses
mod Table
mod Refusals
mod Generates
