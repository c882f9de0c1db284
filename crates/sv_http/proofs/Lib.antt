-- heads, bodies and texts as plain lists
pub mod Lengths
pub mod Heads
pub mod Texts
pub mod Replies
-- rulings and credentials
pub mod Rulings
pub mod Credentials
-- streams and their asks, and what a reader of them stands for
pub mod Streams
pub mod Advances
pub mod GoingOn
pub mod Steps
pub mod Held
-- the same as functions, and the reader of a reply
pub mod HeadReading
pub mod AskReading
pub mod ReplyReading
mod SendableLemmas
