mod BodiesLemmas
-- the walk through a turn, for any relation that its small steps keep
mod Steps
mod PlainSteps
mod CallSteps
pub mod Answering
mod Moving
mod Walk
-- what is reported of a child
pub mod Reported
mod Told
mod ToldEdges
mod Stretches
mod Tries
mod Spawning
-- event pools
mod Account
mod Accounts
-- files
mod LogHistory
-- links and their requests
mod LinkHistory
mod LinkKept
mod LinkOrders
mod LinkReplies
mod LinkTells
mod NextLink
mod Closings
pub mod Silent
-- calls, and the halt
mod CallHistory
mod HaltReplies
mod Halting
-- a journal that was worked out
mod NumbersBegin
