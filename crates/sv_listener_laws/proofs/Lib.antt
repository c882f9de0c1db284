mod Answering
mod Arriving
mod Envelopes
mod HandingOut
mod Keeping
mod Outcomes
mod Together
