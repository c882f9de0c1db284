mod Failures
mod Inputs
mod Passing
mod Notes
mod FirstOrders
mod Questions
mod Beginnings
mod Openings
