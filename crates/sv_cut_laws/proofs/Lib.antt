-- states and turns that go on alike, with an order more before
mod Alike
mod Both
mod Turns
mod Past
mod Tells
-- what gives an order, or leaves all as it is
mod Loud
mod Edges
mod Handing
mod Plans
mod Wishes
mod Calls
mod There
mod Serves
mod Time
mod Rewinding
mod Followed
-- children have their runs
mod HaveRuns
mod SameCrew
mod Keeps
mod Reached
-- two pieces, and the one that they make
mod Links
mod IdleTurn
mod Cut
