-- What to believe: when a stored call is right, when a stored job is right, and what the lines of a file come to.
pub mod Calls
pub mod Jobs
pub mod Tallies
-- Inside: what the contracts of inner functions cite.
pub mod Inner
