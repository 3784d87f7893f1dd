-- What to believe: the call that judges a job, and what its text says.
pub mod Ascii
pub mod JobCall
pub mod PrintedVerdict
-- Inside: what the contracts of inner functions cite.
pub mod Inner
