-- What the contracts of inner functions cite.
pub mod Lanes
pub mod Lookup
pub mod LookupSteps
pub mod Padded
