-- What the contracts of inner functions cite.
pub mod Prepared
pub mod WalkLookups
