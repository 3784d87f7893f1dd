-- What the contracts of inner functions cite.
pub mod Comparing
