-- What the contracts of inner functions cite.
pub mod Reader
pub mod GridBytes
pub mod Header
pub mod Preparing
pub mod ReadRule
pub mod Writing
