-- What the contracts of inner functions cite.
pub mod Largest
pub mod PartEnds
