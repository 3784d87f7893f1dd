-- What the contracts of inner functions cite.
pub mod Pass
pub mod LevelArrays
pub mod AtSibling
pub mod Stepping
