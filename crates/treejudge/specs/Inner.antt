-- What the contracts of inner functions cite.
pub mod Cycles
pub mod NodeNames
pub mod Repeats
pub mod SameNodes
