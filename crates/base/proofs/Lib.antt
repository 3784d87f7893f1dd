-- Truth values, tests and sets.
pub mod Logic
pub mod Tests
pub mod BitSet
pub mod LowestBit
-- Questions and their numbers.
pub mod Accepted
pub mod Numbers
-- Lists.
pub mod Every
pub mod Largest
pub mod Flattening
pub mod Tabulate
pub mod PartEnds
-- Output into lent buffers.
pub mod Storing
pub mod EachStored
