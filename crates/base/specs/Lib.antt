-- What to believe: questions in order, sets as bit maps, lists, reading bytes, output in a lent buffer.
pub mod Outcome
pub mod BitSet
pub mod Lists
pub mod Reading
pub mod Refusals
pub mod LentBuffer
-- Inside: what the contracts of inner functions cite.
pub mod Inner
