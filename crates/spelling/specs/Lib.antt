-- What to believe: the spellings that document 02 names, and the call that compares two walks.
pub mod Spellings
pub mod SameCall
-- Inside: what the contracts of inner functions cite.
pub mod Inner
