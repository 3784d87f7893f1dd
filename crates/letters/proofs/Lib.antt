-- Reading letters, and following names through them.
pub mod LettersRead
pub mod MapsCarried
pub mod Staying
pub mod NamesFollowed
-- The root alone: the loop over the letters, and what it says of trees.
pub mod RootPass
pub mod RootTrees
