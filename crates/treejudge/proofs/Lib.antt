-- What the contract says, the examples of document 01, and the judge on look-ups that are ready.
pub mod TreeVerdict
pub mod Examples
pub mod Judging
-- Finding the first repeat: rounds read and compared, the search for the period, the search for the entry, and what they find.
pub mod SameTrees
pub mod RoundsRead
pub mod CycleSearch
pub mod EntrySearch
pub mod RepeatSearch
-- The name of a node.
pub mod NodeNames
