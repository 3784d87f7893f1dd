-- What to believe: forests and trees, one letter, records, the trees along a walk and the verdict.
pub mod Forest
pub mod Tree
pub mod Letter
pub mod OlderSiblings
pub mod Record
pub mod Rounds
pub mod Verdict
pub mod Finding
-- Inside: what the contracts of inner functions cite.
pub mod Inner
