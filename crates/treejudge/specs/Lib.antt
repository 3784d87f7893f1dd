-- What to believe: the outcome of the tree judge's call, and the examples of document 01.
pub mod JudgeCall
pub mod Examples
-- Inside: what the contracts of inner functions cite.
pub mod Inner
