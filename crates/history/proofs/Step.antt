-- One letter: the local form, that it is document 01's steps, one node, and the trees of a rule.
pub mod LocalStep
pub mod LabelsOfStep
pub mod StepsJoined
pub mod OlderSiblingLaws
pub mod OneNode
pub mod BranchFits
pub mod TreesKept
pub mod TreesOf
pub mod SameSquares
