-- Transitions and successors.
pub mod Edges
pub mod SameSquares
pub mod Padding
-- The word of lanes, and the look-up.
pub mod LaneLaws
pub mod ByRelation
pub mod RowWords
pub mod LookupSteps
pub mod LookupLaws
