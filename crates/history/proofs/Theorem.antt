-- The tree theorem, and what it rests on.
pub mod BetweenBreakpoints
pub mod Descent
pub mod Siblings
pub mod WitnessToLasso
pub mod LassoToWitness
pub mod TreeTheorem
pub mod WeakerVerdicts
