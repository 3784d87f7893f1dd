-- Witnesses: the first one, following names through letters, verdicts by computation.
pub mod FirstWitness
pub mod AnyRounds
pub mod FollowingLaws
pub mod CycleVerdict
pub mod CutCycle
pub mod VerdictTest
