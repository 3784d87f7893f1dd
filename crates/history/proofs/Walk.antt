-- Trees along a walk: positions, rounds, states, and two rules along their walks.
pub mod Stretches
pub mod RoundPositions
pub mod TreesOfWalk
pub mod WitnessByPosition
pub mod StatesReached
pub mod StatesOfTrees
pub mod AroundLoop
pub mod SameAlong
