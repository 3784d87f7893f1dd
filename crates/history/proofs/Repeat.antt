-- The first repeat of a sequence, its search, and that the trees of a walk repeat.
pub mod FirstRepeats
pub mod CycleFinding
pub mod Positional
pub mod TreeCode
pub mod RepeatExists
