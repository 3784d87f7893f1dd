-- What the contracts of inner functions cite.
pub mod Following
pub mod NamesByDepth
pub mod OldNumbers
pub mod RecordChecks
pub mod Root
