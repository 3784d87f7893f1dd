-- What the contracts of inner functions cite.
pub mod SplitCode
pub mod TextCode
