-- Laws that the proofs cite.
pub mod Determined
pub mod Comparing
pub mod CallNames
pub mod RightLines
pub mod Tallying
pub mod Examples
