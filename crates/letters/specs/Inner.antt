-- What the contracts of inner functions cite.
pub mod Names
pub mod Reading
pub mod RootPass
