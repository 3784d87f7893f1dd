-- What the contracts of inner functions cite.
pub mod Letters
pub mod Rounds
pub mod Search
pub mod Ways
