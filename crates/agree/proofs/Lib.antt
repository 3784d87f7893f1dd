pub mod Agreeing
pub mod TwoSpellings
pub mod UnusedEdits
