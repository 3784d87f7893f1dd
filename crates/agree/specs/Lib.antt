-- What to believe: demand 3, the call of both judges, two spellings of one walk, and two tables that differ where a walk never goes.
pub mod Agreement
pub mod BothCall
pub mod Spellings
pub mod Edits
