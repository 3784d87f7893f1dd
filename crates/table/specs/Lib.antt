-- What to believe: tables, a letter of a table, and the outcomes of the calls.
pub mod Table
pub mod LetterQuestions
pub mod Cells
pub mod ReadCall
pub mod WriteCall
pub mod Theorems
-- Inside: what the contracts of inner functions cite.
pub mod Inner
