-- The theorems on rule tables, and what they rest on.
pub mod Theorems
pub mod RoundTrip
pub mod Reading
pub mod Parts
pub mod LetterCells
-- Numbers of refusals, and numbers in range.
pub mod RefusalNumbers
pub mod Ranges
-- The reader.
pub mod CellByte
pub mod RowReading
pub mod ManyReading
pub mod PaddedReading
pub mod RuleReading
pub mod Asked
pub mod GridReading
-- The writer.
pub mod GridWriting
pub mod RowWriting
pub mod TableWriting
pub mod WriteOutcome
-- The questions to a table and a letter.
pub mod LetterAsked
