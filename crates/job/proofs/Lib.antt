-- What the contract says, and the printed example of document 01.
pub mod JobVerdict
pub mod PrintedVerdict
pub mod JobExamples
-- Question 12: the parts of a job, and where they end.
pub mod Splitting
-- Texts that grow at their end, the digits of a number, and names.
pub mod Appending
pub mod DecimalDigits
pub mod NameTexts
-- The answers of the two judges as the text of a job.
pub mod JobJudging
