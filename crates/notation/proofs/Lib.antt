-- Laws that the proofs cite.
pub mod Testing
pub mod DecimalDigits
pub mod ByteTexts
pub mod OneLines
