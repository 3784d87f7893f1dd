pub mod FineWilf
pub mod Comparing
pub mod Spellings
pub mod SameAnswers
