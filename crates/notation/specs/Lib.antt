-- What to believe: texts in parts, numbers in decimal, byte strings in hexadecimal, texts on one line, and what the answer of a comparer says.
pub mod Parts
pub mod Decimal
pub mod Bytes
pub mod Hexadecimal
pub mod OneLine
pub mod Testing
