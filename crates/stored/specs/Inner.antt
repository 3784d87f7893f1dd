-- The name of a call, the numbers of the writer, one call's answer compared, one line counted.
pub mod Comparing
