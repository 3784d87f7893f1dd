-- What to believe: the answer to an input of which a beginning is read.
pub mod Input
