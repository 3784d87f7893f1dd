-- The root by itself: how it goes on, where it is the whole tree, and when it accepts.
pub mod RootLetter
pub mod RootLetters
