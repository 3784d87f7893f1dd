-- What to believe: the call that looks a set's successors up, and what its answer says by members.
pub mod SuccessorsCall
pub mod Reached
