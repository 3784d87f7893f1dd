-- What to believe: the outcome of the call.
pub mod StartCall
-- Inside: what the contracts of inner functions cite.
pub mod Inner
