-- What to believe: the outcome of the plain judge's call.
pub mod PlainCall
-- Inside: what the contracts of inner functions cite.
pub mod Inner
