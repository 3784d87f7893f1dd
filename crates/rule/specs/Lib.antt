-- What to believe: the limits, rules, and rules that fit their numbers.
pub mod Limits
pub mod Rule
pub mod WellFormed
-- Inside: what the contracts of inner functions cite.
pub mod Inner
