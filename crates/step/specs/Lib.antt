-- What to believe: the outcome of the call.
pub mod StepCall
-- What to believe: the running set of step 3.
pub mod RunningSet
-- Inside: what the contracts of inner functions cite.
pub mod Inner
