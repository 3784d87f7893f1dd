-- What to believe: walks, what a judge asks, endless runs, loops, what it means to keep a rule, and what a verdict decides.
pub mod Walk
pub mod Judging
pub mod Run
pub mod Lasso
pub mod Keeps
pub mod Verdict
pub mod EqualOn
-- Inside: what the contracts of inner functions cite.
pub mod Inner
