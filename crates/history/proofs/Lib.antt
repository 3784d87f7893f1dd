-- The tree theorem, and what it rests on.
pub mod Theorem
-- Witnesses: the first one, following names through letters, verdicts by computation.
pub mod Verdict
-- Trees along a walk: positions, rounds, states, and two rules along their walks.
pub mod Walk
-- The first repeat of a sequence, its search, and that the trees of a walk repeat.
pub mod Repeat
-- Records of trees, and question 9.
pub mod Records
-- Names of nodes: their order, where a node comes from, stable and accepting names, old numbers.
pub mod Names
-- The root by itself: how it goes on, where it is the whole tree, and when it accepts.
pub mod Root
-- One letter: the local form, that it is document 01's steps, one node, and the trees of a rule.
pub mod Step
-- What a tree is: sets of states, conditions on nodes, hosts.
pub mod Tree
