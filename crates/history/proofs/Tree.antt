-- What a tree is: sets of states, conditions on nodes, hosts.
pub mod SetFacts
pub mod Conditions
pub mod Hosts
