-- What the contracts of inner functions cite.
pub mod Places
pub mod PackedNodes
pub mod RecordCode
pub mod RecordNodes
pub mod Nodes
pub mod Sides
