-- Names of nodes: their order, where a node comes from, stable and accepting names, old numbers.
pub mod Names
pub mod NameOrder
pub mod NamesDistinct
pub mod NamesByDepth
pub mod Origins
pub mod OriginsDistinct
pub mod StableNames
pub mod AcceptingNames
pub mod OldNumberLaws
