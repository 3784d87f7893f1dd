-- The call.
pub mod StepCall
pub mod CallNumbers
-- One letter in one pass over the nodes of a tree.
pub mod StepOfNodes
pub mod Levels
pub mod PassSteps
pub mod ClosingLoop
pub mod PassLoop
pub mod PassNode
pub mod PassTree
-- The running set: the siblings in the order in which the pass reaches them.
pub mod SiblingsInTurn
pub mod AlongSiblings
pub mod AlongRoot
pub mod RunningSet
pub mod GrownNodes
pub mod Renamed
pub mod OldNumbers
pub mod MapsByNumber
