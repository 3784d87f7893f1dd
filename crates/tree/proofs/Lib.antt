-- The call.
pub mod StartCall
pub mod CallNumbers
-- The nodes as words, and a tree's nodes in the code.
pub mod PackedWords
pub mod TreeNodes
-- Records: the check, reading and writing.
pub mod ChecksInTurn
pub mod ReadingInTurn
pub mod NodesOfRecord
pub mod WritingInTurn
pub mod RecordOfNodes
