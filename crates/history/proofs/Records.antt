-- Records of trees, and question 9.
pub mod Members
pub mod HostLabels
pub mod RecordOfTree
pub mod Tags
pub mod QuestionNine
pub mod RecordChecks
