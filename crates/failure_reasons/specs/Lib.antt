pub mod Files
pub mod Fronts
pub mod Telling
pub mod Forms
pub mod Lines
pub mod ScriptReasonsTelling
pub mod FailureReasonsLines
pub mod Loads
