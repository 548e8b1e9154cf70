pub mod ParameterSets
pub mod Numbers
pub mod Slices
pub mod Faults
pub mod Answers
pub mod Gathering
