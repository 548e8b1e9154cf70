pub mod Once
pub mod Chosen
pub mod FoldSteps
mod Documents
mod OneByOne
mod Inserted
mod Landed
mod Pointwise
mod Keyless
mod Seen
