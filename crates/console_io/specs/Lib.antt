pub mod Chunks
pub mod Inputs
pub mod Messages
pub mod Sinks
pub mod Status
pub mod Saved
