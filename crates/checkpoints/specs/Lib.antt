pub mod Places
pub mod Stored
pub mod Search
pub mod Changes
pub mod Invariants
pub mod Spacing
