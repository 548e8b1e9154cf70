pub mod CommandFaults
pub mod Matches
pub mod Unopened
mod Edited
