pub mod Bounds
pub mod CommandLine
pub mod Programs
pub mod Reasons
