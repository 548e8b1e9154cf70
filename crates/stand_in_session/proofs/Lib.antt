pub mod Ran
pub mod ByNumber
