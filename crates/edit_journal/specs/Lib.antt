pub mod Faults
pub mod Journals
pub mod Lines
pub mod Tables
