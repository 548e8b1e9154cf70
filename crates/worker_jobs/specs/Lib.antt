pub mod Wanted
pub mod Taking
pub mod Rests
pub mod JobCounts
