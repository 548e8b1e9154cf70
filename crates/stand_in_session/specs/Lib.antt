pub mod Machines
pub mod Showing
pub mod Jobs
pub mod Needing
pub mod Runs
pub mod Copies
