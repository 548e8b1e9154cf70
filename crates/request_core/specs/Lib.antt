pub mod States
pub mod Faults
pub mod Requests
pub mod Fold
pub mod Pictures
pub mod StepResults
pub mod Readings
pub mod Agreement
