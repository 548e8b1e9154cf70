pub mod Requested
mod Pictures
mod Readings
pub mod Agreement
