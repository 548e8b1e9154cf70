pub mod Calls
pub mod Units
