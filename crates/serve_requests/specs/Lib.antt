pub mod Calls
pub mod Failures
pub mod Fields
pub mod Messages
pub mod Methods
pub mod Parameters
pub mod Reasons
pub mod Requests
