pub mod Waiting
pub mod Placing
pub mod Numbered
pub mod Refusing
pub mod Queueing
pub mod Slices
