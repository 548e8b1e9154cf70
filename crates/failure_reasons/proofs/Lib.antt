mod Found
pub mod Fronts
mod Texts
mod Lines
