pub mod Products
pub mod ShownUnits
pub mod Marks
pub mod Growing
pub mod Zipped
