pub mod Named
pub mod Unsound
pub mod Doubted
pub mod Next
pub mod Columns
pub mod Intra
