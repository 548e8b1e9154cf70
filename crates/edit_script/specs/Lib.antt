pub mod Commands
pub mod Lines
pub mod Scripts
pub mod Kinds
pub mod SeatScripts
pub mod SessionScripts
pub mod Words
pub mod EditScripts
