pub mod GroupLines
pub mod NumberedLines
pub mod OneReading
pub mod ReadCommands
pub mod Wanting
