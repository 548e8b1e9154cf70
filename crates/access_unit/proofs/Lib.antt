pub mod Shown
pub mod Keeps
pub mod Firsts
pub mod Pieces
pub mod Progress
pub mod Lengths
pub mod LoneSlices
pub mod Texts
pub mod UnitsAt
pub mod StreamParts
pub mod Trailing
mod PartsAlone
