pub mod Edited
pub mod GivenIds
pub mod Accepted
pub mod LastId
pub mod Fronts
pub mod Grouped
pub mod Drafted
pub mod OneUnit
pub mod OneEdit
pub mod Hashed
pub mod SnapshotsAccepted
mod None
mod ReadAs
mod Rising
