mod Near
mod Cycles
mod Counted
mod Filters
mod Places
mod Turns
mod Least
mod Slides
mod Firsts
mod Outcomes
mod Decisions
mod Leasts
mod StepLaws
pub mod MarkingLaws
pub mod Sorting
pub mod RefListsPlaces
pub mod Entries
pub mod Puts
pub mod Modifications
pub mod SliceLists
pub mod ListLaws
