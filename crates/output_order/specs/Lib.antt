pub mod OutputOrder
pub mod Shown
pub mod OrderKeys
pub mod Periods
pub mod InPlace
pub mod PeriodLists
pub mod Bounds
pub mod Places
