pub mod Fronts
pub mod Told
pub mod ToldFronts
pub mod FrontLaws
pub mod Refusals
pub mod HeaderLaws
