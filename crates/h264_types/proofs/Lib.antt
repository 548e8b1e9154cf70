pub mod SameSets
pub mod FallBack
pub mod StandardTables
pub mod ScalingEntries
pub mod Same
