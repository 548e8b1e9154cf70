pub mod CommitLemmas
pub mod FaultLemmas
pub mod OpenLemmas
pub mod OverLemmas
pub mod RowLemmas
pub mod TableLemmas
pub mod ViewLemmas
