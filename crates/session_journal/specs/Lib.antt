pub mod RecordRows
pub mod Records
pub mod SessionJournalKept
pub mod Standing
