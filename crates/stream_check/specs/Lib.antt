pub mod StreamCounts
pub mod CheckResult
pub mod Spans
pub mod Problems
pub mod SetWords
pub mod Unread
