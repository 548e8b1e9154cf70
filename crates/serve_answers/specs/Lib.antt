pub mod Introductions
pub mod JobAnswers
pub mod JournalAnswers
pub mod LeftOutAnswers
pub mod Replies
pub mod UnitAnswers
