pub mod Noted
pub mod Books
pub mod Sets
pub mod Drops
pub mod Noting
pub mod Faults
pub mod Numbers
pub mod Following
