pub mod Joined
pub mod Firsts
pub mod Kept
