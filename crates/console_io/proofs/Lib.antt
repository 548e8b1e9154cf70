pub mod Chunked
pub mod Reading
pub mod Telling
