mod Listening
mod Progress
mod Reading
