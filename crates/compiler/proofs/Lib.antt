pub mod Readings
mod Answers
