mod Rows
mod Counts
pub mod Answers
mod Service
