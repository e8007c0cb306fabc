pub mod Rows
pub mod Service
pub mod Answers
