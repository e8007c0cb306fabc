pub mod Compile
pub mod Answers
