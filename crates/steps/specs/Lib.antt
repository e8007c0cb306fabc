pub mod Limits
pub mod Edges
pub mod Owners
pub mod Answers
