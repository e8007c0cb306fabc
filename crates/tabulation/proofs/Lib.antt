pub mod Chosen
pub mod Assignments
pub mod Giving
pub mod Halves
pub mod Widths
pub mod Rows
pub mod Answers
