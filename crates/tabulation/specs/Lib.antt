pub mod Chosen
pub mod Assignments
pub mod Giving
pub mod Tabulate
pub mod Answers
