pub mod Marks
pub mod Choosing
