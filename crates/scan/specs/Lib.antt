pub mod Counting
pub mod Step
pub mod Filling
