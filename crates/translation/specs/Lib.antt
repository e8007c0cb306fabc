pub mod Code
pub mod Blocks
pub mod Measures
