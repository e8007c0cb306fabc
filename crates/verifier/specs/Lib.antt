pub mod Instructions
pub mod Pass
