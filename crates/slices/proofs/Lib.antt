pub mod Overwrite
pub mod Parts
