pub mod Inputs
pub mod Results
pub mod Reading
pub mod Writing
