pub mod Lengths
pub mod Reading
pub mod Givens
pub mod Values
pub mod Writing
pub mod Types
