pub mod Booleans
pub mod Zeros
