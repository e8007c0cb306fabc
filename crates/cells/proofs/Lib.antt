pub mod Codec
pub mod Variables
pub mod Joining
