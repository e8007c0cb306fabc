pub mod Landing
pub mod Steps
mod Refused
pub mod Examples
