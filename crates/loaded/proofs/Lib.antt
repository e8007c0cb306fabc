pub mod Preparing
pub mod Taken
mod Running
