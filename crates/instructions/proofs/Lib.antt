mod Stack
mod Tries
pub mod Memory
mod Steps
