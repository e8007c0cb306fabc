pub mod Entries
pub mod Running
