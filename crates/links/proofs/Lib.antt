pub mod Slots
pub mod Named
pub mod Linking
pub mod Rows
