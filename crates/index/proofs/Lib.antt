pub mod Rows
pub mod Bodies
