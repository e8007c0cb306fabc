pub mod Marking
pub mod Orders
pub mod Calls
pub mod Reading
pub mod Owners
pub mod Roots
pub mod Descent
pub mod Rows
