pub mod Marking
pub mod Ordering
pub mod Choosing
