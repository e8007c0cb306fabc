pub mod Agreed
pub mod Placed
