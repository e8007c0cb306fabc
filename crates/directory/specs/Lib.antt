pub mod Layout
pub mod Tabled
