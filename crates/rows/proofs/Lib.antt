mod Clearing
mod Power
mod Row
pub mod Cells
mod Rows
mod Filling
