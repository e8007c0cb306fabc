pub mod Cells
mod Hands
pub mod Known
mod Running
mod Entering
