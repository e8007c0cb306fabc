mod Steps
mod Cells
mod Bodies
mod Positions
mod Laying
mod Tallies
mod Stores
mod Filling
pub mod Beginnings
