mod Gathered
mod Table
mod Passes
mod Clause
mod Equal
