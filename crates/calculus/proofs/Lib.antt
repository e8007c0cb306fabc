-- Laws that the proofs of several functions use, and those that other crates cite.
pub mod Numbers
pub mod Joining
pub mod Exceptions
mod ReductionExceptions
mod ReductionHalts
pub mod Reduction
pub mod ProcessExceptions
pub mod Overriding
pub mod Sides
