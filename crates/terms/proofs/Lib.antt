-- Laws that the proofs of several functions use, and those that other crates cite.
mod Operators
mod Leaves
pub mod Defaults
pub mod Nodes
mod Clauses
pub mod Agreement
pub mod Trees
