pub mod Operators
pub mod Outcomes
pub mod Clauses
pub mod Agreement
