pub mod Chains
pub mod Targets
mod Rows
mod Clauses
mod Walking
mod Walks
mod Trees
