mod Positions
pub mod Invariant
pub mod Blocks
mod Ends
pub mod Limits
mod Tables
mod Entering
mod Known
mod Large
mod Typed
pub mod Scopes
