pub mod Emission
pub mod Terms
pub mod Chains
pub mod Pieces
pub mod Book
