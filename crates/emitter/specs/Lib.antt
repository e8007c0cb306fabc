pub mod Emission
pub mod Pieces
