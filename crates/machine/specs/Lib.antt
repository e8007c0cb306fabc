pub mod Instructions
pub mod Blocks
pub mod Acceptance
pub mod Machine
pub mod Run
pub mod Service
