mod Next
pub mod Handing
pub mod Running
pub mod Entering
pub mod Counts
pub mod Soundness
pub mod Trees
mod Environments
pub mod Readiness
pub mod Types
pub mod Meaning
pub mod Cases
pub mod Answers
pub mod Former
pub mod Changed
pub mod Overriding
