pub mod Handing
pub mod Run
pub mod Evaluate
pub mod Types
pub mod Readiness
pub mod Meaning
pub mod Answers
pub mod Former
