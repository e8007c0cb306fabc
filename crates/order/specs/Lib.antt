pub mod Search
pub mod Order
pub mod Reaching
pub mod Matrix
pub mod Memo
pub mod Answer
