pub mod Response
pub mod Production
pub mod Within
