pub mod Numbers
pub mod Response
pub mod Production
pub mod Words
