pub mod Dangling
