pub mod Compiled
pub mod Meets
pub mod Related
pub mod Agreement
