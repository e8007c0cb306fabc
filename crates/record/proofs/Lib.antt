pub mod Decision
mod Same
