mod Targets
mod Marking
