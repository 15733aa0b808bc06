pub mod Seen
pub mod ModuleErrors
