pub mod Sequential
pub mod Passes
pub mod Locking
