pub mod Digits
pub mod Steps
pub mod Named
pub mod Counts
pub mod Braces
