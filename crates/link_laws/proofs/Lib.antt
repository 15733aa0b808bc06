pub mod Directly
pub mod Joining
