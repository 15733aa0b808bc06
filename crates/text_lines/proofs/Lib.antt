pub mod Lengths
pub mod Names
pub mod Rows
pub mod Spelled
