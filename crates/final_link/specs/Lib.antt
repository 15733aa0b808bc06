pub mod Stubs
pub mod Image
pub mod Filling
pub mod Names
pub mod Members
pub mod Arrays
pub mod Symbols
pub mod Placing
