pub mod Templates
pub mod Operations
pub mod Assembly
pub mod Code
pub mod Items
pub mod Selected
pub mod Placed
