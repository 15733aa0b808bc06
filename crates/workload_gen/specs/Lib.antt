pub mod Draws
pub mod Choices
pub mod Functions
pub mod Modules
pub mod Places
