pub mod Words
pub mod Places
pub mod Statements
pub mod Canonical
