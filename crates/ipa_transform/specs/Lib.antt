pub mod Versioned
pub mod Members
