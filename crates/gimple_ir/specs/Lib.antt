pub mod Names
pub mod Values
pub mod Lattices
pub mod CodeBound
pub mod Statements
pub mod Checks
pub mod Programs
