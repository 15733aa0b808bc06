pub mod Vectors
pub mod Rules
pub mod Plans
pub mod Example
pub mod Numbering
pub mod Laws
