pub mod States
pub mod Linked
pub mod Laws
