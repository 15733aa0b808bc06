pub mod Booleans
pub mod BooleanLaws
