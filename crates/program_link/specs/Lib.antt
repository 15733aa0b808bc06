pub mod Known
pub mod Objects
pub mod Versions
pub mod Linking
pub mod Laws
