pub mod Lasts
pub mod Weights
pub mod Crossing
pub mod Choosing
pub mod Counting
pub mod Keeping
