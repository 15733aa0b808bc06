pub mod Uses
pub mod Sums
