pub mod Registers
pub mod Offsets
