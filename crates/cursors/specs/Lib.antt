pub mod Cursor
pub mod Leb128
pub mod Fixed
pub mod Reading
pub mod Lines
pub mod Decimals
