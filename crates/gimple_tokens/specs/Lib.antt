pub mod Tokens
pub mod Found
pub mod Reading
pub mod Numbers
pub mod Operators
pub mod Stops
