pub mod Fields
pub mod Reading
pub mod Printing
pub mod Answers
