pub mod JumpFunctions
pub mod Summaries
pub mod Tables
pub mod Ready
pub mod Summarised
