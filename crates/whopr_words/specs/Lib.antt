pub mod WordReading
pub mod Commands
pub mod Spoken
pub mod Jobs
