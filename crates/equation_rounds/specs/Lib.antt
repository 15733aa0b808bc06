pub mod Systems
pub mod Rounds
pub mod Waiting
