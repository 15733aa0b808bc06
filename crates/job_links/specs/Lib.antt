pub mod Reads
pub mod Alone
pub mod Answers
pub mod Linking
pub mod Statuses
pub mod MergedJobs
