pub mod Judging
pub mod ObjectImages
pub mod ObjectsInOrder
pub mod ReadingFiles
pub mod Telling
pub mod Reporting
pub mod RunningJobs
pub mod JobPrograms
