pub mod ByteLaws
pub mod LoadingLaws
pub mod MemoryLaws
pub mod RunLaws
pub mod StandingLaws
