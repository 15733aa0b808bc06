pub mod Fork
pub mod Claims
pub mod Steps
