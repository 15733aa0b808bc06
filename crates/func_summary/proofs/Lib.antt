pub mod Keyed
pub mod Components
pub mod Ascending
pub mod Calls
pub mod Checked
