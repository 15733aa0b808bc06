pub mod GroupSteps
pub mod Leb128Laws
pub mod Fields
pub mod FixedLaws
pub mod LineLaws
pub mod DecimalLaws
