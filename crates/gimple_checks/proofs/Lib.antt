pub mod Lists
pub mod SeenNames
pub mod LabelOrder
pub mod Faults
