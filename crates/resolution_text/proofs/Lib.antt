pub mod Numbers
pub mod Shapes
pub mod Spellings
pub mod Printed
