pub mod Grammar
pub mod Pieces
pub mod Statements
pub mod Items
pub mod Texts
pub mod Adding
pub mod Streams
