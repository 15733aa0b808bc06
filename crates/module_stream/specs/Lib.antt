pub mod Codes
pub mod Fields
pub mod Readers
pub mod Bodies
pub mod BodyReading
pub mod Declarations
pub mod DeclarationReading
