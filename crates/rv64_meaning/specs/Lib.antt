pub mod Arithmetic
pub mod Bytes
pub mod Laws
pub mod Loading
pub mod LoadingCode
pub mod Machine
pub mod Standings
pub mod View
