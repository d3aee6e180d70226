pub mod Points
pub mod Signatures
pub mod Laws
pub mod Coordinates
pub mod Digits
pub mod Rows
pub mod Equation
