pub mod Bytes
pub mod Digits
pub mod Scalars
pub mod Sums
