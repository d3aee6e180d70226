pub mod Bits
pub mod Encoding
pub mod Meaning
pub mod Scalars
