pub mod Bare
pub mod BareLaws
pub mod CheckedHash
