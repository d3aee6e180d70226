pub mod Kdf
pub mod Keyed
pub mod Lengths
pub mod Faults
pub mod Outputs
