pub mod Faults
pub mod NewPath
pub mod Parts
