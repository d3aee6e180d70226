pub mod Faults
pub mod Short
pub mod Leaf
pub mod Checks
pub mod Laws
