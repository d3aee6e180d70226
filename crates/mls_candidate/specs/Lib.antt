pub mod Faults
pub mod Saved
pub mod LoadFaults
pub mod Leaves
pub mod Short
