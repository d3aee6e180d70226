pub mod Faults
pub mod Codes
pub mod PathChecks
pub mod PathMerge
pub mod Outcome
