pub mod Faults
pub mod Secrets
pub mod State
