pub mod Faults
pub mod TwoSteps
pub mod OwnPath
pub mod LongList
pub mod CommitCall
