pub mod Epoch
pub mod Transcript
pub mod Twins
pub mod Laws
pub mod EpochFields
pub mod Faults
