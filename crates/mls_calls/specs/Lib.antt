pub mod Answers
pub mod Calls
pub mod Faults
pub mod Given
pub mod Listing
pub mod Names
pub mod Parts
pub mod Shown
