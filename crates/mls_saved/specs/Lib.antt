pub mod State
pub mod Kept
pub mod Member
pub mod Candidate
pub mod ReadFaults
pub mod Loading
