pub mod Drafts
pub mod Merges
pub mod Leaves
pub mod Seals
pub mod OtherExtensions
pub mod Outcomes
pub mod OwnLeaves
