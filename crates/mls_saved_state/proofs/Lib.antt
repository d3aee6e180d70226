mod Copies
pub mod Loading
mod Lengths
mod SavedTrees
