pub mod CheckLaws
pub mod Combine
pub mod CombineLaws
pub mod LawsLemmas
pub mod Started
mod Names
