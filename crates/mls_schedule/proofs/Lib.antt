pub mod LawsLemmas
pub mod Lengths
